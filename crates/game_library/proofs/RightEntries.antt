-- What solves the body of a predicate, or the formula of a win, is a right entry.
use Rattle.std.proofs.Common.{◌≡◌, ℕ, zero, suc, ◌<◌, List, [], ◌∷◌, length, refl, sym, ap, subst, ◌∙◌, ◌⊎◌, inl, inr, arith}
use Rattle.std.specs.Prelude.{◌↔◌, All, Contains, Option, Some, slice_index, slice_get}
use Rattle.std.specs.List.{range_with_len}
use Rattle.std.proofs.lemmas.List.Elements.{All-nil, All-cons, All-weaker, All-contains}
use Rattle.std.proofs.lemmas.List.FromFn.{length-range_with_len, get_or-range_with_len}
use Rattle.tree_facts.proofs.Members.{contains_first, contains_cases}
use Rattle.tree_model.specs.declared.kind.Kind.TheVariants as kind
use Rattle.tree_model.specs.declared.tree.Symbol.{Symbol}
use Rattle.tree_model.specs.Signatures.{Signature, TreeOver, declared_at}
use Rattle.tree_model.specs.Trees.{at}
use Rattle.tree_model.specs.Valuations.{Valuation}
use Rattle.formula_ast.specs.declared.file.File.{File}
use Rattle.formula_ast.specs.declared.pred.Pred.{Pred}
use Rattle.formula_ast.specs.declared.term.Term.{Term}
use Rattle.formula_ast.specs.declared.term.Term.TheVariants.{Var}
use Rattle.formula_ast.specs.declared.term.Term.TheViews.{out-Term}
use Rattle.formula_ast.specs.Forms.{form_of}
use Rattle.formula_ast.specs.Satisfaction.{parameters}
use Rattle.formula_ast.specs.WellFormed.{FormOver, TermOver, OccursIn, IsFreeIn, IsPredOver, IsWellFormed}
use Rattle.form_facts.specs.Winning.{winning_form}
use Rattle.form_facts.proofs.Bodies.{predicate_is_its_body}
use Rattle.form_facts.proofs.Winning.{winning_form_is}
use Rattle.flat_form.specs.declared.cube.Cube.{Cube}
use Rattle.flat_form.specs.Meanings.{SomeHolds}
use Rattle.flat_form.specs.Normals.{Norm}
use Rattle.flat_form.specs.Numbering.{CubesOver, IsWellNumbered}
use Rattle.flat_form.specs.Reduced.{IsReduced}
use Rattle.flat_form.specs.Symbols.{cubes_symbols}
use Rattle.flattening.specs.declared.solved.Key.{Key}
use Rattle.flattening.specs.declared.solved.Key.TheVariants.{Call, Win}
use Rattle.flattening.specs.Conditions.{GivesRanks, HasFreeVariables, KeyHolds}
use Rattle.flattening.specs.Flattening.{flattening_of}
use Rattle.flattening.specs.Symbols.{symbols_in, form_symbols}
use Rattle.flattening.specs.Tables.{HasKey}
use Rattle.game_library.specs.Entries.{arity, arity_or, StandsInBodies, lost, called, next, IsRight}
use Rattle.game_library.specs.Needs.{asked_keys}
use Rattle.game_library.specs.Solving.{StandsIn, IsSolved}

-- ---- within no moves nobody wins

lost_means : (file : File) (p : ℕ) (trees : List (TreeOver file.signature)) → SomeHolds (parameters file.signature trees) [] ↔ KeyHolds file.signature file.preds (Win p 0) trees
lost_means file p [] = (λ h. h, λ h. h)
lost_means file p (t ∷ []) = (λ h. h, λ h. h)
lost_means file p (t ∷ s ∷ more) = (λ h. h, λ h. h)

pub lost_right : (gives : ℕ → Norm → List Cube → Type 0) (file : File) (p : ℕ) → IsRight gives file (Win p 0) []
lost_right gives file p = record {
  entry = lost p;
  over = All-nil (λ (cube : Cube). (cube.free ≡ 1) × IsWellNumbered cube);
  reduced = All-nil IsReduced;
  distinct = tt;
  symbols = All-nil (StandsInBodies file);
  means = λ trees size. lost_means file p trees;
}

-- ---- the formula of a win

variable_over : (σ : Signature) (n v : ℕ) → v < n → TermOver σ n (Var v)
unfolding out-Term denote.Hole.Carrier.out
variable_over σ n v less [] = less
variable_over σ n v less (i ∷ path) = tt

pub winning_over : (σ : Signature) (p k : ℕ) → declared_at σ p ≡ Some (kind.Pred, 2) → FormOver σ σ 3 (winning_form p k)
winning_over σ p k is =
    let zero_is : TermOver σ 3 (Var 0) = variable_over σ 3 0 (omega arith) in
    let one_is : TermOver σ 3 (Var 1) = variable_over σ 3 1 (omega arith) in
    let two_is : TermOver σ 3 (Var 2) = variable_over σ 3 2 (omega arith) in
    (omega arith, ((is, pair (Var 0) (Var 1) zero_is one_is), (omega arith, ((is, pair (Var 1) (Var 2) one_is two_is), (is, two_is)))))
  where
    pair : (t s : Term) → TermOver σ 3 t → TermOver σ 3 s → All (TermOver σ 3) (t ∷ s ∷ [])
    pair t s a b = All-cons (TermOver σ 3) t (s ∷ []) a (All-cons (TermOver σ 3) s [] b (All-nil (TermOver σ 3)))

variable_occurs : (x v : ℕ) → OccursIn x (Var v) → x ≡ v
unfolding out-Term denote.Hole.Carrier.out
variable_occurs x v ([], is) = cc
variable_occurs x v (i ∷ path, is) = absurd (cc)

pair_occurs : (x u v i : ℕ) (t : Term) → slice_get (Var u ∷ Var v ∷ []) i ≡ Some t → OccursIn x t → (x ≡ u) ⊎ (x ≡ v)
pair_occurs x u v zero t got occurs = inl (variable_occurs x u (subst (λ (s : Term). OccursIn x s) (sym (by got)) occurs))
  where
    by : ◌≡◌ {A = Option Term} (Some (Var u)) (Some t) → Var u ≡ t
    by e = cc
pair_occurs x u v (suc zero) t got occurs = inr (variable_occurs x v (subst (λ (s : Term). OccursIn x s) (sym (by got)) occurs))
  where
    by : ◌≡◌ {A = Option Term} (Some (Var v)) (Some t) → Var v ≡ t
    by e = cc
pair_occurs x u v (suc (suc i)) t got occurs = absurd (cc)

winning_free : (p k x : ℕ) → IsFreeIn x (winning_form p k) → x ≡ 0
winning_free p k x (not_one, inl (i, t, got, occurs)) = elim (pair_occurs x 0 1 i t got occurs) [ inl h ↦ h | inr h ↦ absurd (not_one h) ]
winning_free p k x (not_one, inr (not_two, inl (i, t, got, occurs))) =
    elim (pair_occurs x 1 2 i t got occurs) [ inl h ↦ absurd (not_one h) | inr h ↦ absurd (not_two h) ]
winning_free p k x (not_one, inr (not_two, inr occurs)) = absurd (not_two (variable_occurs x 2 occurs))

pub winning_ranks : (p k : ℕ) → HasFreeVariables (0 ∷ []) (winning_form p k)
winning_ranks p k x free = subst (λ (y : ℕ). Contains (0 ∷ []) y) (sym (winning_free p k x free)) (contains_first 0 [])

-- the formula of a win has no symbols
no_symbols : (p k : ℕ) → form_symbols (winning_form p k) ≡ []
unfolding symbols_in
no_symbols p k = refl

pub winning_has : (table : List (Key × List Cube)) (p k : ℕ) → HasKey table (Call p) → HasKey table (Win p k)
    → (key : Key) → Contains (asked_keys (winning_form p k)) key → HasKey table key
winning_has table p k has_call has_win key stands = elim (contains_cases (Call p) key (Call p ∷ Win p k ∷ []) stands) [
  | inl e ↦ subst (HasKey table) e has_call
  | inr one ↦ elim (contains_cases (Call p) key (Win p k ∷ []) one) [
    | inl e ↦ subst (HasKey table) e has_call
    | inr two ↦ elim (contains_cases (Win p k) key [] two) [
      | inl e ↦ subst (HasKey table) e has_win
      | inr none ↦ absurd (omega (arith, none.1))
    ]
  ]
]

-- ---- entries

module _ (gives : ℕ → Norm → List Cube → Type 0) (file : File) (formed : IsWellFormed file) where
  abbrev σ : Signature
  σ = file.signature

  counted : (n : ℕ) (e : Valuation σ) → GivesRanks (range_with_len 0 n) e e
  counted n e i less path =
      let within : i < n = omega (arith, length-range_with_len 0 n) in
      let is : slice_index (range_with_len 0 n) i ≡ i = omega (arith, get_or-range_with_len 0 n i 0 within) in
      ap (λ v. at (e v).graph path) is

  -- the parameters are the first variables
  pub params_are : (pred : Pred) → Contains file.preds pred → HasFreeVariables (range_with_len 0 pred.params) (form_of pred.body)
  params_are pred c x free =
      let less : x < pred.params = (All-contains (λ pred. IsPredOver σ pred) file.preds pred formed.preds c).closed x free in
      let within : x < length (range_with_len 0 pred.params) = omega (arith, less, length-range_with_len 0 pred.params) in
      (x, within, omega (arith, get_or-range_with_len 0 pred.params x x less))

  pub called_right : (pred : Pred) (cubes : List Cube) → Contains file.preds pred → declared_at σ pred.place ≡ Some (kind.Pred, pred.params)
      → IsSolved gives file (range_with_len 0 pred.params) (form_of pred.body) cubes → IsRight gives file (Call pred.place) cubes
  called_right pred cubes c declared solved =
      let size : length (range_with_len 0 pred.params) ≡ pred.params = length-range_with_len 0 pred.params in
      let arity_is : arity σ (Call pred.place) ≡ pred.params = ap arity_or declared in
      let g = solved.given in
      record {
        entry = called pred g.table c g.entries g.has (subst (λ (n : ℕ). gives n (flattening_of (range_with_len 0 pred.params) g.table (form_of pred.body)) cubes) size g.given);
        over = subst (λ (n : ℕ). CubesOver n cubes) (size ∙ sym arity_is) solved.over;
        reduced = solved.reduced;
        distinct = solved.distinct;
        symbols = All-weaker (StandsIn file (form_of pred.body)) (StandsInBodies file) in_bodies (cubes_symbols cubes) solved.symbols;
        means = λ trees many.
            let e = parameters σ trees in
            let one = solved.meaning e e (counted pred.params e) in
            let two = predicate_is_its_body file pred trees formed c in
            (λ h. two.1 (one.0 h), λ h. one.1 (two.0 h));
      }
    where
      in_bodies : (p : Symbol × ℕ) → StandsIn file (form_of pred.body) p → StandsInBodies file p
      in_bodies p (inl d) = (pred, c, d)
      in_bodies p (inr d) = d

  pub next_right : (p k : ℕ) (cubes : List Cube) → IsSolved gives file (0 ∷ []) (winning_form p k) cubes → IsRight gives file (Win p (suc k)) cubes
  next_right p k cubes solved = record {
    entry = next solved.given.table solved.given.entries solved.given.has solved.given.given;
    over = solved.over;
    reduced = solved.reduced;
    distinct = solved.distinct;
    symbols = All-weaker (StandsIn file (winning_form p k)) (StandsInBodies file) in_bodies (cubes_symbols cubes) solved.symbols;
    means = by;
  }
    where
      in_bodies : (q : Symbol × ℕ) → StandsIn file (winning_form p k) q → StandsInBodies file q
      in_bodies q (inl d) = absurd (omega (arith, (subst (λ (l : List (Symbol × ℕ)). Contains l q) (no_symbols p k) d).1))
      in_bodies q (inr d) = d

      only_zero : (e : Valuation σ) → GivesRanks (0 ∷ []) e e
      only_zero e zero less = λ path. refl
      only_zero e (suc i) less = absurd (omega (arith, less))

      by : (trees : List (TreeOver σ)) → length trees ≡ 1 → SomeHolds (parameters σ trees) cubes ↔ KeyHolds σ file.preds (Win p (suc k)) trees
      by [] size = absurd (omega arith)
      by (t ∷ s ∷ more) size = absurd (omega arith)
      by (t ∷ []) size =
          let e = parameters σ (t ∷ []) in
          let one = solved.meaning e e (only_zero e) in
          let two = winning_form_is σ file.preds p k e in
          (λ h. two.0 (one.0 h), λ h. one.1 (two.1 h))
