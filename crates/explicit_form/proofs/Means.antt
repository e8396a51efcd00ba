-- The formula of a list of cubes holds where one of them does.
use Rattle.std.proofs.Common.{◌≡◌, ℕ, zero, suc, ◌+◌, ◌<◌, ◌≤◌, Bool, true, false, cond, eqb, List, [], ◌∷◌, ◌++◌, length, map, refl, sym, ap, subst, ◌∙◌, ◌⊎◌, inl, inr, arith, Option, Some, None}
use Rattle.std.specs.Prelude.{All, ◌↔◌, IsSome, slice_get, slice_index, option_and_then}
use Rattle.std.specs.List.{range_with_len}
use Rattle.std.proofs.lemmas.Bool.{eqb-true, eqb-false, ne_eqb}
use Rattle.std.proofs.lemmas.List.Elements.{All-head, All-tail}
use Rattle.classical.specs.Classical.{Either, Exists}
use Rattle.tree_model.specs.declared.tree.Symbol.{Symbol}
use Rattle.tree_model.specs.Signatures.{Signature, TreeOver, Alike}
use Rattle.tree_model.specs.Trees.{at}
use Rattle.tree_model.specs.Valuations.{Valuation, update}
use Rattle.tree_model.proofs.Sameness.{finite_same}
use Rattle.tree_facts.proofs.Equations.{at_past, within_or_past}
use Rattle.formula_ast.specs.declared.pred.Pred.{Pred}
use Rattle.formula_ast.specs.declared.term.Term.{Term}
use Rattle.formula_ast.specs.declared.term.Term.TheVariants.{Var}
use Rattle.formula_ast.specs.declared.term.Term.TheViews.{out-Term}
use Rattle.formula_ast.specs.declared.term.Term.TheViews as views
use Rattle.formula_ast.specs.Terms.{layer_reads}
use Rattle.formula_ast.specs.Forms.{Form, no, and, or, exists}
use Rattle.formula_ast.specs.Satisfaction.{Relations, Holds, term_reads, meaning_of}
use Rattle.formula_ast.proofs.Stable.{Holds_stable}
use Rattle.flat_form.specs.declared.atom.Flat.{Flat}
use Rattle.flat_form.specs.declared.atom.Flat.TheVariants.{VarVar, VarTerm, Finite}
use Rattle.flat_form.specs.declared.cube.Part.{Part}
use Rattle.flat_form.specs.declared.cube.Cube.{Cube}
use Rattle.flat_form.specs.Meanings.{AtomHolds, BasicHolds, Extends, PartFails, AllFail, CubeHolds, SomeHolds}
use Rattle.flat_form.specs.Numbering.{AtomOver, BasicOver, PartOver, IsWellNumbered}
use Rattle.formula_printer.specs.Bound.{chained, conjunction, disjunction}
use Rattle.formula_grammar.specs.Meaning.{behind}
use Rattle.formula_grammar.specs.Written as joint
use Rattle.explicit_form.specs.Explicit.{applied, atom_form, denied, denied_form, denied_part, cube_form, explicit_of}
use Rattle.form_facts.proofs.Winning.{variable_reads}

below_other : (k v : ℕ) → v < k + 1 → (k ≡ v → ⊥) → v < k
below_other k v w ne = omega arith

or_else : {A B : Type 0} → (A → ⊥) → (B → ⊥) → A ⊎ B → ⊥
or_else f g (inl a) = f a
or_else f g (inr b) = g b

variables_many : (xs : List ℕ) → length (map {A = ℕ} {B = Term} (λ x. Var x) xs) ≡ length xs
variables_many [] = refl
variables_many (x ∷ xs) = ap suc (variables_many xs)

module _ {σ : Signature} where
  -- ---- atoms

  applied_root : (e : Valuation σ) (s : Symbol) (xs : List ℕ) → term_reads σ e (applied s xs) [] ≡ Some (s, length xs)
  applied_root e s xs =
      ap (λ l. layer_reads (λ v. (e v).graph) l []) (views.outs-App s (record { items = map (λ x. Var x) xs })) ∙ ap (λ n. Some (s, n)) (variables_many xs)

  applied_below : (e : Valuation σ) (s : Symbol) (xs : List ℕ) (i : ℕ) (path : List ℕ)
      → term_reads σ e (applied s xs) (i ∷ path) ≡ option_and_then {T = Term} {U = Symbol × ℕ} (λ t. term_reads σ e t path) (slice_get (map (λ x. Var x) xs) i)
  applied_below e s xs i path = ap (λ l. layer_reads (λ v. (e v).graph) l (i ∷ path)) (views.outs-App s (record { items = map (λ x. Var x) xs }))

  nth_child : (e : Valuation σ) (xs : List ℕ) (i : ℕ) (path : List ℕ) → i < length xs
      → option_and_then {T = Term} {U = Symbol × ℕ} (λ t. term_reads σ e t path) (slice_get (map (λ x. Var x) xs) i) ≡ at (e (slice_index xs i)).graph path
  nth_child e [] i path w = absurd (omega arith)
  nth_child e (x ∷ xs) zero path w = variable_reads e x path
  nth_child e (x ∷ xs) (suc i) path w = nth_child e xs i path (omega arith)

  nth_past : (e : Valuation σ) (xs : List ℕ) (i : ℕ) (path : List ℕ) → length xs ≤ i
      → option_and_then {T = Term} {U = Symbol × ℕ} (λ t. term_reads σ e t path) (slice_get (map (λ x. Var x) xs) i) ≡ None
  nth_past e [] i path le = refl
  nth_past e (x ∷ xs) zero path le = absurd (omega arith)
  nth_past e (x ∷ xs) (suc i) path le = nth_past e xs i path (omega arith)

  -- ---- what reads the first variables alone

  extends_less : (k : ℕ) (e : Valuation σ) (t : TreeOver σ) (d : Valuation σ) → Extends (k + 1) (update e k t) d → Extends k e d
  extends_less k e t d extends v w path =
      extends v (omega arith) path ∙ ap (λ b. at (cond b t (e v)).graph path) (ne_eqb k v (λ same. absurd (omega arith)))

  extends_more : (k : ℕ) (e d : Valuation σ) → Extends k e d → Extends (k + 1) (update e k (d k)) d
  extends_more k e d extends v w = by (eqb k v) refl
    where
      by : (b : Bool) → eqb k v ≡ b → Alike {σ = σ} (d v) (cond b (d k) (e v))
      by true is = λ path. ap (λ x. at (d x).graph path) (sym (eqb-true k v is))
      by false is = extends v (below_other k v w (eqb-false k v is))

  atom_reads : (n : ℕ) (atom : Flat) → AtomOver n atom → (d e : Valuation σ) → Extends n e d → AtomHolds d atom → AtomHolds e atom
  atom_reads n (VarVar u v) over d e alike h = λ path. sym (alike u over.0 path) ∙ h path ∙ alike v over.1 path
  atom_reads n (VarTerm u s xs) over d e alike h = record {
    root = sym (alike u over.0 []) ∙ h.root;
    child = λ i w path. sym (alike u over.0 (i ∷ path)) ∙ h.child i w path ∙ alike (slice_index xs i) (over.1 i 0 w) path;
  }
  atom_reads n (Finite u) over d e alike h = finite_same (d u).graph (e u).graph (alike u over) h

  basic_reads : (n : ℕ) (basic : List Flat) → BasicOver n basic → (d e : Valuation σ) → Extends n e d → BasicHolds d basic → BasicHolds e basic
  basic_reads n [] over d e alike h = tt
  basic_reads n (atom ∷ rest) over d e alike h =
      (atom_reads n atom (All-head (AtomOver n) atom rest over) d e alike h.0, basic_reads n rest (All-tail (AtomOver n) atom rest over) d e alike h.1)

  fail_reads : (n : ℕ) (parts : List Part) (d e : Valuation σ) → Extends n e d → AllFail n d parts → AllFail n e parts
  fail_reads n [] d e alike fail = tt
  fail_reads n (part ∷ rest) d e alike fail =
      (λ c extends. fail.0 c (λ v w path. extends v w path ∙ sym (alike v w path)), fail_reads n rest d e alike fail.1)

  module _ (ρ : Relations σ) where
    pub atom_to : (atom : Flat) (e : Valuation σ) → AtomHolds e atom → Holds σ ρ (atom_form atom) e
    atom_to (VarVar u v) e h = λ path. variable_reads e u path ∙ h path ∙ sym (variable_reads e v path)
    atom_to (VarTerm u s xs) e h = λ path. variable_reads e u path ∙ by path
      where
        by : (path : List ℕ) → at (e u).graph path ≡ term_reads σ e (applied s xs) path
        by [] = h.root ∙ sym (applied_root e s xs)
        by (i ∷ path) = elim (within_or_past i (length xs)) [
          | inl w ↦ h.child i w path ∙ sym (applied_below e s xs i path ∙ nth_child e xs i path w)
          | inr w ↦ at_past (e u).graph s (length xs) i path h.root w ∙ sym (applied_below e s xs i path ∙ nth_past e xs i path w)
        ]
    atom_to (Finite u) e h = λ n. h (λ (bound, all). n (bound, λ path is. all path (subst (λ (o : Option (Symbol × ℕ)). IsSome o) (variable_reads e u path) is)))

    pub atom_from : (atom : Flat) (e : Valuation σ) → Holds σ ρ (atom_form atom) e → AtomHolds e atom
    atom_from (VarVar u v) e h = λ path. sym (variable_reads e u path) ∙ h path ∙ variable_reads e v path
    atom_from (VarTerm u s xs) e h = record {
      root = sym (variable_reads e u []) ∙ h [] ∙ applied_root e s xs;
      child = λ i w path. sym (variable_reads e u (i ∷ path)) ∙ h (i ∷ path) ∙ applied_below e s xs i path ∙ nth_child e xs i path w;
    }
    atom_from (Finite u) e h = λ n. h (λ (bound, all). n (bound, λ path is. all path (subst (λ (o : Option (Symbol × ℕ)). IsSome o) (sym (variable_reads e u path)) is)))

    -- ---- conjunctions and disjunctions

    -- each of the formulas holds
    abbrev pub AllOf : List Form → Valuation σ → Type 0
    AllOf [] e = Unit {0}
    AllOf (f ∷ fs) e = Holds σ ρ f e × AllOf fs e

    joined_to : (f : Form) (gs : List Form) (e : Valuation σ) → Holds σ ρ f e → AllOf gs e → Holds σ ρ (chained joint.and f gs) e
    joined_to f [] e h all = h
    joined_to f (g ∷ gs) e h all = joined_to (and f g) gs e (h, all.0) all.1

    joined_from : (f : Form) (gs : List Form) (e : Valuation σ) → Holds σ ρ (chained joint.and f gs) e → Holds σ ρ f e × AllOf gs e
    joined_from f [] e h = (h, tt)
    joined_from f (g ∷ gs) e h = let k = joined_from (and f g) gs e h in (k.0.0, (k.0.1, k.1))

    pub conjunction_to : (fs : List Form) (e : Valuation σ) → AllOf fs e → Holds σ ρ (conjunction fs) e
    conjunction_to [] e all = tt
    conjunction_to (f ∷ fs) e all = joined_to f fs e all.0 all.1

    pub conjunction_from : (fs : List Form) (e : Valuation σ) → Holds σ ρ (conjunction fs) e → AllOf fs e
    conjunction_from [] e h = tt
    conjunction_from (f ∷ fs) e h = joined_from f fs e h

    pub all_both : (fs gs : List Form) (e : Valuation σ) → AllOf fs e → AllOf gs e → AllOf (fs ++ gs) e
    all_both [] gs e one other = other
    all_both (f ∷ fs) gs e one other = (one.0, all_both fs gs e one.1 other)

    pub all_parts : (fs gs : List Form) (e : Valuation σ) → AllOf (fs ++ gs) e → AllOf fs e × AllOf gs e
    all_parts [] gs e all = (tt, all)
    all_parts (f ∷ fs) gs e all = let k = all_parts fs gs e all.1 in ((all.0, k.0), k.1)

    -- one of the formulas holds
    abbrev SomeOf : List Form → Valuation σ → Type 0
    SomeOf [] e = ⊥
    SomeOf (f ∷ fs) e = Either (Holds σ ρ f e) (SomeOf fs e)

    either_to : (f : Form) (gs : List Form) (e : Valuation σ) → Either (Holds σ ρ f e) (SomeOf gs e) → Holds σ ρ (chained joint.or f gs) e
    either_to f [] e h = (Holds_stable σ ρ f e).holds (λ n. h (or_else n (λ k. k)))
    either_to f (g ∷ gs) e h =
        either_to (or f g) gs e (λ n. h (or_else (λ a. n (inl (λ m. m (inl a)))) (λ s. s (or_else (λ b. n (inl (λ m. m (inr b)))) (λ c. n (inr c))))))

    either_from : (f : Form) (gs : List Form) (e : Valuation σ) → Holds σ ρ (chained joint.or f gs) e → Either (Holds σ ρ f e) (SomeOf gs e)
    either_from f [] e h = λ n. n (inl h)
    either_from f (g ∷ gs) e h =
        λ n. either_from (or f g) gs e h (or_else (λ fg. fg (or_else (λ a. n (inl a)) (λ b. n (inr (λ m. m (inl b)))))) (λ c. n (inr (λ m. m (inr c)))))

    disjunction_to : (fs : List Form) (e : Valuation σ) → SomeOf fs e → Holds σ ρ (disjunction fs) e
    disjunction_to [] e h = h
    disjunction_to (f ∷ fs) e h = either_to f fs e h

    disjunction_from : (fs : List Form) (e : Valuation σ) → Holds σ ρ (disjunction fs) e → SomeOf fs e
    disjunction_from [] e h = h
    disjunction_from (f ∷ fs) e h = either_from f fs e h

    basic_to : (basic : List Flat) (e : Valuation σ) → BasicHolds e basic → AllOf (map atom_form basic) e
    basic_to [] e h = tt
    basic_to (atom ∷ rest) e h = (atom_to atom e h.0, basic_to rest e h.1)

    basic_from : (basic : List Flat) (e : Valuation σ) → AllOf (map atom_form basic) e → BasicHolds e basic
    basic_from [] e h = tt
    basic_from (atom ∷ rest) e h = (atom_from atom e h.0, basic_from rest e h.1)

    -- ---- quantifiers

    -- some values of the n variables from k on make P hold
    abbrev SomeValues : ℕ → (Valuation σ → Type 0) → Valuation σ → Type 0
    SomeValues k P e = Exists (λ (d : Valuation σ). Extends k e d × P d)

    -- P reads the first m variables alone
    abbrev Reads : ℕ → (Valuation σ → Type 0) → Type 0
    Reads m P = (d e : Valuation σ) → Extends m e d → P d → P e

    behind_from : (n k : ℕ) (f : Form) (P : Valuation σ → Type 0) → ((d : Valuation σ) → Holds σ ρ f d → P d) → (e : Valuation σ)
        → Holds σ ρ (behind exists (range_with_len k n) f) e → SomeValues k P e
    behind_from zero k f P each e h = λ n. n (e, (λ v w path. refl, each e h))
    behind_from (suc n) k f P each e h =
        λ m. h (λ (t, there). behind_from n (k + 1) f P each (update e k t) there (λ (d, (extends, p)). m (d, (extends_less k e t d extends, p))))

    behind_to : (n k : ℕ) (f : Form) (P : Valuation σ → Type 0) → ((d : Valuation σ) → P d → Holds σ ρ f d) → Reads (k + n) P → (e d : Valuation σ)
        → Extends k e d → P d → Holds σ ρ (behind exists (range_with_len k n) f) e
    behind_to zero k f P each reads e d extends p = each e (reads d e (λ v w. extends v (omega arith)) p)
    behind_to (suc n) k f P each reads e d extends p =
        λ m. m (d k, behind_to n (k + 1) f P each (λ d e more. reads d e (λ v w. more v (omega arith))) (update e k (d k)) d (extends_more k e d extends) p)

    -- ---- parts

    denied_to : (bound : List ℕ) (basic : List Flat) (e : Valuation σ) → Holds σ ρ (no (behind exists bound (conjunction (map atom_form basic)))) e → Holds σ ρ (denied_form bound basic) e
    denied_to [] [] e h = h
    denied_to [] (VarVar u v ∷ []) e h = h
    denied_to [] (VarTerm u s xs ∷ []) e h = h
    denied_to [] (Finite u ∷ []) e h = h
    denied_to [] (VarVar u v ∷ atom ∷ rest) e h = h
    denied_to [] (VarTerm u s xs ∷ atom ∷ rest) e h = h
    denied_to [] (Finite u ∷ atom ∷ rest) e h = h
    denied_to (x ∷ bound) basic e h = h

    denied_from : (bound : List ℕ) (basic : List Flat) (e : Valuation σ) → Holds σ ρ (denied_form bound basic) e → Holds σ ρ (no (behind exists bound (conjunction (map atom_form basic)))) e
    denied_from [] [] e h = h
    denied_from [] (VarVar u v ∷ []) e h = h
    denied_from [] (VarTerm u s xs ∷ []) e h = h
    denied_from [] (Finite u ∷ []) e h = h
    denied_from [] (VarVar u v ∷ atom ∷ rest) e h = h
    denied_from [] (VarTerm u s xs ∷ atom ∷ rest) e h = h
    denied_from [] (Finite u ∷ atom ∷ rest) e h = h
    denied_from (x ∷ bound) basic e h = h

    basic_formed : (basic : List Flat) (d : Valuation σ) → BasicHolds d basic → Holds σ ρ (conjunction (map atom_form basic)) d
    basic_formed basic d h = conjunction_to (map atom_form basic) d (basic_to basic d h)

    part_to : (m : ℕ) (part : Part) (e : Valuation σ) → PartFails m e part → Holds σ ρ (denied (denied_part m part)) e
    part_to m part e fails =
        denied_to (range_with_len m part.inner) part.basic e (λ h.
        behind_from part.inner m (conjunction (map atom_form part.basic)) (λ d. BasicHolds d part.basic)
        (λ d there. basic_from part.basic d (conjunction_from (map atom_form part.basic) d there)) e h (λ (d, (extends, holds)). fails d extends holds))

    part_from : (m : ℕ) (part : Part) → PartOver m part → (e : Valuation σ) → Holds σ ρ (denied (denied_part m part)) e → PartFails m e part
    part_from m part over e h =
        λ d extends holds. denied_from (range_with_len m part.inner) part.basic e h
        (behind_to part.inner m (conjunction (map atom_form part.basic)) (λ d. BasicHolds d part.basic) (basic_formed part.basic)
        (λ d e more there. basic_reads (m + part.inner) part.basic over d e more there) e d extends holds)

    parts_to : (m : ℕ) (parts : List Part) (e : Valuation σ) → AllFail m e parts → AllOf (map denied (map (denied_part m) parts)) e
    parts_to m [] e fail = tt
    parts_to m (part ∷ rest) e fail = (part_to m part e fail.0, parts_to m rest e fail.1)

    parts_from : (m : ℕ) (parts : List Part) → All (PartOver m) parts → (e : Valuation σ) → AllOf (map denied (map (denied_part m) parts)) e → AllFail m e parts
    parts_from m [] over e all = tt
    parts_from m (part ∷ rest) over e all =
        (part_from m part (All-head (PartOver m) part rest over) e all.0, parts_from m rest (All-tail (PartOver m) part rest over) e all.1)

    -- ---- cubes

    module _ (cube : Cube) (over : IsWellNumbered cube) where
      abbrev m : ℕ
      m = cube.free + cube.outer

      abbrev items : List Form
      items = map atom_form cube.basic ++ map denied (map (denied_part m) cube.parts)

      abbrev Body : Valuation σ → Type 0
      Body d = BasicHolds d cube.basic × AllFail m d cube.parts

      body_to : (d : Valuation σ) → Body d → Holds σ ρ (conjunction items) d
      body_to d body = conjunction_to items d (all_both (map atom_form cube.basic) (map denied (map (denied_part m) cube.parts)) d (basic_to cube.basic d body.0) (parts_to m cube.parts d body.1))

      body_from : (d : Valuation σ) → Holds σ ρ (conjunction items) d → Body d
      body_from d h =
          let k = all_parts (map atom_form cube.basic) (map denied (map (denied_part m) cube.parts)) d (conjunction_from items d h) in
          (basic_from cube.basic d k.0, parts_from m cube.parts over.parts d k.1)

      cube_to : (e : Valuation σ) → CubeHolds e cube → Holds σ ρ (cube_form cube) e
      cube_to e h =
          (Holds_stable σ ρ (cube_form cube) e).holds (λ n. h (λ (d, (extends, basic, parts)).
          n (behind_to cube.outer cube.free (conjunction items) Body body_to
          (λ d e more body. (basic_reads m cube.basic over.basic d e more body.0, fail_reads m cube.parts d e more body.1)) e d extends (basic, parts))))

      cube_from : (e : Valuation σ) → Holds σ ρ (cube_form cube) e → CubeHolds e cube
      cube_from e h = λ n. behind_from cube.outer cube.free (conjunction items) Body body_from e h (λ (d, (extends, body)). n (d, (extends, body.0, body.1)))

    cubes_to : (cubes : List Cube) → All IsWellNumbered cubes → (e : Valuation σ) → SomeHolds e cubes → SomeOf (map cube_form cubes) e
    cubes_to [] over e h = h
    cubes_to (cube ∷ rest) over e h =
        λ n. h (or_else (λ one. n (inl (cube_to cube (All-head IsWellNumbered cube rest over) e one))) (λ more. n (inr (cubes_to rest (All-tail IsWellNumbered cube rest over) e more))))

    cubes_from : (cubes : List Cube) → All IsWellNumbered cubes → (e : Valuation σ) → SomeOf (map cube_form cubes) e → SomeHolds e cubes
    cubes_from [] over e h = h
    cubes_from (cube ∷ rest) over e h =
        λ n. h (or_else (λ one. n (inl (cube_from cube (All-head IsWellNumbered cube rest over) e one))) (λ more. n (inr (cubes_from rest (All-tail IsWellNumbered cube rest over) e more))))

pub explicit_means : (σ : Signature) (preds : List Pred) (cubes : List Cube) (e : Valuation σ) → All IsWellNumbered cubes
    → Holds σ (meaning_of σ preds) (explicit_of cubes) e ↔ SomeHolds e cubes
explicit_means σ preds cubes e over =
    let ρ = meaning_of σ preds in (
      λ h. cubes_from ρ cubes over e (disjunction_from ρ (map cube_form cubes) e h),
      λ h. disjunction_to ρ (map cube_form cubes) e (cubes_to ρ cubes over e h),
    )
