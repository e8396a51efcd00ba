-- What is kept while names are declared one after another.
use Rattle.std.proofs.Common.{◌≡◌, ℕ, zero, suc, ◌+◌, ◌≤◌, ◌⊎◌, inl, inr, List, [], ◌∷◌, ◌++◌, map, length, Option, Some, None, slice_get, refl, sym, ◌∙◌, ap, subst, arith, append_assoc, append-nil}
use Rattle.std.specs.Prelude.{option_and_then, option_map}
use Rattle.std.proofs.lemmas.List.{map-append}
use Rattle.std.proofs.lemmas.Option.{slice_get-map, some_pair_parts}
use Rattle.tree_model.specs.declared.kind.Kind.{Kind}
use Rattle.tree_model.specs.declared.kind.Kind.TheVariants as kind
use Rattle.tree_model.specs.Signatures.{Signature, Entry, declared_at}
use Rattle.signature.specs.Names.{StandsAt, HasDistinctNames, place_of}
use Rattle.signature.proofs.Standing.{found_there}
use Rattle.formula_ast.specs.declared.pred.Pred.{Pred}
use Rattle.formula_ast.specs.WellFormed.{AreDistinct, predicate_at, predicates_from}
use Rattle.formula_grammar.specs.Written.{Text, Declaration}
use Rattle.formula_grammar.specs.Checks.{declared, entry_of, value_of}
use Rattle.formula_grammar.specs.Names.{symbol_entry, AreNew}
use Rattle.formula_grammar.specs.Within.{AreSmallDeclarations}
use Rattle.formula_grammar.specs.Limits.{most_arguments}
use Rattle.formula_grammar.proofs.WrittenWords.{IsName, AreNames}
use Rattle.formula_grammar.proofs.Occurrences.{push_cases, push_distinct}
use Rattle.formula_grammar.specs.WellFormedLaws.{HasFewArguments}
use Rattle.formula_grammar.proofs.FormedTerms.{StaysIn}

abbrev pub names_of : Signature → List Text
names_of σ = map {A = Entry} {B = Text} (λ entry. entry.name) σ

abbrev pub EachIsName : List Text → Type 0
EachIsName [] = Unit {0}
EachIsName (x ∷ xs) = IsName x × EachIsName xs

-- the places and the numbers of parameters of predicates
abbrev pub places_of : List Pred → List (ℕ × ℕ)
places_of preds = map {A = Pred} {B = ℕ × ℕ} (λ pred. (pred.place, pred.params)) preds

-- what holds of the signature and the predicates at each statement
pub record IsKept (σ : Signature) (preds : List Pred) : Type 0 where
  pub names : EachIsName (names_of σ)
  pub distinct : AreDistinct (names_of σ)
  pub few : HasFewArguments σ
  pub places : places_of preds ≡ predicates_from 0 σ

pub distinct_names : (σ : Signature) → AreDistinct (names_of σ) → HasDistinctNames σ
distinct_names σ d name i j a b =
    d name i j (slice_get-map (λ (entry : Entry). entry.name) σ i ∙ a) (slice_get-map (λ (entry : Entry). entry.name) σ j ∙ b)

-- a name that is not declared stands nowhere
is_new : (σ : Signature) (f : Text) → AreDistinct (names_of σ) → declared σ f ≡ None → (i : ℕ) → slice_get (names_of σ) i ≡ Some f → ⊥
is_new σ f d e i h = step (slice_get σ i) stands (sym (ap (λ o. option_and_then {T = ℕ} {U = Kind × ℕ} (λ place. declared_at σ place) o) at) ∙ e)
  where
    stands : StandsAt σ f i
    stands = sym (slice_get-map (λ (entry : Entry). entry.name) σ i) ∙ h

    at : place_of σ f ≡ Some i
    at = found_there σ (distinct_names σ d) f i stands

    step : (o : Option Entry) → option_map {T = Entry} {U = Text} (λ entry. entry.name) o ≡ Some f
        → option_map {T = Entry} {U = Kind × ℕ} (λ entry. (entry.kind, entry.arity)) o ≡ None → ⊥
    step None a b = absurd (cc a)
    step (Some entry) a b = absurd (cc b)

-- ---- one more entry

each_more : (xs : List Text) (x : Text) → EachIsName xs → IsName x → EachIsName (xs ++ x ∷ [])
each_more [] x a h = (h, tt)
each_more (y ∷ xs) x a h = (a.0, each_more xs x a.1 h)

few_more : (σ : Signature) (entry : Entry) → HasFewArguments σ → (entry.kind ≡ kind.Symbol → entry.arity ≤ most_arguments) → HasFewArguments (σ ++ entry ∷ [])
few_more σ entry few small place n e = step (slice_get (σ ++ entry ∷ []) place) refl e
  where
    last : (y : Entry) → entry ≡ y → ◌≡◌ {A = Option (Kind × ℕ)} (Some (y.kind, y.arity)) (Some (kind.Symbol, n)) → n ≤ most_arguments
    last y same e =
        let parts = some_pair_parts y.kind kind.Symbol y.arity n e in
        let most = small (ap (λ (z : Entry). z.kind) same ∙ parts.0) in
        let size : entry.arity ≡ n = ap (λ (z : Entry). z.arity) same ∙ parts.1 in
        omega (arith, most, size)

    by_place : (y : Entry) → ◌≡◌ {A = Option (Kind × ℕ)} (Some (y.kind, y.arity)) (Some (kind.Symbol, n))
        → (slice_get σ place ≡ Some y) ⊎ ((place ≡ length σ) × (entry ≡ y)) → n ≤ most_arguments
    by_place y e (inl h) = few place n (ap (λ o. option_map {T = Entry} {U = Kind × ℕ} (λ z. (z.kind, z.arity)) o) h ∙ e)
    by_place y e (inr h) = last y h.1 e

    step : (o : Option Entry) → slice_get (σ ++ entry ∷ []) place ≡ o
        → option_map {T = Entry} {U = Kind × ℕ} (λ z. (z.kind, z.arity)) o ≡ Some (kind.Symbol, n) → n ≤ most_arguments
    step None got e = absurd (cc e)
    step (Some y) got e = by_place y e (push_cases σ entry place y got)

predicates_more : (p : ℕ) (σ : Signature) (entry : Entry)
    → predicates_from p (σ ++ entry ∷ []) ≡ predicates_from p σ ++ predicate_at (p + length σ) entry.kind entry.arity
predicates_more p [] entry =
    append-nil (predicate_at p entry.kind entry.arity) ∙ ap (λ n. predicate_at n entry.kind entry.arity) (omega arith)
predicates_more p (first ∷ σ) entry =
    let place : p + 1 + length σ ≡ p + suc (length σ) = omega arith in
    ap (λ l. predicate_at p first.kind first.arity ++ l)
    (predicates_more (p + 1) σ entry ∙ ap (λ n. predicates_from (p + 1) σ ++ predicate_at n entry.kind entry.arity) place)
    ∙ sym (append_assoc (predicate_at p first.kind first.arity) (predicates_from (p + 1) σ) (predicate_at (p + suc (length σ)) entry.kind entry.arity))

module _ (σ : Signature) (preds : List Pred) (kept : IsKept σ preds) where
  names_more : (entry : Entry) → IsName entry.name → EachIsName (names_of (σ ++ entry ∷ []))
  names_more entry h =
      subst EachIsName (sym (map-append (λ (z : Entry). z.name) σ (entry ∷ []))) (each_more (names_of σ) entry.name kept.names h)

  distinct_more : (entry : Entry) → declared σ entry.name ≡ None → AreDistinct (names_of (σ ++ entry ∷ []))
  distinct_more entry new =
      subst (λ l. AreDistinct l) (sym (map-append (λ (z : Entry). z.name) σ (entry ∷ [])))
      (push_distinct (names_of σ) entry.name kept.distinct (is_new σ entry.name kept.distinct new))

  kept_symbol : (d : Declaration) → declared σ d.name ≡ None → value_of d.digits ≤ most_arguments → IsName d.name → IsKept (σ ++ symbol_entry d ∷ []) preds
  kept_symbol d new small h = record {
    names = names_more (symbol_entry d) h;
    distinct = distinct_more (symbol_entry d) new;
    few = few_more σ (symbol_entry d) kept.few (λ e. small);
    places = kept.places ∙ sym (predicates_more 0 σ (symbol_entry d) ∙ append-nil (predicates_from 0 σ));
  }

  not_symbol : kind.Pred ≡ kind.Symbol → ⊥
  not_symbol e = cc e

  pub kept_predicate : (p : Text) (n : ℕ) (pred : Pred) → declared σ p ≡ None → IsName p → pred.place ≡ length σ → pred.params ≡ n
      → IsKept (σ ++ entry_of p kind.Pred n ∷ []) (preds ++ pred ∷ [])
  kept_predicate p n pred new h place params =
      let entry = entry_of p kind.Pred n in
      let at : pred.place ≡ 0 + length σ = omega (arith, place) in
      let same : ◌≡◌ {A = ℕ × ℕ} (pred.place, pred.params) (0 + length σ, n) =
      λ i. (at i, params i) in
      record {
        names = names_more entry h;
        distinct = distinct_more entry new;
        few = few_more σ entry kept.few (λ e. absurd (not_symbol e));
        places = map-append (λ (z : Pred). (z.place, z.params)) preds (pred ∷ []) ∙ ap (λ l. l ++ (pred.place, pred.params) ∷ []) kept.places
            ∙ ap (λ x. predicates_from 0 σ ++ x ∷ []) same ∙ sym (predicates_more 0 σ entry);
      }

pub kept_symbols : (ds : List Declaration) (σ : Signature) (preds : List Pred) → IsKept σ preds → AreNew σ ds → AreSmallDeclarations σ ds → AreNames ds
    → IsKept (σ ++ map symbol_entry ds) preds
kept_symbols [] σ preds kept new small h = subst (λ τ. IsKept τ preds) (sym (append-nil σ)) kept
kept_symbols (d ∷ ds) σ preds kept new small h =
    subst (λ τ. IsKept τ preds) (append_assoc σ (symbol_entry d ∷ []) (map symbol_entry ds))
    (kept_symbols ds (σ ++ symbol_entry d ∷ []) preds (kept_symbol σ preds kept d new.0 small.0.few_arguments h.0) new.1 small.1 h.1)

-- what is declared stays declared behind more entries
pub stays_in_more : (σ τ : Signature) → StaysIn σ (σ ++ τ)
stays_in_more [] τ place d e = absurd (cc e)
stays_in_more (entry ∷ σ) τ zero d e = e
stays_in_more (entry ∷ σ) τ (suc place) d e = stays_in_more σ τ place d e
