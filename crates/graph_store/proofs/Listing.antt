-- A list of atoms grows by the next variable's.
use Rattle.std.proofs.Common.{ℕ, ◌≡◌, ◌<◌, ◌+◌, List, [], ◌∷◌, ◌++◌, sym, ap, subst, arith, inl, inr, ◌⊎◌, Option, Some, None}
use Rattle.std.specs.Prelude.{Contains}
use Rattle.std.proofs.lemmas.List.Elements.{Contains-push_cases, Contains-push, Contains-append_left}
use Rattle.tree_facts.proofs.Members.{contains_first, contains_later}
use Rattle.flat_form.specs.declared.atom.Flat.{Flat}
use Rattle.flat_form.specs.Solved.{variable_of, Ascends}
use Rattle.graph_store.specs.Lines.{IsTheOne, AreThose, with_found}

ascends_push : (xs : List Flat) (x : Flat) → Ascends xs → ((a : Flat) → Contains xs a → variable_of a < variable_of x) → Ascends (xs ++ x ∷ [])
ascends_push [] x up low = (λ later i. absurd (omega (arith, i.1)), tt)
ascends_push (y ∷ xs) x up low = (
  λ later i. elim (Contains-push_cases xs x later i) [
    | inl j ↦ up.0 later j
    | inr e ↦ omega (arith, low y (contains_first y xs), ap variable_of e)
  ],
  ascends_push xs x up.1 (λ a i. low a (contains_later y a xs i)),
)

below_or_last : (x v : ℕ) → x < v + 1 → (x < v) ⊎ (x ≡ v)
below_or_last x v w = grind arith

pub those_first : (Has : Flat → Type 0) → AreThose Has 0 []
those_first Has = record { ascending = tt; each = λ a i. absurd (omega (arith, i.1)); all = λ a has w. absurd (omega (arith, w)) }

pub those_more : (Has : Flat → Type 0) (atoms : List Flat) (v : ℕ) → AreThose Has v atoms → (found : Option Flat) → IsTheOne Has v found
    → AreThose Has (v + 1) (with_found atoms found)
those_more Has atoms v are None none = record {
  ascending = are.ascending;
  each = λ a i. ((are.each a i).0, omega (arith, (are.each a i).1));
  all = λ a has w. elim (below_or_last (variable_of a) v w) [ inl l ↦ are.all a has l | inr e ↦ absurd (none a e has) ];
}
those_more Has atoms v are (Some atom) one = record {
  ascending = ascends_push atoms atom are.ascending (λ a i. omega (arith, (are.each a i).1, one.0));
  each = λ a i. elim (Contains-push_cases atoms atom a i) [
    | inl j ↦ ((are.each a j).0, omega (arith, (are.each a j).1))
    | inr e ↦ (subst (λ (z : Flat). Has z) e one.1, omega (arith, one.0, ap variable_of e))
  ];
  all = λ a has w. elim (below_or_last (variable_of a) v w) [
    | inl l ↦ Contains-append_left atoms (atom ∷ []) a (are.all a has l)
    | inr e ↦ subst (λ (z : Flat). Contains (atoms ++ atom ∷ []) z) (sym (one.2 a e has)) (Contains-push atoms atom)
  ];
}
