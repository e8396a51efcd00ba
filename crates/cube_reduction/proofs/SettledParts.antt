-- Parts over a base are settled one after the other.
use Rattle.std.specs.Prelude.{Contains, Option, Some, None, MatchOption}
use Rattle.std.proofs.Common.{ℕ, ◌≡◌, ◌+◌, ◌<◌, ◌≤◌, List, [], ◌∷◌, ◌++◌, length, get_or, drop, sym, ap, ◌∙◌, subst, arith, append_assoc, append-nil, inl, inr}
use Rattle.std.proofs.lemmas.List.{drop_more, drop_all}
use Rattle.std.proofs.lemmas.List.Elements.{Contains-push_cases, All-append}
use Rattle.flat_form.specs.declared.atom.Flat.{Flat}
use Rattle.flat_form.specs.declared.cube.Part.{Part}
use Rattle.flat_form.specs.Added.{IsAdded}
use Rattle.flat_form.specs.Meanings.{HasNone}
use Rattle.flat_form.specs.Numbering.{AtomOver, BasicOver}
use Rattle.flat_form.specs.Steps.{SettlesTo, Settles, all_done, dropped, settled}
use Rattle.flat_facts.proofs.Follows.{added_over}
use Rattle.cube_facts.proofs.Raws.{basic_wider}
use Rattle.basic_solver.specs.Outcomes.{IsOutcome}

module _ (m : ℕ) (base : List Flat) where
  -- what the rest of the parts comes to, behind what the first i came to
  abbrev pub AreSettled : List Part → ℕ → List Part → Type 0
  AreSettled parts i all = (rest : List Part) → Settles m base (drop i parts) rest → Settles m base parts (all ++ rest)

  pub none_settled : (parts : List Part) → AreSettled parts 0 []
  none_settled parts rest h = h

  module _ (parts : List Part) (i : ℕ) (part : Part) (within : i < length parts) (is : part ≡ get_or parts i part) where
    here : drop i parts ≡ part ∷ drop (i + 1) parts
    here = drop_more parts i part within ∙ ap (λ (z : Part). z ∷ drop (i + 1) parts) (sym is)

    pub one_dropped : (all : List Part) → HasNone (base ++ part.basic) → AreSettled parts i all → AreSettled parts (i + 1) all
    one_dropped all none are rest h = are rest (subst (λ (z : List Part). Settles m base z rest) (sym here) (dropped part (drop (i + 1) parts) rest none h))

    pub one_settled : (all after : List Part) (new : Part) → after ≡ all ++ new ∷ [] → SettlesTo m base part new → AreSettled parts i all → AreSettled parts (i + 1) after
    one_settled all after new e to are rest h =
        let next : Settles m base (drop i parts) (new ∷ rest) =
        subst (λ (z : List Part). Settles m base z (new ∷ rest)) (sym here) (settled part new (drop (i + 1) parts) rest to h) in
        let order : after ++ rest ≡ all ++ (new ∷ rest) = ap (λ (z : List Part). z ++ rest) e ∙ append_assoc all (new ∷ []) rest in
        subst (λ (z : List Part). Settles m base parts z) (sym order) (are (new ∷ rest) next)

  pub all_are_settled : (parts all : List Part) (i : ℕ) → length parts ≤ i → AreSettled parts i all → Settles m base parts all
  all_are_settled parts all i end are =
      let last : Settles m base (drop i parts) [] = subst (λ (z : List Part). Settles m base z []) (sym (drop_all i parts end)) all_done in
      subst (λ (z : List Part). Settles m base parts z) (append-nil all) (are [] last)

-- no part is empty, with one more that is not
pub none_empty_more : (all after : List Part) (new : Part) → after ≡ all ++ new ∷ [] → ¬ (new.basic ≡ []) → ((part : Part) → Contains all part → ¬ (part.basic ≡ []))
    → (part : Part) → Contains after part → ¬ (part.basic ≡ [])
none_empty_more all after new e some none part i = elim (Contains-push_cases all new part (subst (λ (z : List Part). Contains z part) e i)) [
  | inl old ↦ none part old
  | inr is ↦ subst (λ (z : Part). ¬ (z.basic ≡ [])) is some
]

-- what an answer says in either case
pub some_said : (r : Option Part) (x : Part) (P : Type 0) (Q : Part → Type 0) → r ≡ Some x → MatchOption r P Q → Q x
some_said r x P Q e h = subst (λ (z : Option Part). MatchOption z P Q) e h

pub none_said : (r : Option Part) (P : Type 0) (Q : Part → Type 0) → r ≡ None → MatchOption r P Q → P
none_said r P Q e h = subst (λ (z : Option Part). MatchOption z P Q) e h

-- what is added is over the variables of the base and the part
pub added_is_over : (m inner count : ℕ) (base basic added : List Flat) (found : Option (List Flat)) → count ≡ m + inner → BasicOver m base → BasicOver (m + inner) basic
    → found ≡ Some added → IsOutcome base (base ++ basic) found → BasicOver count added
added_is_over m inner count base basic added found e base_over over is outcome =
    let adds : IsAdded base (base ++ basic) added = subst (IsOutcome base (base ++ basic)) is outcome in
    let both : BasicOver (m + inner) (base ++ basic) = All-append (AtomOver (m + inner)) base basic (basic_wider m (m + inner) (omega arith) base base_over) over in
    subst (λ (z : ℕ). BasicOver z added) (sym e) (added_over (m + inner) base (base ++ basic) added both adds)
