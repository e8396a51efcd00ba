-- What the answers on each part say of the cube.
use Rattle.std.proofs.Common.{ℕ, ◌≡◌, ◌<◌, ◌≤◌, ◌+◌, Bool, true, false, List, [], ◌∷◌, ◌++◌, length, take, get_or, append-nil, refl, sym, ap, ◌∙◌, subst, arith, inl, inr, ◌⊎◌, ⊎_elim}
use Rattle.std.specs.Prelude.{All, Contains}
use Rattle.std.proofs.lemmas.List.{take_more, take_all}
use Rattle.std.proofs.lemmas.List.Elements.{All-contains, Contains-push_cases}
use Rattle.classical.specs.Classical.{Exists}
use Rattle.classical.proofs.Stable.{either_way}
use Rattle.tree_model.specs.Signatures.{Signature}
use Rattle.tree_model.specs.Valuations.{Valuation}
use Rattle.tree_facts.proofs.Members.{contains_first, contains_later, contains_cases}
use Rattle.flat_form.specs.declared.atom.Flat.{Flat}
use Rattle.flat_form.specs.declared.atom.Flat.TheVariants.{VarVar, VarTerm, Finite}
use Rattle.flat_form.specs.declared.cube.Part.{Part}
use Rattle.flat_form.specs.declared.cube.Cube.{Cube}
use Rattle.flat_form.specs.Added.{IsAdded, IsSolvedForm}
use Rattle.flat_form.specs.Fitting.{AtomFits, BasicFits, CubeFits}
use Rattle.flat_form.specs.Meanings.{BasicHolds, HasNone}
use Rattle.flat_form.specs.Numbering.{BasicOver}
use Rattle.flat_form.specs.Parts.{top, IsKept, IsPruned}
use Rattle.flat_form.specs.Solved.{variable_of, Ascends}
use Rattle.flat_form.specs.Steps.{Settles, all_done, dropped, settled}
use Rattle.flat_facts.proofs.Lists.{both_hold, front_holds, later_holds}
use Rattle.flat_facts.proofs.Solutions.{solved_form_means}
use Rattle.cube_facts.proofs.Settle.{all_of}
use Rattle.basic_solver.specs.declared.scope.Scope.{Scope}
use Rattle.basic_solver.specs.Stores.{atoms_of, below, top_of, IsExtraOf}
use Rattle.basic_solver.proofs.Storing.{parts as scopes_split}
use Rattle.node_facts.specs.Nested.{beside, CanHold, NeverHolds}
use Rattle.kept_cubes.specs.Asking.{with_atoms, AreAsserted, AddsTo, IsSaidBelow, FailsSomewhere, EachFailsSomewhere, HoldsTogether}
use Rattle.kept_cubes.proofs.WithAtoms.{atoms_with_all, below_with_all, top_with_all}
use Rattle.kept_cubes.proofs.Together.{nothing_below, implied_nowhere, settled_can_hold}

-- atoms that were asserted in an empty top scope
module _ (m : ℕ) (old : List Scope) (more : List Flat) (empty : top_of old ≡ []) where
  all_below : atoms_of old ≡ atoms_of (below old)
  all_below = scopes_split old ∙ ap (λ (z : List Flat). atoms_of (below old) ++ z) empty ∙ append-nil (atoms_of (below old))

  pub clash_in_top : (new : List Scope) → AreAsserted old more new false → FailsSomewhere m (atoms_of (below old)) more true
  clash_in_top new none = inl (subst (λ (z : List Flat). HasNone (z ++ more)) all_below none)

  module _ (some : 0 < length old) (new : List Scope) (asserted : new ≡ with_atoms more old) (extra : List Flat) (is_extra : IsExtraOf new extra) where
    adds_to : AddsTo (atoms_of (below old)) more extra
    adds_to σ fits form is_form =
        let atoms_are : atoms_of new ≡ atoms_of (below old) ++ more =
        ap atoms_of asserted ∙ atoms_with_all more old some ∙ ap (λ (z : List Flat). z ++ more) all_below in
        let below_is : below new ≡ below old = ap below asserted ∙ below_with_all more old in
        let top_is : top_of new ≡ more = ap top_of asserted ∙ top_with_all more old some ∙ ap (λ (z : List Flat). z ++ more) empty in
        subst (λ (z : List Flat). IsAdded form (form ++ z) extra) top_is
        (is_extra σ (subst (λ (z : List Flat). BasicFits σ z) (sym atoms_are) fits) form
        (subst (λ (z : List Scope). IsSolvedForm (atoms_of z) form) (sym below_is) is_form))

    pub said_in_top : (found : Bool) → IsSaidBelow m extra found → FailsSomewhere m (atoms_of (below old)) more found
    said_in_top true said = inr (extra, adds_to, said)
    said_in_top false said = (extra, adds_to, said)

-- the parts that were asked after
module _ (m : ℕ) (atoms : List Flat) (parts : List Part) (i : ℕ) where
  pub each_asked : length parts ≤ i → EachFailsSomewhere m atoms (take i parts) true → EachFailsSomewhere m atoms parts true
  each_asked end each = subst (λ (z : List Part). EachFailsSomewhere m atoms z true) (take_all i parts end) each

  module _ (part : Part) (within : i < length parts) (is : part ≡ get_or parts i part) where
    pub one_more_fails : EachFailsSomewhere m atoms (take i parts) true → FailsSomewhere m atoms part.basic true
        → EachFailsSomewhere m atoms (take (i + 1) parts) true
    one_more_fails each fails p j =
        let next : take (i + 1) parts ≡ take i parts ++ part ∷ [] =
        take_more parts i part within ∙ ap (λ (z : Part). take i parts ++ z ∷ []) (sym is) in
        elim (Contains-push_cases (take i parts) part p (subst (λ (z : List Part). Contains z p) next j)) [
          | inl old ↦ each p old
          | inr same ↦ subst (λ (z : Part). FailsSomewhere m atoms z.basic true) same fails
        ]

    pub one_holds : FailsSomewhere m atoms part.basic false → EachFailsSomewhere m atoms parts false
    one_holds holds = (part, (i, within, sym is), holds)

-- those of the atoms of an ascending list that have a property, which need not be decided
pub record AreThose (P : Flat → Type 0) (xs kept : List Flat) : Type 0 where
  pub ascending : Ascends kept
  pub from : (a : Flat) → Contains kept a → Contains xs a × P a
  pub all : (a : Flat) → Contains xs a → P a → Contains kept a

module _ (P : Flat → Type 0) (x : Flat) (xs kept : List Flat) (later : (a : Flat) → Contains xs a → variable_of x < variable_of a) (are : AreThose P xs kept) where
  one_in : P x → AreThose P (x ∷ xs) (x ∷ kept)
  one_in has = record {
    ascending = (λ a i. later a (are.from a i).0, are.ascending);
    from = λ a i. elim (contains_cases x a kept i) [
      | inl is ↦ subst (λ (z : Flat). Contains (x ∷ xs) z × P z) is (contains_first x xs, has)
      | inr more ↦ (contains_later x a xs (are.from a more).0, (are.from a more).1)
    ];
    all = λ a i p. elim (contains_cases x a xs i) [
      | inl is ↦ subst (λ (z : Flat). Contains (x ∷ kept) z) is (contains_first x kept)
      | inr more ↦ contains_later x a kept (are.all a more p)
    ];
  }

  one_out : ¬ P x → AreThose P (x ∷ xs) kept
  one_out has_not = record {
    ascending = are.ascending;
    from = λ a i. (contains_later x a xs (are.from a i).0, (are.from a i).1);
    all = λ a i p. elim (contains_cases x a xs i) [
      | inl is ↦ absurd (has_not (subst P (sym is) p))
      | inr more ↦ are.all a more p
    ];
  }

pub those_exist : (P : Flat → Type 0) (xs : List Flat) → Ascends xs → Exists (AreThose P xs)
those_exist P [] up = λ none. none ([], record { ascending = tt; from = λ a i. absurd (omega (arith, i.1)); all = λ a i p. i })
those_exist P (x ∷ xs) up = λ none. those_exist P xs up.1 (λ (kept, are). either_way (P x) (⊎_elim
    (λ has. none (x ∷ kept, one_in P x xs kept up.0 are has))
    (λ has_not. none (kept, one_out P x xs kept up.0 are has_not))))

-- an atom that stands for one of the first m variables is kept
low_is_kept : (m : ℕ) (atoms : List Flat) (a : Flat) → variable_of a < m → IsKept m atoms a
low_is_kept m atoms (VarVar u v) low = low
low_is_kept m atoms (VarTerm u symbol xs) low = top low
low_is_kept m atoms (Finite u) low = top low

module _ (σ : Signature) (m : ℕ) (atoms form : List Flat) (is_form : IsSolvedForm atoms form) where
  beside_form : (more : List Flat) → HasNone (atoms ++ more) → HasNone (form ++ more)
  beside_form more none τ e = λ holds. none τ e
      (both_hold e atoms more ((solved_form_means τ atoms form e is_form).0 (front_holds e form more holds)) (later_holds e form more holds))

  -- where each part fails somewhere, they can be settled, and something is left of each
  pub settles_somehow : (parts : List Part) → ((part : Part) → Contains parts part → BasicFits σ (atoms ++ part.basic))
      → ((part : Part) → Contains parts part → FailsSomewhere m atoms part.basic true)
      → Exists (λ (new : List Part). Settles m form parts new × ((part : Part) → Contains new part → ¬ (part.basic ≡ [])))
  settles_somehow [] fits each = λ none. none ([], (all_done, λ part i. absurd (omega (arith, i.1))))
  settles_somehow (part ∷ parts) fits each = λ none.
      settles_somehow parts (λ p i. fits p (contains_later part p parts i)) (λ p i. each p (contains_later part p parts i)) (λ (new, (settles, some)).
      elim (each part (contains_first part parts)) [
        | inl clash ↦ none (new, (dropped part parts new (beside_form part.basic clash) settles, some))
        | inr says ↦
            let adds : IsAdded form (form ++ part.basic) says.0 = says.1 σ (fits part (contains_first part parts)) form is_form in
            those_exist (IsKept m says.0) says.0 adds.ascending (λ (pruned, are).
            let cut : IsPruned m says.0 pruned = record { ascending = are.ascending; from = are.from; all = are.all } in
            let low = says.2 in
            let stands : Contains pruned low.0 = are.all low.0 low.1 (low_is_kept m says.0 low.0 low.2) in
            let one : Part = record { inner = part.inner; basic = pruned } in
            none (
              one ∷ new,
              (
                settled part one parts new (record { added = says.0; is_added = adds; inner_is = refl; is_pruned = cut }) settles,
                λ p i. elim (contains_cases one p new i) [
                  | inl is ↦ λ empty. absurd (omega (arith, (subst (λ (z : List Flat). Contains z low.0) (ap (λ (z : Part). z.basic) is ∙ empty) stands).1))
                  | inr more ↦ some p more
                ],
              ),
            ))
      ])

module _ (C : List Flat) (c : Cube) (m : ℕ) (counted : m ≡ c.free + c.outer) (form : List Flat) (over : BasicOver m form)
    (is_form : (σ : Signature) → BasicFits σ (C ++ c.basic) → IsSolvedForm (C ++ c.basic) form) where
  part_fits : (σ : Signature) → CubeFits σ (beside C c) → (part : Part) → Contains c.parts part → BasicFits σ ((C ++ c.basic) ++ part.basic)
  part_fits σ fits part i =
      all_of (AtomFits σ) (C ++ c.basic) part.basic fits.basic (All-contains (λ (p : Part). BasicFits σ p.basic) c.parts part fits.parts i)

  over_all : BasicOver (c.free + c.outer) form
  over_all = subst (λ (n : ℕ). BasicOver n form) counted over

  pub holds_together : (found : Bool) → EachFailsSomewhere m (C ++ c.basic) c.parts found → HoldsTogether C c found
  holds_together true each = λ σ fits none.
      settles_somehow σ (c.free + c.outer) (C ++ c.basic) form (is_form σ fits.basic) c.parts (part_fits σ fits)
      (subst (λ (n : ℕ). EachFailsSomewhere n (C ++ c.basic) c.parts true) counted each) (λ (new, (settles, some)).
      settled_can_hold C form c new (is_form σ fits.basic) over_all settles some σ fits none)
  holds_together false (part, i, (extra, adds, above)) = λ σ e fits.
      implied_nowhere C form c part (is_form σ fits.basic) over_all i (
        extra,
        adds σ (part_fits σ fits part i) form (is_form σ fits.basic),
        nothing_below (c.free + c.outer) extra
            (subst (λ (n : ℕ). IsSaidBelow n extra false) counted above),
      ) σ e fits
