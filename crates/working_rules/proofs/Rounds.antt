-- The atoms round a branch come into the scopes of a store on the way to it, and leave them again.
use Rattle.std.proofs.Common.{ℕ, zero, suc, ◌≡◌, ◌+◌, ◌-◌, ◌<◌, ◌≤◌, Bool, true, false, List, [], ◌∷◌, ◌++◌, Option, length, refl, sym, ap, ◌∙◌, subst, arith, inl, inr}
use Rattle.flat_form.specs.declared.atom.Flat.{Flat}
use Rattle.flat_form.specs.declared.cube.Cube.{Cube}
use Rattle.flat_form.specs.Meanings.{HasNone}
use Rattle.flat_form.specs.Numbering.{BasicOver}
use Rattle.flat_facts.proofs.Lists.{front_holds}
use Rattle.basic_solver.specs.declared.scope.Scope.{Scope}
use Rattle.basic_solver.specs.Stores.{atoms_of, open_in, below}
use Rattle.kept_cubes.specs.Asking.{with_atoms, IsOverSame, AreAsserted}
use Rattle.kept_cubes.proofs.WithAtoms.{atoms_with_all, open_with_all, pushed_over, pushed_open, pushed_atoms}
use Rattle.node_facts.specs.Branches.{Branch, Branches, branch, no_branch, one_more, size, BranchOver, BranchesOver}
use Rattle.node_facts.specs.Places.{At, AtOne}
use Rattle.working_rules.specs.declared.slot.Slot.{Slot}
use Rattle.working_rules.specs.Forests.{joined, from_place, first_of, branch_at}
use Rattle.working_rules.specs.Rounds.{lowered, StandAbove, AreInScopes, IsRoundOf}
use Rattle.working_rules.specs.Slots.{slot_of}
use Rattle.working_rules.specs.State.{IsOpening}
use Rattle.working_rules.proofs.Forests.{from_more, from_one}
use Rattle.working_rules.proofs.Parts.{size_positive, slot_end}
use Rattle.working_rules.proofs.Standing.{stands_some}

-- scopes above others

long_push : (xs : List Scope) (x : Scope) → length (xs ++ x ∷ []) ≡ length xs + 1
long_push [] x = refl
long_push (y ∷ ys) x = let e : length (ys ++ x ∷ []) ≡ length ys + 1 = long_push ys x in omega (arith, e)

pub above_none : (old : List Scope) (count : ℕ) → count ≡ 0 → StandAbove old count old
above_none old count none = subst (λ (k : ℕ). StandAbove old k old) (sym none) (record { back = refl; long = omega arith })

pub above_one : (lowest old pushed new : List Scope) (s : Scope) (count next : ℕ) → pushed ≡ old ++ s ∷ [] → IsOverSame pushed new → next ≡ count + 1
    → StandAbove lowest count old → StandAbove lowest next new
above_one lowest old pushed new s count next is over same above =
    let lower : below new ≡ old = over.below_is ∙ pushed_over old pushed s is in
    let long : length pushed ≡ length old + 1 = ap length is ∙ long_push old s in
    let more : next ≡ suc count = omega (arith, same) in
    record {
      back = ap (λ (k : ℕ). lowered k new) more ∙ ap (λ (z : List Scope). lowered count z) lower ∙ above.back;
      long = omega (arith, over.as_many, long, same, above.long);
    }

pub long_below : (scopes : List Scope) → length (below scopes) ≡ length scopes - 1
long_below [] = refl
long_below (s ∷ []) = refl
long_below (s ∷ t ∷ rest) = let e : length (below (t ∷ rest)) ≡ length (t ∷ rest) - 1 = long_below (t ∷ rest) in omega (arith, e)

-- so many are yet to be given up
pub record LowersTo (goal : List Scope) (left : ℕ) (now : List Scope) : Type 0 where
  pub back : lowered left now ≡ goal
  pub enough : left < length now

pub one_lower : (goal now new : List Scope) (left next : ℕ) → LowersTo goal left now → 0 < left → next ≡ left - 1 → new ≡ below now → LowersTo goal next new
one_lower goal now new left next so_far some same is =
    let more : left ≡ suc next = omega (arith, some, same) in
    let long : length new ≡ length now - 1 = ap length is ∙ long_below now in record {
      back = ap (λ (z : List Scope). lowered next z) is ∙ sym (ap (λ (k : ℕ). lowered k now) more) ∙ so_far.back;
      enough = omega (arith, long, some, same, so_far.enough);
    }

pub all_lower : (goal now : List Scope) (left : ℕ) → LowersTo goal left now → left ≡ 0 → now ≡ goal
all_lower goal now left so_far none = sym (ap (λ (k : ℕ). lowered k now) none) ∙ so_far.back

-- the atoms of one more branch

pub still_none : (atoms more : List Flat) → HasNone atoms → HasNone (atoms ++ more)
still_none atoms more none σ e = λ holds. none σ e (front_holds e atoms more holds)

pub asserted_more : (atoms more : List Flat) (old pushed new : List Scope) (s : Scope) (variables next : ℕ) (is_solvable : Bool) → pushed ≡ old ++ s ∷ [] → s.atoms ≡ []
    → next ≡ variables + s.variables → AreInScopes atoms variables old true → AreAsserted pushed more new is_solvable → AreInScopes (atoms ++ more) next new is_solvable
asserted_more atoms more old pushed new s variables next true is empty same (are, counted) asserted =
    let long : length pushed ≡ length old + 1 = ap length is ∙ long_push old s in
    let some : 0 < length pushed = omega (arith, long) in (
      ap atoms_of asserted
          ∙ atoms_with_all more pushed some
          ∙ ap (λ (z : List Flat). z ++ more) (pushed_atoms old pushed s is empty ∙ are),
      ap open_in asserted ∙ open_with_all more pushed ∙ pushed_open old pushed s is ∙ ap (λ (k : ℕ). k + s.variables) counted ∙ sym same,
    )
asserted_more atoms more old pushed new s variables next false is empty same (are, counted) asserted =
    subst (λ (z : List Flat). HasNone (z ++ more)) (pushed_atoms old pushed s is empty ∙ are) asserted

-- On the way to a place: these branches stand from place `at` on, over so many variables, under these atoms, and the
-- one that is looked for stands in one of them.
pub record WayTo (free : ℕ) (root : Branch) (place at variables : ℕ) (round : List Flat) : Type 0 where
  pub left : Branches
  pub after : Branches
  pub final : ℕ
  pub under : List Flat
  pub low : at ≤ place
  pub stand : from_place at (one_more root no_branch) ≡ joined left after
  pub there : AtOne variables round left (place - at) final under (branch_at place root)
  pub over : BranchesOver variables left
  pub whole : At free [] root place final under (branch_at place root)

pub way_first : (free : ℕ) (root : Branch) (place : ℕ) → place < size root → BranchOver free root → WayTo free root place 0 free []
way_first free root place low over =
    let found = stands_some free place [] root low in
    let e : place ≡ place - 0 = omega arith in record {
      left = one_more root no_branch;
      after = no_branch;
      final = found.0;
      under = found.1;
      low = omega arith;
      stand = refl;
      there =
          subst (λ (k : ℕ). AtOne free [] (one_more root no_branch) k found.0 found.1 (branch_at place root)) e (inl (low, found.2));
      over = (over, tt);
      whole = found.2;
    }

module _ (free : ℕ) (root : Branch) (place at variables : ℕ) (round : List Flat) (slot : Slot) (is : slot ≡ slot_of at (branch_at at root)) (before : at < place) where
  -- into the first one, if the place is in it
  into : (left after : Branches) (final : ℕ) (under : List Flat) → from_place at (one_more root no_branch) ≡ joined left after
      → AtOne variables round left (place - at) final under (branch_at place root) → BranchesOver variables left
      → At free [] root place final under (branch_at place root) → place < slot.end
      → WayTo free root place (at + 1) (variables + slot.bound) (round ++ slot.basic) × BasicOver (variables + slot.bound) slot.basic
  into no_branch after final under stand there over whole inside = absurd there
  into (one_more (branch bound basic parts list) rest) after final under stand there over whole inside =
      let here : branch_at at root ≡ branch bound basic parts list = ap (λ (z : Branches). first_of z) stand in
      let same : slot ≡ slot_of at (branch bound basic parts list) = is ∙ ap (λ (z : Branch). slot_of at z) here in
      let end : slot.end ≡ at + size (branch bound basic parts list) = ap (λ (s : Slot). s.end) same in
      let deeper : place - at ≡ suc (place - (at + 1)) = omega (arith, before) in
      let found : AtOne (variables + bound) (round ++ basic) parts (place - (at + 1)) final under (branch_at place root) = elim there [
        | inl (low, stands) ↦
            subst (λ (k : ℕ). At variables round (branch bound basic parts list) k final under (branch_at place root)) deeper stands
        | inr (k, past, stands) ↦ absurd (omega (arith, past, inside, end))
      ] in
      let way : WayTo free root place (at + 1) (variables + bound) (round ++ basic) = record {
        left = parts;
        after = joined rest after;
        final = final;
        under = under;
        low = omega (arith, before);
        stand = from_more at 1 (one_more root no_branch) ∙ ap (λ (z : Branches). from_place 1 z) stand;
        there = found;
        over = over.0.1;
        whole = whole;
      } in
      subst (λ (s : Slot). WayTo free root place (at + 1) (variables + s.bound) (round ++ s.basic) × BasicOver (variables + s.bound) s.basic) (sym same)
      (way, over.0.0)

  -- past it, if the place is not
  past_one : (left after : Branches) (final : ℕ) (under : List Flat) → from_place at (one_more root no_branch) ≡ joined left after
      → AtOne variables round left (place - at) final under (branch_at place root) → BranchesOver variables left
      → At free [] root place final under (branch_at place root) → slot.end ≤ place → WayTo free root place slot.end variables round
  past_one no_branch after final under stand there over whole outside = absurd there
  past_one (one_more part rest) after final under stand there over whole outside =
      let here : branch_at at root ≡ part = ap (λ (z : Branches). first_of z) stand in
      let end : slot.end ≡ at + size part = slot_end at part slot (is ∙ ap (λ (z : Branch). slot_of at z) here) in
      let found : AtOne variables round rest (place - slot.end) final under (branch_at place root) = elim there [
        | inl (low, stands) ↦ absurd (omega (arith, low, outside, end, before))
        | inr (k, past, stands) ↦
            let e : k ≡ place - slot.end = omega (arith, past, outside, end, before) in
            subst (λ (j : ℕ). AtOne variables round rest j final under (branch_at place root)) e stands
      ] in record {
        left = rest;
        after = after;
        final = final;
        under = under;
        low = outside;
        stand =
            ap (λ (j : ℕ). from_place j (one_more root no_branch)) end
            ∙ from_more at (size part) (one_more root no_branch)
            ∙ ap (λ (z : Branches). from_place (size part) z) stand
            ∙ from_one part (joined rest after);
        there = found;
        over = over.1;
        whole = whole;
      }

  pub way_into : WayTo free root place at variables round → place < slot.end
      → WayTo free root place (at + 1) (variables + slot.bound) (round ++ slot.basic) × BasicOver (variables + slot.bound) slot.basic
  way_into way inside = into way.left way.after way.final way.under way.stand way.there way.over way.whole inside

  pub way_past : WayTo free root place at variables round → slot.end ≤ place → WayTo free root place slot.end variables round
  way_past way outside = past_one way.left way.after way.final way.under way.stand way.there way.over way.whole outside

-- the place is reached
reached : (variables i final : ℕ) (round under : List Flat) (left : Branches) (x : Branch) → AtOne variables round left i final under x → i ≡ 0
    → (final ≡ variables) × (under ≡ round)
reached variables i final round under no_branch x there first = absurd there
reached variables i final round under (one_more (branch bound basic parts list) rest) x there first = elim there [
  | inl (low, stands) ↦
      let at : At variables round (branch bound basic parts list) 0 final under x =
      subst (λ (k : ℕ). At variables round (branch bound basic parts list) k final under x) first stands in
      (at.0, at.1)
  | inr (k, past, stands) ↦ absurd (omega (arith, past, first))
]

pub way_ends : (free : ℕ) (root : Branch) (place at variables : ℕ) (round : List Flat) (scopes : List Scope) (is_solvable : Bool)
    → WayTo free root place at variables round → AreInScopes round variables scopes is_solvable → place ≤ at
    → IsRoundOf free root place variables scopes is_solvable
way_ends free root place at variables round scopes is_solvable way are past =
    let first : place - at ≡ 0 = omega (arith, past) in
    let same = reached variables (place - at) way.final round way.under way.left (branch_at place root) way.there first in (
      round,
      subst (λ (z : List Flat). At free [] root place variables z (branch_at place root)) same.1
          (subst (λ (k : ℕ). At free [] root place k way.under (branch_at place root)) same.0 way.whole),
      are,
    )

-- the scopes of an opening store
pub opening_in : (free : ℕ) (scopes : List Scope) → scopes ≡ record { variables = free; atoms = [] } ∷ [] → AreInScopes [] free scopes true
opening_in free scopes is = (ap atoms_of is, ap open_in is ∙ omega arith)

pub opening_some : (free : ℕ) (scopes : List Scope) → scopes ≡ record { variables = free; atoms = [] } ∷ [] → length scopes ≡ 1
opening_some free scopes is = ap length is

-- one branch, by whether the atoms before have a solution

pub counted_if : (atoms : List Flat) (variables : ℕ) (scopes : List Scope) (b : Bool) → b ≡ true → AreInScopes atoms variables scopes b → open_in scopes ≡ variables
counted_if atoms variables scopes b e are = let in_scopes : AreInScopes atoms variables scopes true = subst (λ (z : Bool). AreInScopes atoms variables scopes z) e are in in_scopes.1

pub none_more : (atoms more : List Flat) (variables next : ℕ) (scopes : List Scope) (b : Bool) → b ≡ false → AreInScopes atoms variables scopes b
    → AreInScopes (atoms ++ more) next scopes b
none_more atoms more variables next scopes b e are =
    subst (λ (z : Bool). AreInScopes (atoms ++ more) next scopes z) (sym e)
    (still_none atoms more (subst (λ (z : Bool). AreInScopes atoms variables scopes z) e are))

pub pushed_basic : (atoms more : List Flat) (old pushed : List Scope) (s : Scope) (variables : ℕ) (b : Bool) → pushed ≡ old ++ s ∷ [] → b ≡ true
    → AreInScopes atoms variables old b → BasicOver (variables + s.variables) more → BasicOver (open_in pushed) more
pushed_basic atoms more old pushed s variables b is e are over =
    let count : open_in pushed ≡ variables + s.variables = pushed_open old pushed s is ∙ ap (λ (k : ℕ). k + s.variables) (counted_if atoms variables old b e are) in
    subst (λ (k : ℕ). BasicOver k more) (sym count) over

pub asserted_if : (atoms more : List Flat) (old pushed new : List Scope) (s : Scope) (variables next : ℕ) (b is_solvable : Bool) → b ≡ true → pushed ≡ old ++ s ∷ []
    → s.atoms ≡ [] → next ≡ variables + s.variables → AreInScopes atoms variables old b → AreAsserted pushed more new is_solvable
    → AreInScopes (atoms ++ more) next new is_solvable
asserted_if atoms more old pushed new s variables next b is_solvable e is empty same are asserted =
    asserted_more atoms more old pushed new s variables next is_solvable is empty same (subst (λ (z : Bool). AreInScopes atoms variables old z) e are) asserted

pub slot_behind : (at : ℕ) (x : Branch) (slot : Slot) → slot ≡ slot_of at x → at < slot.end
slot_behind at x slot is = let some : 0 < size x = size_positive x in let end : slot.end ≡ at + size x = slot_end at x slot is in omega (arith, some, end)
