-- What the lists of the parts of a branch come to, step by step, and what a turn makes of it.
use Rattle.std.specs.Prelude.{slice_get, Some, None}
use Rattle.std.proofs.Common.{ℕ, ◌≡◌, ◌+◌, ◌<◌, ◌≤◌, Bool, true, false, List, [], ◌∷◌, Option, length, refl, sym, ap, ◌∙◌, subst, arith}
use Rattle.std.specs.Prelude.{All, ◌&&◌}
use Rattle.std.proofs.lemmas.Bool.{both_ways}
use Rattle.std.proofs.lemmas.List.Elements.{All-nil}
use Rattle.tree_model.specs.Signatures.{Signature}
use Rattle.flat_form.specs.declared.atom.Flat.{Flat}
use Rattle.flat_form.specs.declared.cube.Cube.{Cube}
use Rattle.flat_form.specs.Fitting.{NormFits, AtomFits}
use Rattle.flat_form.specs.Numbering.{AtomOver, BasicOver, CubesOver, IsWellNumbered}
use Rattle.lists.specs.Distinct.{IsDistinct}
use Rattle.step_facts.specs.Lists.{TakesSteps, IsClosed}
use Rattle.basic_solver.specs.declared.scope.Scope.{Scope}
use Rattle.basic_solver.specs.Stores.{atoms_of, open_in}
use Rattle.node_facts.specs.Agreement.{IsTurn, IsHeld}
use Rattle.node_facts.specs.Branches.{Branch, Branches, branch, no_branch, one_more, size, norm_in, is_waiting, none_waits, is_ready, ready_places, BranchOver, BranchesOver}
use Rattle.node_facts.specs.Nested.{Keeps}
use Rattle.node_facts.specs.Places.{At, listed}
use Rattle.node_facts.proofs.ClosedUnder.{under_distinct}
use Rattle.node_facts.proofs.Kept.{kept_all, keeps_none}
use Rattle.node_facts.proofs.Places.{over_at, places_have}
use Rattle.node_facts.proofs.Turns.{turn_is_made}
use Rattle.working_rules.specs.declared.slot.Slot.{Slot}
use Rattle.working_rules.specs.Forests.{branch_at}
use Rattle.working_rules.specs.Joining.{parts_in, bound_in, basic_in, IsJoinedWith, IsWorkedOff, IsListAt}
use Rattle.working_rules.specs.Rounds.{lowered, StandAbove, AreInScopes, IsRoundOf}
use Rattle.working_rules.specs.Slots.{slot_of}

-- keeping

pub none_kept : (under : List Flat) (variables : ℕ) (scopes : List Scope) (b : Bool) (cubes out : List Cube) → b ≡ false → AreInScopes under variables scopes b
    → out ≡ [] → Keeps under cubes out
none_kept under variables scopes b cubes out e are empty =
    subst (λ (z : List Cube). Keeps under cubes z) (sym empty) (keeps_none under cubes (subst (λ (z : Bool). AreInScopes under variables scopes z) e are))

pub some_kept : (under : List Flat) (variables : ℕ) (scopes : List Scope) (b : Bool) (cubes out : List Cube) → b ≡ true → AreInScopes under variables scopes b
    → Keeps (atoms_of scopes) cubes out → Keeps under cubes out
some_kept under variables scopes b cubes out e are kept =
    let in_scopes : AreInScopes under variables scopes true = subst (λ (z : Bool). AreInScopes under variables scopes z) e are in
    subst (λ (z : List Flat). Keeps z cubes out) in_scopes.0 kept

pub well_numbered : (n : ℕ) (cubes : List Cube) → CubesOver n cubes → All IsWellNumbered cubes
well_numbered n cubes over = λ k d low. (over k d low).1

pub free_enough : (n variables : ℕ) (cubes : List Cube) → variables ≤ n → CubesOver n cubes → All (λ (cube : Cube). variables ≤ cube.free) cubes
free_enough n variables cubes few over = λ k d low. let free = (over k d low).0 in omega (arith, free, few)

pub kept_over : (under : List Flat) (n : ℕ) (cubes out : List Cube) → Keeps under cubes out → CubesOver n cubes → CubesOver n out
kept_over under n cubes out kept over = kept_all (λ (cube : Cube). (cube.free ≡ n) × IsWellNumbered cube) under cubes out kept over

-- the branch, by its slot

pub slot_parts : (n count at : ℕ) (x : Branch) (slot : Slot) → slot ≡ slot_of at x → count ≡ n + slot.bound → BranchOver n x
    → BasicOver count slot.basic × BranchesOver count (parts_in x)
slot_parts n count at (branch bound basic parts list) slot is same over =
    let inside : BasicOver (n + slot.bound) slot.basic × BranchesOver (n + slot.bound) parts =
    subst (λ (s : Slot). BasicOver (n + s.bound) s.basic × BranchesOver (n + s.bound) parts) (sym is) (over.0, over.1) in
    subst (λ (k : ℕ). BasicOver k slot.basic × BranchesOver k parts) (sym same) inside

pub worked_off : (n count at : ℕ) (under : List Flat) (x : Branch) (slot : Slot) (first all kept closed out : List Cube) → slot ≡ slot_of at x → count ≡ n + slot.bound
    → TakesSteps [] (record { free = count; outer = 0; basic = slot.basic; parts = [] } ∷ []) first → IsJoinedWith count first (parts_in x) all
    → Keeps under all kept → IsClosed n slot.bound kept closed → Keeps under closed out → CubesOver n out → IsWorkedOff n under x out
worked_off n count at under (branch bound basic parts list) slot first all kept closed out is same is_first joined is_kept is_closed is_open over =
    let count_is : count ≡ n + bound = same ∙ ap (λ (s : Slot). n + s.bound) is in
    let basic_is : slot.basic ≡ basic = ap (λ (s : Slot). s.basic) is in
    let bound_is : slot.bound ≡ bound = ap (λ (s : Slot). s.bound) is in
    let here : IsJoinedWith (n + bound) first parts all = subst (λ (k : ℕ). IsJoinedWith k first parts all) count_is joined in
    let made : TakesSteps [] (record { free = n + bound; outer = 0; basic = basic; parts = [] } ∷ []) first =
    subst (λ (k : ℕ). TakesSteps [] (record { free = k; outer = 0; basic = basic; parts = [] } ∷ []) first) count_is
    (subst (λ (z : List Flat). TakesSteps [] (record { free = count; outer = 0; basic = z; parts = [] } ∷ []) first) basic_is is_first) in
    let shut : IsClosed n bound kept closed = subst (λ (k : ℕ). IsClosed n k kept closed) bound_is is_closed in
    (over, here.0, here.1, (first, all, kept, closed, made, here.2, is_kept, shut, is_open))

-- the scopes

pub above_some : (old new : List Scope) (count : ℕ) → 0 < length old → StandAbove old count new → 0 < length new
above_some old new count some above = omega (arith, some, above.long)

pub above_enough : (old new : List Scope) (count : ℕ) → length old ≡ 1 → StandAbove old count new → count < length new
above_enough old new count one above = omega (arith, one, above.long)

-- the round of a branch

pub round_over : (n : ℕ) (root : Branch) (place variables : ℕ) (scopes : List Scope) (b : Bool) → IsRoundOf n root place variables scopes b → BranchOver n root
    → BranchOver variables (branch_at place root)
round_over n root place variables scopes b (under, stands, are) over =
    (over_at n place variables [] under root (branch_at place root) stands over (All-nil (AtomOver n))).0

pub list_made : (n : ℕ) (root : Branch) (place variables : ℕ) (scopes : List Scope) (b : Bool) (out : List Cube) → IsRoundOf n root place variables scopes b
    → ((under : List Flat) → AreInScopes under variables scopes b → IsWorkedOff variables under (branch_at place root) out) → IsListAt n root place out
list_made n root place variables scopes b out (under, stands, are) worked = (variables, under, stands, worked under are)
