-- The lists of the parts of a branch are joined one after the other.
use Rattle.std.specs.Prelude.{Option, Some, None, not, All, IfSome}
use Rattle.std.proofs.Common.{ℕ, ◌≡◌, ◌+◌, ◌-◌, ◌<◌, ◌≤◌, Bool, true, false, ◌&&◌, List, [], ◌∷◌, ◌++◌, refl, sym, ap, ◌∙◌, subst, arith}
use Rattle.std.proofs.lemmas.Bool.{both_ways}
use Rattle.flat_form.specs.declared.atom.Flat.{Flat}
use Rattle.flat_form.specs.declared.cube.Cube.{Cube}
use Rattle.flat_form.specs.declared.cube.Part.{Part}
use Rattle.flat_form.specs.Normals.{norm, none}
use Rattle.flat_form.specs.Numbering.{BasicOver, CubesOver, IsWellNumbered}
use Rattle.flat_form.specs.Steps.{Outcome}
use Rattle.step_facts.specs.Lists.{TakesSteps, IsAnd, IsJoined, IsClosed, IsPlain}
use Rattle.node_facts.specs.Agreement.{HasList, HaveLists}
use Rattle.node_facts.specs.Branches.{Branch, Branches, branch, no_branch, one_more, size, is_waiting, none_waits, is_ready, BranchOver, BranchesOver}
use Rattle.working_rules.specs.declared.slot.Slot.{Slot}
use Rattle.working_rules.specs.Forests.{from_place, branch_at}
use Rattle.working_rules.specs.Joining.{parts_in, IsJoinedWith}
use Rattle.working_rules.specs.Slots.{slot_of}
use Rattle.working_rules.proofs.Parts.{PartsFrom, parts_first, some_part, part_low, part_here, parts_more, no_part}

some_same : {A : Type 0} (x y : A) → Some x ≡ Some y → x ≡ y
some_same x y e = cc

none_is_some : {A : Type 0} (x : A) → ¬ (None ≡ Some x)
none_is_some x e = cc

and_first : (x y : Bool) → (x && y) ≡ true → x ≡ true
and_first true y e = refl
and_first false y e = e

and_second : (x y : Bool) → (x && y) ≡ true → y ≡ true
and_second true y e = e
and_second false y e = absurd (both_ways false refl e)

not_true : (x : Bool) → not x ≡ true → x ≡ false
not_true true e = absurd (both_ways false refl e)
not_true false e = refl

-- the list of the atoms alone

abbrev alone : ℕ → List Flat → List Part → Cube
alone count basic parts = record { free = count; outer = 0; basic = basic; parts = parts }

alone_same : (count : ℕ) (basic copied : List Flat) (parts : List Part) → copied ≡ basic → parts ≡ [] → alone count copied parts ≡ alone count basic []
alone_same count basic copied parts same none_yet = ap (λ (z : List Flat). alone count z parts) same ∙ ap (λ (z : List Part). alone count basic z) none_yet

pub first_none : (count : ℕ) (basic copied : List Flat) (parts : List Part) → copied ≡ basic → parts ≡ [] → (found : Option Cube) → Outcome (alone count copied parts) found
    → found ≡ None → (out : List Cube) → out ≡ [] → TakesSteps [] (alone count basic [] ∷ []) out
first_none count basic copied parts same none_yet found outcome is out empty =
    subst (λ (z : List Cube). TakesSteps [] (alone count basic [] ∷ []) z) (sym empty)
    (TakesSteps.without [] (alone count basic []) [] []
    (subst (λ (z : Cube). Outcome z None) (alone_same count basic copied parts same none_yet) (subst (λ (z : Option Cube). Outcome (alone count copied parts) z) is outcome))
    (TakesSteps.all_done []))

pub first_some : (count : ℕ) (basic copied : List Flat) (parts : List Part) → copied ≡ basic → parts ≡ [] → (found : Option Cube) → Outcome (alone count copied parts) found
    → (cube : Cube) → found ≡ Some cube → (before out : List Cube) → before ≡ [] → out ≡ before ++ cube ∷ [] → TakesSteps [] (alone count basic [] ∷ []) out
first_some count basic copied parts same none_yet found outcome cube is before out empty pushed =
    subst (λ (z : List Cube). TakesSteps [] (alone count basic [] ∷ []) z) (sym (pushed ∙ ap (λ (z : List Cube). z ++ cube ∷ []) empty))
    (TakesSteps.new [] (alone count basic []) cube [] (cube ∷ [])
    (subst (λ (z : Cube). Outcome z (Some cube)) (alone_same count basic copied parts same none_yet)
    (subst (λ (z : Option Cube). Outcome (alone count copied parts) z) is outcome))
    (λ i. omega (arith, i.1)) (TakesSteps.all_done (cube ∷ [])))

-- the plain list of a branch without parts

pub plain_is : (n count bound : ℕ) (basic : List Flat) (first out : List Cube) → count ≡ n + bound
    → TakesSteps [] (record { free = count; outer = 0; basic = basic; parts = [] } ∷ []) first → IsClosed n bound first out → IsPlain n (norm bound basic none) out
plain_is n count bound basic first out same is_first is_closed = (
  first,
  first,
  [],
  subst (λ (k : ℕ). TakesSteps [] (record { free = k; outer = 0; basic = basic; parts = [] } ∷ []) first) same is_first,
  refl,
  refl,
  is_closed,
)

-- the list of a branch that does not wait, by its slot

pub slot_some : (n at : ℕ) (x : Branch) (slot : Slot) (list : List Cube) → slot ≡ slot_of at x → slot.list ≡ Some list → HasList n x list
slot_some n at (branch bound basic parts (Some own)) slot list is has =
    let same : Some own ≡ Some list = sym (ap (λ (s : Slot). s.list) is) ∙ has in sym (some_same own list same)
slot_some n at (branch bound basic parts None) slot list is has =
    let same : None ≡ Some list = sym (ap (λ (s : Slot). s.list) is) ∙ has in absurd (none_is_some list same)

pub slot_none : (n at : ℕ) (x : Branch) (slot : Slot) (list : List Cube) → slot ≡ slot_of at x → slot.list ≡ None → is_waiting x ≡ false
    → IsPlain n (norm slot.bound slot.basic none) list → HasList n x list
slot_none n at (branch bound basic parts (Some own)) slot list is has done plain =
    let same : Some own ≡ None = sym (ap (λ (s : Slot). s.list) is) ∙ has in absurd (none_is_some own (sym same))
slot_none n at (branch bound basic no_branch None) slot list is has done plain =
    subst (λ (s : Slot). IsPlain n (norm s.bound s.basic none) list) is plain
slot_none n at (branch bound basic (one_more part rest) None) slot list is has done plain = absurd (both_ways true done refl)

pub slot_basic : (n at : ℕ) (x : Branch) (slot : Slot) → slot ≡ slot_of at x → BranchOver n x → BasicOver (n + slot.bound) slot.basic
slot_basic n at (branch bound basic parts list) slot is over = subst (λ (s : Slot). BasicOver (n + s.bound) s.basic) (sym is) over.0

pub slot_list : (n at : ℕ) (x : Branch) (slot : Slot) (list : List Cube) → slot ≡ slot_of at x → slot.list ≡ Some list → BranchOver n x → CubesOver n list
slot_list n at (branch bound basic parts (Some own)) slot list is has over =
    let same : Some own ≡ Some list = sym (ap (λ (s : Slot). s.list) is) ∙ has in
    subst (λ (z : List Cube). CubesOver n z) (some_same own list same) over.2.0
slot_list n at (branch bound basic parts None) slot list is has over =
    let same : None ≡ Some list = sym (ap (λ (s : Slot). s.list) is) ∙ has in absurd (none_is_some list same)

-- Of the parts of x some are left, which stand from place `at` on, up to the end of x. With the lists of these, all are
-- joined.
pub record PartsToJoin (root x : Branch) (n end at : ℕ) (first all : List Cube) : Type 0 where
  pub left : Branches
  pub from : PartsFrom root end at left
  pub done : none_waits left ≡ true
  pub over : BranchesOver n left
  pub cubes : CubesOver n all
  pub joins : (out : List Cube) → IsJoinedWith n all left out → IsJoinedWith n first (parts_in x) out

pub join_first : (root : Branch) (n i end : ℕ) (x : Branch) (rest : Branches) (first : List Cube) → from_place i (one_more root no_branch) ≡ one_more x rest
    → end ≡ i + size x → is_ready x ≡ true → BranchesOver n (parts_in x) → CubesOver n first → PartsToJoin root x n end (i + 1) first first
join_first root n i end (branch bound basic parts list) rest first stands same ready over cubes = record {
  left = parts;
  from = parts_first root i end bound basic parts list rest stands same;
  done = and_second (is_waiting (branch bound basic parts list)) (none_waits parts) ready;
  over = over;
  cubes = cubes;
  joins = λ out is. is;
}

module _ (root x : Branch) (n end at : ℕ) (first all : List Cube) (p : PartsToJoin root x n end at first all) (low : at < end) where
  -- the next one
  next_part : (part : Branch) × (more : Branches) × (p.left ≡ one_more part more)
  next_part = some_part root end at p.left p.from low

  next_from : PartsFrom root end at (one_more next_part.0 next_part.1)
  next_from = subst (λ (z : Branches). PartsFrom root end at z) next_part.2 p.from

  next_here : branch_at at root ≡ next_part.0
  next_here = part_here root end at next_part.0 next_part.1 next_from

  next_done : (not (is_waiting next_part.0) && none_waits next_part.1) ≡ true
  next_done = sym (ap none_waits next_part.2) ∙ p.done

  next_over : BranchesOver n (one_more next_part.0 next_part.1)
  next_over = subst (λ (z : Branches). BranchesOver n z) next_part.2 p.over

  pub join_low : at < size root
  join_low = part_low root end at next_part.0 next_part.1 next_from

  pub join_done : is_waiting (branch_at at root) ≡ false
  join_done = ap is_waiting next_here ∙ not_true (is_waiting next_part.0) (and_first (not (is_waiting next_part.0)) (none_waits next_part.1) next_done)

  pub join_over : BranchOver n (branch_at at root)
  join_over = subst (λ (z : Branch). BranchOver n z) (sym next_here) next_over.0

  pub join_more : (next_at : ℕ) (list next : List Cube) → next_at ≡ at + size (branch_at at root) → CubesOver n next → HasList n (branch_at at root) list
      → IsAnd all list next → PartsToJoin root x n end next_at first next
  join_more next_at list next is_next cubes has both = record {
    left = next_part.1;
    from = parts_more root end at next_at next_part.0 next_part.1 next_from is_next;
    done = and_second (not (is_waiting next_part.0)) (none_waits next_part.1) next_done;
    over = next_over.1;
    cubes = cubes;
    joins = λ out is.
        let mine : HasList n next_part.0 list = subst (λ (z : Branch). HasList n z list) next_here has in
        p.joins out (subst (λ (z : Branches). IsJoinedWith n all z out) (sym next_part.2)
        (list ∷ is.0, (list, is.0, mine, is.1, refl), (next, both, is.2)));
  }

pub join_all : (root x : Branch) (n end at : ℕ) (first all : List Cube) → PartsToJoin root x n end at first all → end ≤ at
    → IsJoinedWith n first (parts_in x) all
join_all root x n end at first all p past =
    let none_left : p.left ≡ no_branch = no_part root end at p.left p.from past in
    p.joins all (subst (λ (z : Branches). IsJoinedWith n all z all) (sym none_left) ([], refl, refl))
