-- The parts of a branch, one behind the other, by their places.
use Rattle.std.proofs.Common.{ℕ, ◌≡◌, ◌+◌, ◌<◌, ◌≤◌, List, Option, refl, ap, ◌∙◌, arith}
use Rattle.flat_form.specs.declared.atom.Flat.{Flat}
use Rattle.flat_form.specs.declared.cube.Cube.{Cube}
use Rattle.node_facts.specs.Branches.{Branch, Branches, branch, no_branch, one_more, size, sizes}
use Rattle.working_rules.specs.declared.slot.Slot.{Slot}
use Rattle.working_rules.specs.Forests.{joined, from_place, first_of, branch_at}
use Rattle.working_rules.specs.Slots.{slot_of}
use Rattle.working_rules.proofs.Forests.{from_more, from_one, left_low}

-- these parts are left: they stand from place `at` on, up to the end of their branch
pub record PartsFrom (root : Branch) (end at : ℕ) (left : Branches) : Type 0 where
  pub after : Branches
  pub stand : from_place at (one_more root no_branch) ≡ joined left after
  pub upto : at + sizes left ≡ end

-- the first part of a branch stands behind it
pub parts_first : (root : Branch) (i end bound : ℕ) (basic : List Flat) (parts : Branches) (list : Option (List Cube)) (rest : Branches)
    → from_place i (one_more root no_branch) ≡ one_more (branch bound basic parts list) rest → end ≡ i + size (branch bound basic parts list)
    → PartsFrom root end (i + 1) parts
parts_first root i end bound basic parts list rest stands same = record {
  after = rest;
  stand = from_more i 1 (one_more root no_branch) ∙ ap (λ (z : Branches). from_place 1 z) stands;
  upto = omega (arith, same);
}

-- before the end there is one more
pub some_part : (root : Branch) (end at : ℕ) (left : Branches) → PartsFrom root end at left → at < end → (part : Branch) × (more : Branches) × (left ≡ one_more part more)
some_part root end at no_branch from low = absurd (omega (arith, from.upto, low))
some_part root end at (one_more part more) from low = (part, more, refl)

pub part_low : (root : Branch) (end at : ℕ) (part : Branch) (more : Branches) → PartsFrom root end at (one_more part more) → at < size root
part_low root end at part more from =
    let within : at < sizes (one_more root no_branch) = left_low at (one_more root no_branch) part (joined more from.after) from.stand in
    omega (arith, within)

pub part_here : (root : Branch) (end at : ℕ) (part : Branch) (more : Branches) → PartsFrom root end at (one_more part more) → branch_at at root ≡ part
part_here root end at part more from = ap (λ (z : Branches). first_of z) from.stand

-- the next part stands at the end of this one
pub parts_more : (root : Branch) (end at next_at : ℕ) (part : Branch) (more : Branches) → PartsFrom root end at (one_more part more)
    → next_at ≡ at + size (branch_at at root) → PartsFrom root end next_at more
parts_more root end at next_at part more from is_next =
    let long : size (branch_at at root) ≡ size part = ap size (part_here root end at part more from) in
    let behind : next_at ≡ at + size part = omega (arith, is_next, long) in
    let upto : at + (size part + sizes more) ≡ end = from.upto in record {
      after = from.after;
      stand =
          ap (λ (j : ℕ). from_place j (one_more root no_branch)) behind
          ∙ from_more at (size part) (one_more root no_branch)
          ∙ ap (λ (z : Branches). from_place (size part) z) from.stand
          ∙ from_one part (joined more from.after);
      upto = omega (arith, behind, upto);
    }

pub size_positive : (x : Branch) → 0 < size x
size_positive (branch bound basic parts list) = omega arith

-- at the end there is none
pub no_part : (root : Branch) (end at : ℕ) (left : Branches) → PartsFrom root end at left → end ≤ at → left ≡ no_branch
no_part root end at no_branch from past = refl
no_part root end at (one_more part more) from past =
    let some : 0 < size part = size_positive part in
    let upto : at + (size part + sizes more) ≡ end = from.upto in absurd (omega (arith, upto, some, past))

-- the end of a slot

end_of : (at : ℕ) (x : Branch) → (slot_of at x).end ≡ at + size x
end_of at (branch bound basic parts list) = refl

pub slot_end : (at : ℕ) (x : Branch) (slot : Slot) → slot ≡ slot_of at x → slot.end ≡ at + size x
slot_end at x slot is = ap (λ (s : Slot). s.end) is ∙ end_of at x
