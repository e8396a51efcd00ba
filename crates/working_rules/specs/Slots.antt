-- A tree of branches as a list of slots, in which each branch stands before its parts.
use Rattle.std.specs.Prelude.{◌≡◌, ℕ, zero, suc, ◌+◌, List, [], ◌∷◌, ◌++◌}
use Rattle.node_facts.specs.Branches.{Branch, Branches, branch, no_branch, one_more, size}
use Rattle.working_rules.specs.declared.slot.Slot.{Slot}
use Rattle.working_rules.specs.Forests.{count, first_of}

-- the slot of a branch that stands at place `at`; its end is the place behind all that is in it
abbrev pub slot_of : ℕ → Branch → Slot
slot_of at (branch bound basic parts list) =
    record { bound = bound; basic = basic; parts = count parts; end = at + size (branch bound basic parts list); list = list }

abbrev mutual
  -- its slot, and then those of its parts
  pub slots_of : ℕ → Branch → List Slot
  slots_of at (branch bound basic parts list) = slot_of at (branch bound basic parts list) ∷ all_slots_of (at + 1) parts

  -- those of several branches, of which the first stands at place `at`
  pub all_slots_of : ℕ → Branches → List Slot
  all_slots_of at no_branch = []
  all_slots_of at (one_more part rest) = slots_of at part ++ all_slots_of (at + size part) rest

-- the first k branches, and those behind them
abbrev pub front : ℕ → Branches → Branches
front zero xs = no_branch
front (suc k) no_branch = no_branch
front (suc k) (one_more part rest) = one_more part (front k rest)

abbrev pub behind : ℕ → Branches → Branches
behind zero xs = xs
behind (suc k) no_branch = no_branch
behind (suc k) (one_more part rest) = behind k rest

-- the branches that a list of slots has: a slot takes its parts from those that are behind it
abbrev pub grown : List Slot → Branches
grown [] = no_branch
grown (slot ∷ slots) = one_more (branch slot.bound slot.basic (front slot.parts (grown slots)) slot.list) (behind slot.parts (grown slots))

abbrev pub root_in : List Slot → Branch
root_in slots = first_of (grown slots)

-- the slots are those of one branch
abbrev pub IsTree : List Slot → Type 0
IsTree slots = slots ≡ slots_of 0 (root_in slots)
