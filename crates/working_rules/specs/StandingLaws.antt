-- The order of places agrees with the tree.
use Rattle.std.specs.Prelude.{◌≡◌, ℕ, ◌+◌, ◌<◌, List, ◌++◌, Option}
use Rattle.flat_form.specs.declared.atom.Flat.{Flat}
use Rattle.flat_form.specs.declared.cube.Cube.{Cube}
use Rattle.node_facts.specs.Branches.{Branch, Branches, branch, size}
use Rattle.node_facts.specs.Places.{At, AtOne}
use Rattle.working_rules.specs.Forests.{branch_at}

-- what stands at a place is what the order of places has there
abbrev pub StandsInOrder : Type 0
StandsInOrder = (n i m : ℕ) (round under : List Flat) (root x : Branch) → At n round root i m under x → branch_at i root ≡ x

-- a branch stands at each place, over some variables, with some atoms round it
abbrev pub StandsSome : Type 0
StandsSome =
    (n i : ℕ) (round : List Flat) (root : Branch) → i < size root
    → (m : ℕ) × (under : List Flat) × At n round root i m under (branch_at i root)

-- what stands at place j of the parts of a branch, the first at place 0, stands so far behind the branch
abbrev pub StandsInside : Type 0
StandsInside =
    (n i m j k : ℕ) (round under within : List Flat) (root : Branch) (bound : ℕ) (basic : List Flat) (parts : Branches) (list : Option (List Cube))
    (x : Branch) → At n round root i m under (branch bound basic parts list) → AtOne (m + bound) (under ++ basic) parts j k within x
    → At n round root (i + 1 + j) k within x
