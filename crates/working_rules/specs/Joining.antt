-- What the lists of the parts of a branch come to.
use Rattle.std.specs.Prelude.{ℕ, ◌+◌, List, []}
use Rattle.flat_form.specs.declared.atom.Flat.{Flat}
use Rattle.flat_form.specs.declared.cube.Cube.{Cube}
use Rattle.flat_form.specs.Numbering.{CubesOver}
use Rattle.step_facts.specs.Lists.{IsJoined}
use Rattle.node_facts.specs.Agreement.{HaveLists}
use Rattle.node_facts.specs.Branches.{Branch, Branches, branch}
use Rattle.node_facts.specs.Nested.{IsClosedUnder}
use Rattle.node_facts.specs.Places.{At}
use Rattle.working_rules.specs.Forests.{branch_at}

-- the parts of a branch
abbrev pub parts_in : Branch → Branches
parts_in (branch bound basic parts list) = parts

-- how many variables it binds
abbrev pub bound_in : Branch → ℕ
bound_in (branch bound basic parts list) = bound

-- its atoms
abbrev pub basic_in : Branch → List Flat
basic_in (branch bound basic parts list) = basic

-- a list joined with those of the branches
abbrev pub IsJoinedWith : ℕ → List Cube → Branches → List Cube → Type 0
IsJoinedWith n first parts out = (lists : List (List Cube)) × HaveLists n parts lists × IsJoined first lists out

-- the cubes, over n variables, are what the lists of its parts come to, under the atoms round the branch
abbrev pub IsWorkedOff : ℕ → List Flat → Branch → List Cube → Type 0
IsWorkedOff n under x out =
    CubesOver n out
    × (lists : List (List Cube)) × HaveLists (n + bound_in x) (parts_in x) lists × IsClosedUnder n under (bound_in x) (basic_in x) lists out

-- they are what they come to for the branch at this place of a tree over n variables
abbrev pub IsListAt : ℕ → Branch → ℕ → List Cube → Type 0
IsListAt n root place out =
    (variables : ℕ) × (under : List Flat) × At n [] root place variables under (branch_at place root)
    × IsWorkedOff variables under (branch_at place root) out
