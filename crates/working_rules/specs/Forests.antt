-- Branches in the order in which each stands before its parts, and what is left when the first of them are taken off.
use Rattle.std.specs.Prelude.{ℕ, zero, suc, List, [], Option, None}
use Rattle.flat_form.specs.declared.cube.Cube.{Cube}
use Rattle.node_facts.specs.Branches.{Branch, Branches, branch, no_branch, one_more}

-- how many branches there are, without those in them
abbrev pub count : Branches → ℕ
count no_branch = zero
count (one_more part rest) = suc (count rest)

-- the branches, then further ones
abbrev pub joined : Branches → Branches → Branches
joined no_branch more = more
joined (one_more part rest) more = one_more part (joined rest more)

-- what stands from place i on: a branch that is taken off leaves its parts, and then what stood behind it
abbrev pub from_place : ℕ → Branches → Branches
from_place zero xs = xs
from_place (suc i) no_branch = no_branch
from_place (suc i) (one_more (branch bound basic parts list) rest) = from_place i (joined parts rest)

-- the first one, or an empty one
abbrev pub first_of : Branches → Branch
first_of no_branch = branch 0 [] no_branch None
first_of (one_more part rest) = part

-- the branch at place i, where the root stands at place 0
abbrev pub branch_at : ℕ → Branch → Branch
branch_at i root = first_of (from_place i (one_more root no_branch))

-- the list of a branch, if it has one
abbrev pub list_in : Branch → Option (List Cube)
list_in (branch bound basic parts list) = list
