-- Places in a tree of branches: a branch stands before its parts, and these stand one behind the other.
use Rattle.std.specs.Prelude.{◌≡◌, ℕ, zero, suc, ◌+◌, ◌-◌, ◌<◌, ltb, cond, List, ◌++◌, ◌⊎◌}
use Rattle.flat_form.specs.declared.atom.Flat.{Flat}
use Rattle.flat_form.specs.declared.cube.Cube.{Cube}
use Rattle.node_facts.specs.Branches.{Branch, Branches, branch, no_branch, one_more, size, with_list}

abbrev mutual
  -- At place i of a branch over n variables, which stands at place 0, stands x, over m variables. `round` are the atoms
  -- round the branch; those round x are `under`: they come from the root on, and the atoms of x itself are not of them.
  pub At : ℕ → List Flat → Branch → ℕ → ℕ → List Flat → Branch → Type 0
  At n round (branch bound basic parts list) zero m under x = (m ≡ n) × (under ≡ round) × (x ≡ branch bound basic parts list)
  At n round (branch bound basic parts list) (suc i) m under x = AtOne (n + bound) (round ++ basic) parts i m under x

  -- and so in one of the branches, of which the first stands at place 0
  pub AtOne : ℕ → List Flat → Branches → ℕ → ℕ → List Flat → Branch → Type 0
  AtOne n round no_branch i m under x = ⊥
  AtOne n round (one_more part rest) i m under x =
      ((i < size part) × At n round part i m under x) ⊎ ((k : ℕ) × (i ≡ size part + k) × AtOne n round rest k m under x)

abbrev mutual
  -- the branch with what f makes of the one at place i
  pub changed : (Branch → Branch) → ℕ → Branch → Branch
  changed f zero (branch bound basic parts list) = f (branch bound basic parts list)
  changed f (suc i) (branch bound basic parts list) = branch bound basic (changed_one f i parts) list

  pub changed_one : (Branch → Branch) → ℕ → Branches → Branches
  changed_one f i no_branch = no_branch
  changed_one f i (one_more part rest) =
      cond (ltb i (size part)) (one_more (changed f i part) rest) (one_more part (changed_one f (i - size part) rest))

-- with y at place i
abbrev pub replaced : ℕ → Branch → Branch → Branch
replaced i y x = changed (λ old. y) i x

-- with the list at the branch at place i
abbrev pub listed : ℕ → List Cube → Branch → Branch
listed i list x = changed (with_list list) i x
