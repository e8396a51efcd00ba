-- The atoms round a branch, in the scopes of a store.
use Rattle.std.specs.Prelude.{◌≡◌, ℕ, zero, suc, ◌+◌, Bool, true, false, List, [], length}
use Rattle.flat_form.specs.declared.atom.Flat.{Flat}
use Rattle.flat_form.specs.Meanings.{HasNone}
use Rattle.basic_solver.specs.declared.scope.Scope.{Scope}
use Rattle.basic_solver.specs.Stores.{atoms_of, open_in, below}
use Rattle.node_facts.specs.Branches.{Branch}
use Rattle.node_facts.specs.Places.{At}
use Rattle.working_rules.specs.Forests.{branch_at}

-- with so many scopes given up
abbrev pub lowered : ℕ → List Scope → List Scope
lowered zero scopes = scopes
lowered (suc count) scopes = lowered count (below scopes)

-- so many scopes stand above the old ones
pub record StandAbove (old : List Scope) (count : ℕ) (new : List Scope) : Type 0 where
  pub back : lowered count new ≡ old
  pub long : length new ≡ length old + count

-- The atoms are those of the scopes, which have so many variables. Or they have no solution.
abbrev pub AreInScopes : List Flat → ℕ → List Scope → Bool → Type 0
AreInScopes atoms variables scopes true = (atoms_of scopes ≡ atoms) × (open_in scopes ≡ variables)
AreInScopes atoms variables scopes false = HasNone atoms

-- the atoms round the branch at this place, of a tree over n variables; it is over so many
abbrev pub IsRoundOf : ℕ → Branch → ℕ → ℕ → List Scope → Bool → Type 0
IsRoundOf n root place variables scopes is_solvable =
    (under : List Flat) × At n [] root place variables under (branch_at place root) × AreInScopes under variables scopes is_solvable
