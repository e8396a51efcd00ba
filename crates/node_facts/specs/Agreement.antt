-- When two branches mean the same under the atoms round them, and what the list is that a turn gives a branch.
use Rattle.std.specs.Prelude.{◌≡◌, ℕ, ◌+◌, List, [], ◌∷◌, ◌++◌, All, Some, None, MatchOption, ◌↔◌}
use Rattle.tree_model.specs.Signatures.{Signature}
use Rattle.tree_model.specs.Valuations.{Valuation}
use Rattle.flat_form.specs.declared.atom.Flat.{Flat}
use Rattle.flat_form.specs.declared.cube.Cube.{Cube}
use Rattle.flat_form.specs.Fitting.{BasicFits}
use Rattle.flat_form.specs.Meanings.{BasicHolds, SomeHolds}
use Rattle.flat_form.specs.Normals.{norm, none}
use Rattle.step_facts.specs.Lists.{IsPlain}
use Rattle.list_facts.specs.Lists.{AreReduced}
use Rattle.node_facts.specs.Branches.{Branch, Branches, branch, no_branch, one_more, norm_in, norms_in, BranchHolds, BranchFits}
use Rattle.node_facts.specs.Nested.{HoldsWith, IsNested}

-- two branches over m variables mean the same wherever the atoms round them hold
abbrev pub AgreesAt : Signature → ℕ → List Flat → Branch → Branch → Type 0
AgreesAt σ m under x y =
    (e : Valuation σ) → BranchFits σ x → BranchFits σ y → BasicFits σ under → BasicHolds e under
    → BranchHolds m e x ↔ BranchHolds m e y

-- the list of a branch that does not wait: the one that it has, or the plain list where it has none and no parts
abbrev pub HasList : ℕ → Branch → List Cube → Type 0
HasList n (branch bound basic parts (Some list)) out = out ≡ list
HasList n (branch bound basic no_branch None) out = IsPlain n (norm bound basic none) out
HasList n (branch bound basic (one_more part rest) None) out = ⊥

-- those of several branches, in order
abbrev pub HaveLists : ℕ → Branches → List (List Cube) → Type 0
HaveLists n no_branch lists = lists ≡ []
HaveLists n (one_more part rest) lists = (list : List Cube) × (more : List (List Cube)) × HasList n part list × HaveLists n rest more × (lists ≡ list ∷ more)

-- What the list is that a turn gives a branch over m variables, under the atoms round it: the nested list of its negated
-- conjunction, of distinct reduced cubes over these variables. Wherever the atoms round hold, it means what the branch
-- did. Each of its cubes holds together with them.
pub record IsTurn (σ : Signature) (m : ℕ) (under : List Flat) (x : Branch) (list : List Cube) : Type 0 where
  pub nested : IsNested m under (norm_in x) list
  pub reduced : AreReduced σ m list
  pub agrees : (e : Valuation σ) → BasicHolds e under → SomeHolds e list ↔ BranchHolds m e x
  pub together : All (HoldsWith σ under) list

abbrev mutual
  -- each list in a branch is the nested list of what has it, under the atoms round that
  pub IsHeld : ℕ → List Flat → Branch → Type 0
  IsHeld n round (branch bound basic parts list) =
      AllHeld (n + bound) (round ++ basic) parts × MatchOption list (Unit {0}) (IsNested n round (norm bound basic (norms_in parts)))

  pub AllHeld : ℕ → List Flat → Branches → Type 0
  AllHeld n round no_branch = Unit {0}
  AllHeld n round (one_more part rest) = IsHeld n round part × AllHeld n round rest
