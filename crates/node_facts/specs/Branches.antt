-- Negated conjunctions that are being solved: a tree of branches, each with its list once it has one.
use Rattle.std.specs.Prelude.{ℕ, ◌+◌, Bool, true, false, not, ◌&&◌, cond, List, [], ◌∷◌, ◌++◌, Option, Some, None, MatchOption}
use Rattle.lists.specs.Distinct.{IsDistinct}
use Rattle.tree_model.specs.Signatures.{Signature}
use Rattle.tree_model.specs.Valuations.{Valuation}
use Rattle.flat_form.specs.declared.atom.Flat.{Flat}
use Rattle.flat_form.specs.declared.cube.Cube.{Cube}
use Rattle.flat_form.specs.Fitting.{BasicFits}
use Rattle.flat_form.specs.Meanings.{Extends, BasicHolds, SomeHolds}
use Rattle.flat_form.specs.Normals.{Norm, Norms, norm, none, also}
use Rattle.flat_form.specs.Numbering.{BasicOver, CubesOver}
use Rattle.flat_form.specs.Symbols.{CubesFit}

mutual
  -- how many variables it binds, its atoms, its parts, and its list if it has one
  pub data Branch : Type 0 where
    branch : ℕ → List Flat → Branches → Option (List Cube) → Branch

  -- the parts of a branch, in order
  pub data Branches : Type 0 where
    no_branch : Branches
    one_more : Branch → Branches → Branches

abbrev mutual
  -- the negated conjunction of a branch: lists are left out
  pub norm_in : Branch → Norm
  norm_in (branch bound basic parts list) = norm bound basic (norms_in parts)

  pub norms_in : Branches → Norms
  norms_in no_branch = none
  norms_in (one_more part rest) = also (norm_in part) (norms_in rest)

abbrev mutual
  -- a negated conjunction that is yet to be solved: no list stands anywhere
  pub unturned : Norm → Branch
  unturned (norm bound basic parts) = branch bound basic (all_unturned parts) None

  pub all_unturned : Norms → Branches
  all_unturned none = no_branch
  all_unturned (also part rest) = one_more (unturned part) (all_unturned rest)

-- the branch with this list
abbrev pub with_list : List Cube → Branch → Branch
with_list list (branch bound basic parts other) = branch bound basic parts (Some list)

abbrev pub has_parts : Branches → Bool
has_parts no_branch = false
has_parts (one_more part rest) = true

-- a branch waits while it has parts and no list
abbrev pub is_waiting : Branch → Bool
is_waiting (branch bound basic parts None) = has_parts parts
is_waiting (branch bound basic parts (Some list)) = false

abbrev pub none_waits : Branches → Bool
none_waits no_branch = true
none_waits (one_more part rest) = not (is_waiting part) && none_waits rest

-- it is ready when none of its parts waits
abbrev pub is_ready : Branch → Bool
is_ready (branch bound basic parts list) = is_waiting (branch bound basic parts list) && none_waits parts

abbrev mutual
  -- how many branches there are: itself, its parts, their parts, and so on
  pub size : Branch → ℕ
  size (branch bound basic parts list) = 1 + sizes parts

  pub sizes : Branches → ℕ
  sizes no_branch = 0
  sizes (one_more part rest) = size part + sizes rest

abbrev mutual
  -- how many of them wait
  pub waiting : Branch → ℕ
  waiting (branch bound basic parts list) = cond (is_waiting (branch bound basic parts list)) 1 0 + all_waiting parts

  pub all_waiting : Branches → ℕ
  all_waiting no_branch = 0
  all_waiting (one_more part rest) = waiting part + all_waiting rest

abbrev mutual
  -- how many of a negated conjunction, its parts, their parts, and so on, have parts
  pub with_parts : Norm → ℕ
  with_parts (norm bound basic none) = 0
  with_parts (norm bound basic (also part rest)) = 1 + (with_parts part + all_with_parts rest)

  pub all_with_parts : Norms → ℕ
  all_with_parts none = 0
  all_with_parts (also part rest) = with_parts part + all_with_parts rest

abbrev mutual
  -- the places of the ready branches, in order; a branch stands before its parts, and this one stands at place `at`
  pub ready_places : ℕ → Branch → List ℕ
  ready_places at (branch bound basic parts list) =
      cond (is_ready (branch bound basic parts list)) (at ∷ all_ready_places (at + 1) parts) (all_ready_places (at + 1) parts)

  pub all_ready_places : ℕ → Branches → List ℕ
  all_ready_places at no_branch = []
  all_ready_places at (one_more part rest) = ready_places at part ++ all_ready_places (at + size part) rest

abbrev mutual
  -- Over n variables: a branch with a list means that some cube of the list holds. Without one it means that no values of
  -- its bound variables make its atoms and each part hold.
  pub BranchHolds : {σ : Signature} → ℕ → Valuation σ → Branch → Type 0
  BranchHolds n e (branch bound basic parts (Some list)) = SomeHolds e list
  BranchHolds n e (branch bound basic parts None) =
      (d : Valuation _) → Extends n e d → BasicHolds d basic → ¬ BranchesHold (n + bound) d parts

  pub BranchesHold : {σ : Signature} → ℕ → Valuation σ → Branches → Type 0
  BranchesHold n e no_branch = Unit {0}
  BranchesHold n e (one_more part rest) = BranchHolds n e part × BranchesHold n e rest

abbrev mutual
  -- a branch is well numbered over n variables, its list besides distinct, and so are its parts over those that it binds too
  pub BranchOver : ℕ → Branch → Type 0
  BranchOver n (branch bound basic parts list) =
      BasicOver (n + bound) basic × BranchesOver (n + bound) parts × MatchOption list (Unit {0}) (λ cubes. CubesOver n cubes × IsDistinct cubes)

  pub BranchesOver : ℕ → Branches → Type 0
  BranchesOver n no_branch = Unit {0}
  BranchesOver n (one_more part rest) = BranchOver n part × BranchesOver n rest

abbrev mutual
  -- the symbols of a branch, of its lists and of its parts are root symbols over the signature
  pub BranchFits : Signature → Branch → Type 0
  BranchFits σ (branch bound basic parts list) = BasicFits σ basic × BranchesFit σ parts × MatchOption list (Unit {0}) (CubesFit σ)

  pub BranchesFit : Signature → Branches → Type 0
  BranchesFit σ no_branch = Unit {0}
  BranchesFit σ (one_more part rest) = BranchFits σ part × BranchesFit σ rest
