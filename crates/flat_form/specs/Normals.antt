-- Negated conjunctions as plain data, to define their meaning by recursion on.
use Rattle.std.specs.Prelude.{ℕ, List}
use Rattle.flat_form.specs.declared.atom.Flat.{Flat}
use Rattle.flat_form.specs.declared.normal.Normal.{Normal, Normal'}
use Rattle.flat_form.specs.declared.normal.Normals.{Normals, Normals', Row_of-Normal, end_of-Normal, more_of-Normal}
use Rattle.flat_form.specs.declared.normal.Normal.TheViews.{out-Normals}

mutual
  -- a negated conjunction: how many variables it binds, its atoms and its parts
  pub data Norm : Type 0 where
    norm : ℕ → List Flat → Norms → Norm

  -- its parts, in order
  pub data Norms : Type 0 where
    none : Norms
    also : Norm → Norms → Norms

-- the items of a list of negated conjunctions
abbrev pub list_of : Normals → List Normal
list_of normals = (out-Normals normals).items

unfoldable mutual
  pub norm_of : Normal → Norm
  norm_of (Normal' bound basic parts) = norm bound basic (norms_of parts)

  pub norms_of : Normals → Norms
  norms_of (Normals' shape row) = row_norms row

  -- the items, as Rattle keeps them
  pub row_norms : {m : _} → Row_of-Normal m → Norms
  row_norms end_of-Normal = none
  row_norms (more_of-Normal normal rest) = also (norm_of normal) (row_norms rest)

-- the parts, then further parts
abbrev pub join : Norms → Norms → Norms
join none more = more
join (also part parts) more = also part (join parts more)
