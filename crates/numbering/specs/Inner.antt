-- Parts whose variables are all reached.
use Rattle.std.specs.Prelude.{ℕ, ◌<◌, List, Contains}
use Rattle.flat_form.specs.declared.atom.Flat.{Flat}
use Rattle.flat_form.specs.declared.atom.Flat.TheVariants.{VarVar}
use Rattle.flat_form.specs.Parts.{Under}
use Rattle.flat_form.specs.Solved.{variable_of}

-- each atom's variable is reached along terms from the first m, and no other than these is right of an equation of
-- variables
pub record IsReached (m : ℕ) (atoms : List Flat) : Type 0 where
  pub under : (atom : Flat) → Contains atoms atom → Under m atoms (variable_of atom)
  pub equal : (u h : ℕ) → Contains atoms (VarVar u h) → h < m
