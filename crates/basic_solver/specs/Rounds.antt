-- What came of letting the names follow all atoms once.
use Rattle.std.specs.Prelude.{ℕ, ◌<◌, Bool, List}
use Rattle.flat_form.specs.declared.atom.Flat.{Flat}
use Rattle.flat_facts.specs.Names.{IsClosed}
use Rattle.basic_solver.specs.declared.closing.Round.{Round}
use Rattle.basic_solver.specs.declared.closing.Round.TheVariants.{Clashes, Changes, Stays}
use Rattle.basic_solver.specs.Names.{name_in, weight}
use Rattle.basic_solver.specs.Flags.{AllAgree}

-- two terms clash; the names come earlier now; or they stay, are closed, and no two terms clash
abbrev pub IsRound : List Bool → List Flat → List ℕ → List ℕ → Round → Type 0
IsRound leads atoms old new Clashes = ¬ AllAgree new atoms
IsRound leads atoms old new Changes = weight leads new < weight leads old
IsRound leads atoms old new Stays = IsClosed atoms (name_in new) × AllAgree new atoms
