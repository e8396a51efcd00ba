use Rattle.std.specs.Prelude.{length}
use Rattle.game_library.proofs.Grown.{none_right}
use Rattle.game_library.proofs.solving.solve_formula.Goals as goal

pub solve_by-requires-clause-over : goal.solve_by-requires-clause-over
solve_by-requires-clause-over g c = (length c.args.s.now.names, c.requires.over.formula)

pub solve_by-requires-clause-right : goal.solve_by-requires-clause-right
solve_by-requires-clause-right g c = rw c.new-table.ensures (none_right g.E.Engine.gives c.args.file.now)
