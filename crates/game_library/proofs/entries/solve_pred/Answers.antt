use Rattle.std.specs.Prelude.{length}
use Rattle.game_library.proofs.Declared.{stands_declared}
use Rattle.game_library.proofs.RightEntries.{params_are, called_right}
use Rattle.game_library.proofs.Solved.{body_over}
use Rattle.game_library.proofs.entries.solve_pred.Goals as goal

pub solve_with-requires-clause-over : goal.solve_with-requires-clause-over
solve_with-requires-clause-over g c =
    (length c.args.pred.now.names, body_over g.E.Engine.gives c.args.file.now c.requires.formed c.args.pred.now c.requires.stands)

pub solve_with-requires-clause-free : goal.solve_with-requires-clause-free
solve_with-requires-clause-free g c =
    rw c.in_ok-ranks.ensures (params_are g.E.Engine.gives c.args.file.now c.requires.formed c.args.pred.now c.requires.stands)

pub returns : goal.returns
returns g c =
    called_right g.E.Engine.gives c.args.file.now c.requires.formed c.args.pred.now c.in_ok-cubes.cubes c.requires.stands
    (stands_declared c.args.file.now c.requires.formed c.args.pred.now c.requires.stands) (rw c.in_ok-ranks.ensures at c.in_ok-cubes.ensures)
