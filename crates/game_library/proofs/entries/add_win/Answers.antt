use Rattle.flattening.specs.declared.solved.Key.TheVariants.{Win}
use Rattle.game_library.proofs.Grown.{right_same, right_more, has_last}
use Rattle.game_library.proofs.entries.add_win.Goals as goal

pub returns-in_err-add-clause-right : goal.returns-in_err-add-clause-right
returns-in_err-add-clause-right g c =
    right_same g.E.Engine.gives c.args.file.now c.args.table.now c.add.new.self c.requires.right c.in_err-add.ensures.err

pub returns-clause-right : goal.returns-clause-right
returns-clause-right g c =
    right_more g.E.Engine.gives c.args.file.now c.args.table.now c.add.new.self (Win c.args.pred.now.place c.args.moves) c.in_ok-cubes.cubes c.requires.right
    c.in_ok-cubes.ensures c.in_ok-add.ensures.ok

pub returns-clause-ok : goal.returns-clause-ok
returns-clause-ok g c = has_last c.args.table.now c.add.new.self (Win c.args.pred.now.place c.args.moves) c.in_ok-cubes.cubes c.in_ok-add.ensures.ok
