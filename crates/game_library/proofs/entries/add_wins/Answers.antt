use Rattle.std.proofs.Common.{arith}
use Rattle.flattening.specs.declared.solved.Key.TheVariants.{Call}
use Rattle.game_library.proofs.Grown.{grown_then, still_has, wins_more}
use Rattle.game_library.proofs.entries.add_wins.Goals as goal

pub add_win-requires-clause-pred : goal.add_win-requires-clause-pred
add_win-requires-clause-pred g c =
    λ less. still_has c.args.table.now c.add_fewer.new.table (Call c.args.pred.now.place) c.add_fewer.ensures.grown (c.requires.pred less)

pub returns-in_err-add_win-clause-grown : goal.returns-in_err-add_win-clause-grown
returns-in_err-add_win-clause-grown g c =
    grown_then c.args.table.now c.add_fewer.new.table c.add_win.new.table c.add_fewer.ensures.grown c.add_win.ensures.grown

pub returns-clause-grown : goal.returns-clause-grown
returns-clause-grown g c =
    grown_then c.args.table.now c.add_fewer.new.table c.add_win.new.table c.add_fewer.ensures.grown c.add_win.ensures.grown

pub returns-clause-ok : goal.returns-clause-ok
returns-clause-ok g c =
    λ k less.
    wins_more c.add_fewer.new.table c.add_win.new.table c.args.pred.now.place c.args.most c.add_win.ensures.grown c.in_ok-add_fewer.ensures.ok c.in_ok-add_win.ensures.ok k
    (omega (arith, less))
