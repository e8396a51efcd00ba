use Rattle.std.proofs.Common.{arith}
use Rattle.flattening.specs.declared.solved.Key.TheVariants.{Call}
use Rattle.game_library.proofs.Grown.{grown_none, grown_then, still_has, wins_more}
use Rattle.game_library.proofs.entries.add_fewer.Goals as goal

pub loop-moves-init : goal.loop-moves-init
loop-moves-init g c = record { right = c.requires.right; grown = grown_none c.args.table.now; has = λ k less. absurd (omega (arith, less)) }

pub add_win-requires-clause-pred : goal.add_win-requires-clause-pred
add_win-requires-clause-pred g c =
    λ less. still_has c.args.table.now c.loop-moves.table (Call c.args.pred.now.place) c.loop-moves.invariant.grown (c.requires.pred (omega (arith, less, c.loop-moves-test.true)))

pub loop-moves-preserved : goal.loop-moves-preserved
loop-moves-preserved g c = record {
  right = c.add_win.ensures.right;
  grown = grown_then c.args.table.now c.loop-moves.table c.add_win.new.table c.loop-moves.invariant.grown c.add_win.ensures.grown;
  has = wins_more c.loop-moves.table c.add_win.new.table c.args.pred.now.place c.loop-moves.moves c.add_win.ensures.grown c.loop-moves.invariant.has c.in_ok-add_win.ensures.ok;
}

pub returns-in_err-add_win-clause-grown : goal.returns-in_err-add_win-clause-grown
returns-in_err-add_win-clause-grown g c =
    grown_then c.args.table.now c.loop-moves.table c.add_win.new.table c.loop-moves.invariant.grown c.add_win.ensures.grown

pub returns-clause-ok : goal.returns-clause-ok
returns-clause-ok g c = λ k less. c.loop-moves.invariant.has k (omega (arith, less, c.loop-moves-test.false))
