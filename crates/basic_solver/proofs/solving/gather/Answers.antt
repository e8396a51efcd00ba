use Rattle.std.proofs.Common.{◌∙◌, arith}
use Rattle.basic_solver.proofs.Telling.{gather_more}
use Rattle.basic_solver.proofs.solving.gather.Goals as goal

pub loop-i-preserved : goal.loop-i-preserved
loop-i-preserved c =
    c.in_ok-copy_onto.ensures
    ∙ gather_more c.args.scopes.now c.loop-i.i c.index-scopes-i.result c.loop-i.atoms (omega (arith, c.requires, c.loop-i-test.true)) c.loop-i.invariant
