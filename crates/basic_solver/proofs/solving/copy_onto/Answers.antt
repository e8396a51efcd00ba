use Rattle.basic_solver.proofs.Telling.{push_more}
use Rattle.basic_solver.proofs.solving.copy_onto.Goals as goal

pub loop-i-preserved : goal.loop-i-preserved
loop-i-preserved c =
    push_more c.args.atoms.now c.args.more.now c.loop-i.atoms c.push.new.self c.loop-i.i c.get.result.now c.in_ok-atom.atom
    c.loop-i.invariant c.in_ok-push.ensures.ok c.in_ok-atom.ensures c.get.ensures
