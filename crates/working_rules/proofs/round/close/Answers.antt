use Rattle.std.proofs.Common.{refl}
use Rattle.working_rules.specs.Rounds.{lowered}
use Rattle.working_rules.proofs.Rounds.{one_lower}
use Rattle.working_rules.proofs.round.close.Goals as goal

pub loop-left-preserved : goal.loop-left-preserved
loop-left-preserved c =
    one_lower (lowered c.args.count c.args.store.now.scopes) c.loop-left.store.scopes c.pop.new.self.scopes c.loop-left.left _ c.loop-left.invariant
    c.loop-left-test.true refl c.pop.ensures
