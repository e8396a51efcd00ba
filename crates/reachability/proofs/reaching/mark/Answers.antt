use Rattle.reachability.proofs.Flags.{under_more}
use Rattle.reachability.proofs.reaching.mark.Goals as goal

pub returns-clause-kept : goal.returns-clause-kept
returns-clause-kept c = λ first atoms reached are. under_more first atoms c.args.marks.now are c.args.v reached
