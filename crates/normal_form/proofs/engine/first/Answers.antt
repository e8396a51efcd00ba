use Rattle.normal_form.proofs.Continuing.{first_taken}
use Rattle.normal_form.proofs.engine.first.Goals as goal

pub returns-clause-takes : goal.returns-clause-takes
returns-clause-takes c = first_taken c.args.free c.args.basic.now _ c.new.result c.new-out.result c.take.new.out c.in_ok-copy.ensures c.new.ensures c.new-out.ensures c.in_ok-take.ensures.takes
