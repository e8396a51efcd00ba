use Rattle.working_rules.proofs.PartLists.{first_none, first_some}
use Rattle.working_rules.proofs.joining.first_list.Goals as goal

pub returns-in-Some-clause-first : goal.returns-in-Some-clause-first
returns-in-Some-clause-first c =
    first_some c.args.count c.args.basic.now c.in_ok-copy.field-0 c.new.result c.in_ok-copy.ensures c.new.ensures c.in_ok-cube.field-0 c.in_ok-cube.ensures.outcome
    c.in-Some.cube c.in-Some.is c.new-out.result c.push.new.self c.new-out.ensures c.in_ok-push-in-Some.ensures.ok

pub returns-clause-first : goal.returns-clause-first
returns-clause-first c =
    first_none c.args.count c.args.basic.now c.in_ok-copy.field-0 c.new.result c.in_ok-copy.ensures c.new.ensures c.in_ok-cube.field-0 c.in_ok-cube.ensures.outcome
    c.in-None.is c.new-out.result c.new-out.ensures
