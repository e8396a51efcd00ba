use Rattle.working_rules.proofs.Nests.{one_over, one_has_parts}
use Rattle.working_rules.proofs.tests.not_with.Goals as goal

pub returns-clause-over : goal.returns-clause-over
returns-clause-over c =
    one_over c.args.n c.args.basic c.new-parts.result c.push.new.self c.args.part c.new-parts.ensures c.in_ok-push.ensures.ok c.requires.basic c.requires.part

pub returns-clause-parts : goal.returns-clause-parts
returns-clause-parts c = one_has_parts 0 c.args.basic c.new-parts.result c.push.new.self c.args.part c.in_ok-push.ensures.ok
