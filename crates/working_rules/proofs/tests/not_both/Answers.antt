use Rattle.working_rules.proofs.Nests.{two_over}
use Rattle.working_rules.proofs.tests.not_both.Goals as goal

pub returns : goal.returns
returns c =
    two_over c.args.n c.new.result c.new-parts.result c.push.new.self c.push-2.new.self c.args.left c.args.right c.new.ensures c.new-parts.ensures c.in_ok-push.ensures.ok
    c.in_ok-push-2.ensures.ok c.requires.left c.requires.right
