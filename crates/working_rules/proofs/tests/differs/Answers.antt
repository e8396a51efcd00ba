use Rattle.std.proofs.Common.{◌+◌, refl, arith}
use Rattle.working_rules.proofs.Nests.{leaf_over}
use Rattle.working_rules.proofs.tests.differs.Goals as goal

pub returns : goal.returns
returns c = leaf_over c.args.n c.args.n 0 c.in_ok-is_constant.field-0 c.new.result (omega arith) c.new.ensures c.in_ok-is_constant.ensures
