use Rattle.std.proofs.Common.{refl}
use Rattle.working_rules.proofs.Nests.{leaf_over}
use Rattle.working_rules.proofs.tests.none_of_the_other.Goals as goal

pub returns : goal.returns
returns c = leaf_over 1 2 1 c.in_ok-each_is_of_the_other.field-0 c.new.result refl c.new.ensures c.in_ok-each_is_of_the_other.ensures
