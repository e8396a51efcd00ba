use Rattle.working_rules.proofs.Standing.{stands_in_order, stands_some, stands_inside}
use Rattle.working_rules.proofs.laws.standing_laws.Goals as goal

pub returns-clause-order : goal.returns-clause-order
returns-clause-order c = stands_in_order

pub returns-clause-some : goal.returns-clause-some
returns-clause-some c = stands_some

pub returns-clause-inside : goal.returns-clause-inside
returns-clause-inside c = stands_inside
