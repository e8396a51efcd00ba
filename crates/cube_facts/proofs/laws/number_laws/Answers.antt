use Rattle.cube_facts.proofs.OldNumbers.{full_order_is_as_long, old_number_is_back}
use Rattle.cube_facts.proofs.laws.number_laws.Goals as goal

pub returns-clause-long : goal.returns-clause-long
returns-clause-long c = full_order_is_as_long

pub returns-clause-back : goal.returns-clause-back
returns-clause-back c = old_number_is_back
