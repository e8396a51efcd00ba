use Rattle.list_facts.proofs.OneList.{lists_are_one}
use Rattle.list_facts.proofs.laws.unique_laws.Goals as goal

pub returns : goal.returns
returns c = lists_are_one
