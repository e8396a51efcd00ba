use Rattle.settled_facts.proofs.More.{more_is_added}
use Rattle.settled_facts.proofs.Unchanged.{nothing_more, unchanged_says_no_more, unchanged_head_least}
use Rattle.settled_facts.proofs.laws.more_laws.Goals as goal

pub returns-clause-added : goal.returns-clause-added
returns-clause-added c = more_is_added

pub returns-clause-nothing : goal.returns-clause-nothing
returns-clause-nothing c = nothing_more

pub returns-clause-unchanged : goal.returns-clause-unchanged
returns-clause-unchanged c = unchanged_says_no_more

pub returns-clause-least : goal.returns-clause-least
returns-clause-least c = unchanged_head_least
