use Rattle.settled_facts.proofs.Closing.{settled_closed, settled_classes}
use Rattle.settled_facts.proofs.ReadOff.{settled_form, says_range}
use Rattle.settled_facts.proofs.Solvable.{settled_solvable, clash_unsolvable, loop_unsolvable}
use Rattle.settled_facts.proofs.FormSettled.{form_settles}
use Rattle.settled_facts.proofs.laws.form_laws.Goals as goal

pub returns-clause-closed : goal.returns-clause-closed
returns-clause-closed c = settled_closed

pub returns-clause-classes : goal.returns-clause-classes
returns-clause-classes c = settled_classes

pub returns-clause-form : goal.returns-clause-form
returns-clause-form c = settled_form

pub returns-clause-range : goal.returns-clause-range
returns-clause-range c = says_range

pub returns-clause-solvable : goal.returns-clause-solvable
returns-clause-solvable c = settled_solvable

pub returns-clause-clash : goal.returns-clause-clash
returns-clause-clash c = clash_unsolvable

pub returns-clause-round : goal.returns-clause-round
returns-clause-round c = loop_unsolvable

pub returns-clause-settles : goal.returns-clause-settles
returns-clause-settles c = form_settles
