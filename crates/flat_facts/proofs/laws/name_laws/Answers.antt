use Rattle.flat_facts.proofs.Names.{names_classes}
use Rattle.flat_facts.proofs.Names.{names_least}
use Rattle.flat_facts.proofs.laws.name_laws.Goals as goal

pub returns-clause-classes : goal.returns-clause-classes
returns-clause-classes c = names_classes

pub returns-clause-least : goal.returns-clause-least
returns-clause-least c = names_least
