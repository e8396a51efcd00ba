use Rattle.flat_facts.proofs.Classes.{class_alike}
use Rattle.flat_facts.proofs.Classes.{reached_finite}
use Rattle.flat_facts.proofs.Classes.{unsolvable_none}
use Rattle.flat_facts.proofs.Existence.{solvable_solution}
use Rattle.flat_facts.proofs.laws.class_laws.Goals as goal

pub returns-clause-alike : goal.returns-clause-alike
returns-clause-alike c = class_alike

pub returns-clause-finite : goal.returns-clause-finite
returns-clause-finite c = reached_finite

pub returns-clause-none : goal.returns-clause-none
returns-clause-none c = unsolvable_none

pub returns-clause-solvable : goal.returns-clause-solvable
returns-clause-solvable c = solvable_solution
