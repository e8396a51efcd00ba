use Rattle.congruence.proofs.Starting.{settled_underway, atom_waits, equation_waits, arguments_wait, owner_waits}
use Rattle.congruence.proofs.Standing.{term_stands}
use Rattle.congruence.proofs.laws.start_laws.Goals as goal

pub returns-clause-settled : goal.returns-clause-settled
returns-clause-settled c = settled_underway

pub returns-clause-atom : goal.returns-clause-atom
returns-clause-atom c = atom_waits

pub returns-clause-equation : goal.returns-clause-equation
returns-clause-equation c = equation_waits

pub returns-clause-arguments : goal.returns-clause-arguments
returns-clause-arguments c = arguments_wait

pub returns-clause-owner : goal.returns-clause-owner
returns-clause-owner c = owner_waits

pub returns-clause-stands : goal.returns-clause-stands
returns-clause-stands c = term_stands
