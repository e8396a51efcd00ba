use Rattle.basic_solver.proofs.Noticed.{noted_stands}
use Rattle.basic_solver.proofs.reaching.reach_below.Goals as goal

pub returns-in-Some-clause-kept : goal.returns-in-Some-clause-kept
returns-in-Some-clause-kept c = λ classes below.
    c.reach_on.ensures.kept c.args.atoms.now classes (noted_stands c.args.terms.now c.args.atoms.now c.args.name c.in-Some.term.now c.in-Some.ensures) below
