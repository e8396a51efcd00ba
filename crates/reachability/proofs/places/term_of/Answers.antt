use Rattle.reachability.proofs.Placing.{term_told}
use Rattle.reachability.proofs.places.term_of.Goals as goal

pub returns-in-Some : goal.returns-in-Some
returns-in-Some c = term_told c.args.atoms.now c.args.v c.in-Some.atom.now c.arguments_of.result c.requires.ascends c.in-Some.ensures c.arguments_of.ensures
