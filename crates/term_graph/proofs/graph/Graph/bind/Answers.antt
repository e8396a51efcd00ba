use Rattle.term_graph.specs.declared.bound.Bound.TheVariants.{Variable, Term}
use Rattle.term_graph.proofs.Rooting.{roots_bound_by}
use Rattle.term_graph.proofs.graph.Graph.bind.Goals as goal

pub returns-in-Variable-clause-roots : goal.returns-in-Variable-clause-roots
returns-in-Variable-clause-roots c =
    roots_bound_by c.bind_variable.result c.args.self.now c.bind_variable.new.self c.args.v c.args.to (Variable c.in-Variable.x) c.well_formed-2.ensures.forest c.requires.within c.requires.root c.requires.to c.in-Variable.is c.bind_variable.ensures.ok

pub returns-in-Term-clause-roots : goal.returns-in-Term-clause-roots
returns-in-Term-clause-roots c =
    roots_bound_by c.bind_term.result c.args.self.now c.bind_term.new.self c.args.v c.args.to (Term c.in-Term.t) c.well_formed-2.ensures.forest c.requires.within c.requires.root c.requires.to c.in-Term.is c.bind_term.ensures.ok
