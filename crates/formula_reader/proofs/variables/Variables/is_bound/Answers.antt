use Rattle.formula_reader.specs.Scopes.{texts_of}
use Rattle.formula_reader.proofs.Scoping.{bound_there, bound_nowhere}
use Rattle.formula_reader.proofs.variables.Variables.is_bound.Goals as goal

pub returns-in-Some : goal.returns-in-Some
returns-in-Some c =
    bound_there (texts_of c.self.inside.names.keys) c.self.inside.counts.items c.self.inside.bound.items c.self.invariant c.args.self.now c.self.view_is
    c.args.name.now c.in-Some.number c.in-Some.ensures c.index.result.now c.index.ensures

pub returns-in-None : goal.returns-in-None
returns-in-None c =
    bound_nowhere (texts_of c.self.inside.names.keys) c.self.inside.counts.items c.self.inside.bound.items c.self.invariant c.args.self.now c.self.view_is
    c.args.name.now c.in-None.ensures
