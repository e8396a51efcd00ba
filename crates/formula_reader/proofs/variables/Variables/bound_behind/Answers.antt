use Rattle.std.proofs.Common.{◌∙◌, ap, drop}
use Rattle.formula_reader.specs.Scopes.{texts_of}
use Rattle.formula_reader.proofs.Scoping.{numbers_behind}
use Rattle.formula_reader.proofs.variables.Variables.bound_behind.Goals as goal

pub returns : goal.returns
returns c = λ more.
    c.split_at.ensures.back ∙ ap (drop c.args.outer) c.deref.ensures.value
    ∙ numbers_behind (texts_of c.self.inside.names.keys) c.self.inside.counts.items c.self.inside.bound.items c.self.invariant c.args.self.now c.self.view_is c.args.outer more
