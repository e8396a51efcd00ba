use Rattle.explicit_form.proofs.Binding.{bound_here, bound_later, bound_nowhere}
use Rattle.explicit_form.proofs.scopes.+binds.Goals as goal

pub returns-then-y-x : goal.returns-then-y-x
returns-then-y-x t c = bound_here c.args.f.now c.in-Exists.y c.in-Exists.g c.args.x c.in-Exists.is c.if-y-x.true

pub returns-else-y-x : goal.returns-else-y-x
returns-else-y-x t c = bound_later c.args.f.now c.in-Exists.y c.get.result.now c.args.x c.binds.result (rw c.get.ensures c.in-Exists.is) c.if-y-x.false c.binds.ensures

pub returns-in_default : goal.returns-in_default
returns-in_default t c = bound_nowhere c.args.f.now c.args.x c.in_default.not-Exists
