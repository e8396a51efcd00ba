use Rattle.std.proofs.Common.{◌∙◌}
use Rattle.explicit_form.proofs.Binding.{met_second, met_first, met_later, met_nowhere}
use Rattle.explicit_form.proofs.scopes.+meets_first.Goals as goal

pub returns-then-x-u : goal.returns-then-x-u
returns-then-x-u t c = met_second _ _ _ _ _ c.in-Exists.is c.if-x-u.true

pub returns-then-x-v : goal.returns-then-x-v
returns-then-x-v t c = met_first _ _ _ _ _ c.in-Exists.is c.if-x-u.false c.if-x-v.true

pub returns-else-x-v : goal.returns-else-x-v
returns-else-x-v t c =
    c.meets_first.ensures ∙ met_later c.args.f.now c.in-Exists.x c.get.result.now c.args.v c.args.u (rw c.get.ensures c.in-Exists.is) c.if-x-u.false c.if-x-v.false

pub returns-in_default : goal.returns-in_default
returns-in_default t c = met_nowhere c.args.f.now c.args.v c.args.u c.in_default.not-Exists
