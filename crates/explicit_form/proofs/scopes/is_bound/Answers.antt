use Rattle.std.proofs.lemmas.List.Elements.{Contains-append_left}
use Rattle.explicit_form.proofs.Binding.{bound_right}
use Rattle.explicit_form.proofs.Truth.{along, it_is, it_is_not, holds_by}
use Rattle.explicit_form.proofs.scopes.is_bound.Goals as goal

pub returns-then-binds : goal.returns-then-binds
returns-then-binds c = holds_by c.binds.result (Contains-append_left _ _ c.args.v (it_is c.binds.result c.binds.ensures c.if-binds.true)) c.if-binds.true

pub returns-else-binds : goal.returns-else-binds
returns-else-binds c = along c.binds-else-binds.result c.binds-else-binds.ensures (bound_right _ _ c.args.v (it_is_not c.binds.result c.binds.ensures c.if-binds.false))
