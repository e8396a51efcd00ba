use Rattle.explicit_form.specs.Shaped.{IsDenied}
use Rattle.explicit_form.proofs.Arms.{form_exists, form_equal}
use Rattle.explicit_form.proofs.Layers.{denied_atoms}
use Rattle.explicit_form.proofs.Truth.{nope, along, turned, of_equal}
use Rattle.explicit_form.proofs.shaped.is_denied.Goals as goal

pub returns-in-Exists : goal.returns-in-Exists
returns-in-Exists c = along c.are_bound.result c.are_bound.ensures (of_equal IsDenied _ _ (form_exists c.args.f.now c.in-Exists.field-0 c.get.result.now (rw c.get.ensures c.in-Exists.is)))

pub returns-in-Eq : goal.returns-in-Eq
returns-in-Eq c = nope (λ denied. (of_equal IsDenied _ _ (form_equal c.args.f.now _ _ c.in-Eq.is)).1 denied)

pub returns-in_default : goal.returns-in_default
returns-in_default c = along c.are_atoms.result c.are_atoms.ensures (turned (denied_atoms c.args.f.now c.in_default.not-Exists c.in_default.not-Eq))
