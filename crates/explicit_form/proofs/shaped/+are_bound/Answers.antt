use Rattle.explicit_form.specs.Shaped.{AreBound}
use Rattle.explicit_form.proofs.Arms.{form_exists}
use Rattle.explicit_form.proofs.Layers.{bound_atoms}
use Rattle.explicit_form.proofs.Truth.{along, turned, of_equal}
use Rattle.explicit_form.proofs.shaped.+are_bound.Goals as goal

pub returns-in-Exists : goal.returns-in-Exists
returns-in-Exists t c = along c.are_bound.result c.are_bound.ensures (of_equal AreBound _ _ (form_exists c.args.f.now c.in-Exists.field-0 c.get.result.now (rw c.get.ensures c.in-Exists.is)))

pub returns-in_default : goal.returns-in_default
returns-in_default t c = along c.are_atoms.result c.are_atoms.ensures (turned (bound_atoms c.args.f.now c.in_default.not-Exists))
