use Rattle.explicit_form.specs.Shaped.{IsShaped}
use Rattle.explicit_form.proofs.Arms.{form_exists}
use Rattle.explicit_form.proofs.Layers.{shaped_items}
use Rattle.explicit_form.proofs.Truth.{along, turned, of_equal}
use Rattle.explicit_form.proofs.shaped.+is_shaped.Goals as goal

pub returns-in-Exists : goal.returns-in-Exists
returns-in-Exists t c = along c.is_shaped.result c.is_shaped.ensures (of_equal IsShaped _ _ (form_exists c.args.f.now c.in-Exists.field-0 c.get.result.now (rw c.get.ensures c.in-Exists.is)))

pub returns-in_default : goal.returns-in_default
returns-in_default t c = along c.are_items.result c.are_items.ensures (turned (shaped_items c.args.f.now c.in_default.not-Exists))
