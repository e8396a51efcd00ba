use Rattle.explicit_form.specs.Shaped.{IsPart}
use Rattle.explicit_form.proofs.Arms.{form_no, form_differ}
use Rattle.explicit_form.proofs.Layers.{not_part}
use Rattle.explicit_form.proofs.Truth.{nope, along, it_is, with_first, without_first, of_equal}
use Rattle.explicit_form.proofs.shaped.is_part.Goals as goal

pub returns-then-is_variable : goal.returns-then-is_variable
returns-then-is_variable c =
    with_first c.is_flat.result c.is_flat.ensures (it_is _ c.is_variable.ensures c.if-is_variable.true) (of_equal IsPart _ _ (form_differ c.args.f.now c.in-Differ.t c.in-Differ.s c.in-Differ.is))

pub returns-else-is_variable : goal.returns-else-is_variable
returns-else-is_variable c = without_first c.is_variable.result c.is_variable.ensures c.if-is_variable.false (of_equal IsPart _ _ (form_differ c.args.f.now c.in-Differ.t c.in-Differ.s c.in-Differ.is))

pub returns-in-Not : goal.returns-in-Not
returns-in-Not c = along c.is_denied.result c.is_denied.ensures (of_equal IsPart _ _ (form_no c.args.f.now c.get.result.now (rw c.get.ensures c.in-Not.is)))

pub returns-in_default : goal.returns-in_default
returns-in_default c = nope (not_part c.args.f.now c.in_default.not-Differ c.in_default.not-Not)
