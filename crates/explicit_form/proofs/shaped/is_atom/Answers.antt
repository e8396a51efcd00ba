use Rattle.explicit_form.specs.Shaped.{IsAtom}
use Rattle.explicit_form.proofs.Arms.{form_equal, form_finite}
use Rattle.explicit_form.proofs.Layers.{not_atom}
use Rattle.explicit_form.proofs.Truth.{nope, along, it_is, with_first, without_first, of_equal}
use Rattle.explicit_form.proofs.shaped.is_atom.Goals as goal

pub returns-then-is_variable : goal.returns-then-is_variable
returns-then-is_variable c =
    with_first c.is_flat.result c.is_flat.ensures (it_is _ c.is_variable.ensures c.if-is_variable.true) (of_equal IsAtom _ _ (form_equal c.args.f.now c.in-Eq.t c.in-Eq.s c.in-Eq.is))

pub returns-else-is_variable : goal.returns-else-is_variable
returns-else-is_variable c = without_first c.is_variable.result c.is_variable.ensures c.if-is_variable.false (of_equal IsAtom _ _ (form_equal c.args.f.now c.in-Eq.t c.in-Eq.s c.in-Eq.is))

pub returns-in-Finite : goal.returns-in-Finite
returns-in-Finite c = along _ c.is_variable-in-Finite.ensures (of_equal IsAtom _ _ (form_finite c.args.f.now c.in-Finite.t c.in-Finite.is))

pub returns-in_default : goal.returns-in_default
returns-in_default c = nope (not_atom c.args.f.now c.in_default.not-Eq c.in_default.not-Finite)
