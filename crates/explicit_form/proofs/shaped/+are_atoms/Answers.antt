use Rattle.explicit_form.specs.Shaped.{AreAtoms}
use Rattle.explicit_form.proofs.Arms.{form_and}
use Rattle.explicit_form.proofs.Layers.{one_atom}
use Rattle.explicit_form.proofs.Truth.{along, turned, it_is, with_first, without_first, of_equal}
use Rattle.explicit_form.proofs.shaped.+are_atoms.Goals as goal

pub returns-then-are_atoms : goal.returns-then-are_atoms
returns-then-are_atoms t c =
    with_first c.is_atom.result c.is_atom.ensures (it_is _ c.are_atoms.ensures c.if-are_atoms.true)
    (of_equal AreAtoms _ _ (form_and c.args.f.now c.get.result.now c.get-then-are_atoms.result.now (rw (c.get.ensures, c.get-then-are_atoms.ensures) c.in-And.is)))

pub returns-else-are_atoms : goal.returns-else-are_atoms
returns-else-are_atoms t c =
    without_first c.are_atoms.result c.are_atoms.ensures c.if-are_atoms.false (of_equal AreAtoms _ _ (form_and c.args.f.now c.get.result.now c.in-And.h (rw c.get.ensures c.in-And.is)))

pub returns-in_default : goal.returns-in_default
returns-in_default t c = along c.is_atom-in_default.result c.is_atom-in_default.ensures (turned (one_atom c.args.f.now c.in_default.not-And))
