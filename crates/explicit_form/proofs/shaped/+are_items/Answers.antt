use Rattle.explicit_form.specs.Shaped.{AreItems}
use Rattle.explicit_form.proofs.Arms.{form_and}
use Rattle.explicit_form.proofs.Layers.{one_item}
use Rattle.explicit_form.proofs.Truth.{turned, it_is, it_is_not, with_first, without_first, with_either, with_other, of_equal}
use Rattle.explicit_form.proofs.shaped.+are_items.Goals as goal

pub returns-then-are_all_atoms : goal.returns-then-are_all_atoms
returns-then-are_all_atoms t c =
    with_either c.are_all_atoms.result (rw (c.get.ensures, c.get-in-And.ensures) at c.are_all_atoms.ensures) c.if-are_all_atoms.true
    (of_equal AreItems _ _ (form_and c.args.f.now c.in-And.g c.in-And.h c.in-And.is))

pub returns-then-are_items : goal.returns-then-are_items
returns-then-are_items t c =
    with_other c.is_part.result
    (with_first c.is_part.result (rw c.get-then-are_items.ensures at c.is_part.ensures) (it_is c.are_items.result (rw c.get-else-are_all_atoms.ensures at c.are_items.ensures) c.if-are_items.true)
    (λ both. both, λ both. both))
    (it_is_not c.are_all_atoms.result (rw (c.get.ensures, c.get-in-And.ensures) at c.are_all_atoms.ensures) c.if-are_all_atoms.false)
    (of_equal AreItems _ _ (form_and c.args.f.now c.in-And.g c.in-And.h c.in-And.is))

pub returns-else-are_items : goal.returns-else-are_items
returns-else-are_items t c =
    with_other c.are_items.result
    (without_first c.are_items.result (rw c.get-else-are_all_atoms.ensures at c.are_items.ensures) c.if-are_items.false (λ both. both, λ both. both))
    (it_is_not c.are_all_atoms.result (rw (c.get.ensures, c.get-in-And.ensures) at c.are_all_atoms.ensures) c.if-are_all_atoms.false)
    (of_equal AreItems _ _ (form_and c.args.f.now c.in-And.g c.in-And.h c.in-And.is))

pub returns-then-is_atom : goal.returns-then-is_atom
returns-then-is_atom t c = with_either c.is_atom.result c.is_atom.ensures c.if-is_atom.true (turned (one_item c.args.f.now c.in_default.not-And))

pub returns-else-is_atom : goal.returns-else-is_atom
returns-else-is_atom t c =
    with_other c.is_part-else-is_atom.result c.is_part-else-is_atom.ensures (it_is_not c.is_atom.result c.is_atom.ensures c.if-is_atom.false) (turned (one_item c.args.f.now c.in_default.not-And))
