use Rattle.std.proofs.Common.{[], arith, Some}
use Rattle.lists.proofs.Items.{item_stands}
use Rattle.formula_grammar.specs.Written as joint
use Rattle.explicit_form.specs.Explicit.{atom_form}
use Rattle.explicit_form.proofs.Joined.{joins_next}
use Rattle.explicit_form.proofs.cubes.atoms_joined.Goals as goal

pub loop-atom-preserved : goal.loop-atom-preserved
loop-atom-preserved c =
    let got = item_stands _ c.args.basic.now _ _ c.as_slice-atom-items.ensures (omega arith) c.atom-item.is in
    joins_next joint.and atom_form c.args.basic.now c.loop-atom.atom-index c.atom-item.result (Some c.in_ok-and_also.field-0) _ [] got c.in_ok-f.ensures
    (c.in_ok-and_also.ensures _ c.loop-atom.invariant)
