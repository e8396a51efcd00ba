use Rattle.std.proofs.Common.{sym, ◌∙◌, arith}
use Rattle.lists.proofs.Items.{item_stands}
use Rattle.formula_printer.proofs.Rising.{same_known, among_more}
use Rattle.formula_printer.proofs.bound.is_among.Goals as goal

pub returns-then-eq : goal.returns-then-eq
returns-then-eq c =
    let got = item_stands _ c.args.names.now _ _ c.as_slice-other-items.ensures (omega arith) c.other-item.is in
    sym (same_known c.args.names.now c.loop-other.other-index c.other-item.result c.args.name.now got (rw c.as_str.ensures at (sym c.eq.ensures ∙ c.if-eq.true)))

pub loop-other-preserved : goal.loop-other-preserved
loop-other-preserved c =
    let got = item_stands _ c.args.names.now _ _ c.as_slice-other-items.ensures (omega arith) c.other-item.is in
    among_more c.args.names.now c.loop-other.other-index c.other-item.result c.args.name.now got c.loop-other.invariant
    (rw c.as_str.ensures at (sym c.eq.ensures ∙ c.if-eq.false))
