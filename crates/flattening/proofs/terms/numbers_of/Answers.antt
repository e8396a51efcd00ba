use Rattle.std.proofs.Common.{arith}
use Rattle.lists.proofs.Items.{item_stands}
use Rattle.formula_ast.specs.Terms.{list_of}
use Rattle.flattening.proofs.Steps.{numbers_more}
use Rattle.flattening.proofs.Ties.{rest_terms}
use Rattle.flattening.proofs.terms.numbers_of.Goals as goal

pub loop-term-preserved : goal.loop-term-preserved
loop-term-preserved c =
    let e = rest_terms (list_of c.args.terms.now) c.loop-term.term-index c.term-item.result (item_stands _ _ _ _ c.as_slice-term-items.ensures (omega arith) c.term-item.is) in
    numbers_more _ _ _ _ _ _ _ _ _ e c.loop-term.invariant (rw c.number_of.ensures at c.in_ok-push.ensures.ok) c.in_ok-after.ensures
