use Rattle.std.proofs.Common.{arith}
use Rattle.lists.proofs.Items.{item_stands}
use Rattle.formula_ast.specs.Terms.{list_of}
use Rattle.flattening.proofs.Steps.{wholes_more, wides_more}
use Rattle.flattening.proofs.Ties.{rest_terms}
use Rattle.flattening.proofs.terms.add_wholes.Goals as goal

pub loop-term-preserved : goal.loop-term-preserved
loop-term-preserved c =
    let e = rest_terms (list_of c.args.terms.now) c.loop-term.term-index c.term-item.result (item_stands _ _ _ _ c.as_slice-term-items.ensures (omega arith) c.term-item.is) in (
      wholes_more _ _ _ _ _ _ _ _ _ e c.loop-term.invariant.0 c.in_ok-after.ensures.atoms c.in_ok-after.ensures.after,
      wides_more _ _ _ _ _ _ e c.loop-term.invariant.1 c.in_ok-after.ensures.after,
    )
