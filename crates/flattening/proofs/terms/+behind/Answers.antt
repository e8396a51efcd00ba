use Rattle.std.proofs.Common.{arith}
use Rattle.lists.proofs.Items.{item_stands}
use Rattle.formula_ast.specs.Terms.{list_of}
use Rattle.flattening.proofs.Steps.{wides_more}
use Rattle.flattening.proofs.Ties.{rest_terms}
use Rattle.flattening.proofs.terms.+behind.Goals as goal

pub behind_terms-loop-term-preserved : goal.behind_terms-loop-term-preserved
behind_terms-loop-term-preserved t c =
    wides_more _ _ _ _ _ _ (rest_terms (list_of c.args.terms.now) c.loop-term.term-index c.term-item.result (item_stands _ _ _ _ c.as_slice-term-items.ensures (omega arith) c.term-item.is)) c.loop-term.invariant c.in_ok-after.ensures
