use Rattle.std.proofs.Common.{sym, subst}
use Rattle.term_graph.specs.Contents.{Grows}
use Rattle.term_graph.proofs.Growing.{grows_none}
use Rattle.congruence.proofs.Asserts.{taken_back}
use Rattle.congruence.proofs.asserting.assert.Goals as goal

pub returns-clause-grows : goal.returns-clause-grows
returns-clause-grows c =
    subst (Grows c.args.graph.now) (sym (taken_back c.args.graph.now c.settle-settled.new.graph c.undo_to.new.self c.mark-before.result.length c.settle-settled.ensures.grows c.mark-before.ensures c.undo_to.ensures))
    (grows_none c.args.graph.now)
