use Rattle.congruence.specs.Turns.{IsMergeStep}
use Rattle.congruence.proofs.LeadingOn.{refutes_both, refuted}
use Rattle.congruence.proofs.closing.turn.Goals as goal

pub returns-then-not-branch-clause-turned : goal.returns-then-not-branch-clause-turned
returns-then-not-branch-clause-turned c =
    refutes_both c.args.graph.now.contents c.args.waiting.now c.args.p c.args.q c.deref-a.result c.deref-b.result c.well_formed-2.ensures c.deref-a.ensures.root c.deref-b.ensures.root
    (refuted c.args.graph.now.contents c.deref-a.result c.deref-b.result (IsMergeStep c.args.graph.now.contents c.merge.new.graph.contents c.args.waiting.now c.merge.new.waiting c.deref-a.result c.deref-b.result)
    c.in_ok-merge.field-0 c.if-not-branch.true c.in_ok-merge.ensures.merged)
