use Rattle.std.proofs.Common.{arith}
use Rattle.tree_model.proofs.Marking.{written_back, answered}
use Rattle.tree_model.proofs.finiteness.is_finite.Goals as goal

pub walks-preserved : goal.walks-preserved
walks-preserved c =
    let back = written_back c.walks.marks.len c.mark_more.new.marks c.walks.marks.items (omega arith) in
    record {
      size = rw back (omega arith);
      bounded = rw back (c.mark_more.ensures.bounded (rw c.deref_mut.ensures.value c.walks.invariant.bounded));
    }

pub returns : goal.returns
returns c =
    let back = written_back c.walks.marks.len c.mark_more.new.marks c.walks.marks.items (omega arith) in
    let nodes = c.nodes-nodes.ensures.nodes in
    answered c.args.a.now c.mark_more.new.marks c.index.result.now (rw (← nodes) (omega arith)) c.nodes-nodes.ensures.in_range.root_within
    (rw (← nodes) (c.mark_more.ensures.bounded (rw c.deref_mut.ensures.value c.walks.invariant.bounded)))
    (rw (← nodes) c.walks-test.ensures.more) (rw (← c.root.ensures) (rw back at c.index.ensures))
