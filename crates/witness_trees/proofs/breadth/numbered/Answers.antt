use Rattle.std.proofs.Common.{◌≡◌, ℕ, ◌<◌, ◌≤◌, [], List, length, subst, sym, ◌∙◌, arith}
use Rattle.std.specs.Prelude.{slice_index}
use Rattle.tree_model.specs.Answers.{AreRefused}
use Rattle.tree_model.specs.declared.tree.Node.{Node}
use Rattle.witness_trees.specs.Meeting.{AreEntered}
use Rattle.witness_trees.specs.Numbering.{AreNumbered, IsNext}
use Rattle.witness_trees.proofs.Kept.{never_refused}
use Rattle.witness_trees.proofs.Numbered.{none_numbered, number_more, all_numbered}
use Rattle.witness_trees.proofs.breadth.numbered.Goals as goal

pub loop-alloc-init : goal.loop-alloc-init
loop-alloc-init c =
    let tops = c.args.tops.now in
    let new = c.enter_all.new.self.order in
    let roots = c.roots.inside.items.items in
    let kept : AreEntered c.in_ok-met.met.order new c.as_slice.result.now roots =
    subst (λ (l : List ℕ). AreEntered c.in_ok-met.met.order new c.as_slice.result.now l) (sym c.roots.view_is) c.in_ok-roots.ensures.entered in
    let started : AreEntered [] new c.as_slice.result.now roots =
    subst (λ (l : List ℕ). AreEntered l new c.as_slice.result.now roots) c.in_ok-met.ensures.order kept in
    let entered : AreEntered [] new tops roots = subst (λ (l : List ℕ). AreEntered [] new l roots) c.as_slice.ensures started in
    record {
      count = omega (arith, c.enter_all.ensures.count, c.in_ok-met.ensures.count);
      numbered = λ label are. subst (λ (l : List Node). AreNumbered label tops new l roots) (sym c.new-nodes.ensures.items) (none_numbered label tops new roots entered);
    }

pub loop-alloc-preserved : goal.loop-alloc-preserved
loop-alloc-preserved c =
    let tops = c.args.tops.now in
    let roots = c.roots.inside.items.items in
    let old = c.loop-alloc.met.order in
    let new = c.next_node.new.met.order in
    let nodes = c.loop-alloc.nodes.items in
    let node = c.in_ok-node.node in
    let low : length nodes < length old = omega (arith, c.loop-alloc-test.true, c.len.ensures, c.len-in-loop-alloc.ensures.is) in
    let at : c.len-in-loop-alloc-2.result ≡ length nodes = omega (arith, c.len-in-loop-alloc-2.ensures) in
    record {
      count = c.next_node.ensures.count ∙ c.loop-alloc.invariant.count;
      numbered = λ label are.
          subst (λ (l : List Node). AreNumbered label tops new l roots) (sym c.in_ok-push.ensures.items)
          (number_more label tops old new nodes roots node (c.loop-alloc.invariant.numbered label are) low
          (subst (λ (n : ℕ). IsNext (label (slice_index old n)) old new node) at (c.in_ok-node.ensures.node label are)));
    }

pub returns : goal.returns
returns c = λ label are.
    let roots = c.roots.inside.items.items in
    let order = c.loop-alloc.met.order in
    let nodes = c.loop-alloc.nodes.items in
    let end : length order ≤ length nodes = omega (arith, c.loop-alloc-test.false, c.len.ensures, c.len-in-loop-alloc.ensures.is) in
    all_numbered label c.args.tops.now order nodes roots c.in-Ok.assignment (c.loop-alloc.invariant.numbered label are) end c.in-Ok.ensures.nodes_kept
    (cc (c.in-Ok.ensures.roots_kept, c.roots.view_is))

pub unreachable-requires : goal.unreachable-requires
unreachable-requires c =
    let end : length c.loop-alloc.met.order ≤ length c.loop-alloc.nodes.items = omega (arith, c.loop-alloc-test.false, c.len.ensures, c.len-in-loop-alloc.ensures.is) in
    never_refused c.args.labels.now c.args.tops.now c.loop-alloc.met.order c.loop-alloc.nodes.items c.roots.inside.items.items _ c.loop-alloc.invariant.numbered end
    (subst (λ (l : List ℕ). AreRefused c.loop-alloc.nodes.items l c.in-Err.field-0) (sym c.roots.view_is) c.in-Err.ensures)
