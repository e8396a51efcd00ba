use Rattle.std.proofs.Common.{ℕ, Bool, not, ap, sym, ◌∙◌}
use Rattle.std.specs.List.{list_any}
use Rattle.witness_trees.specs.Fresh.{defines}
use Rattle.witness_trees.proofs.Used.{filter_pass, filter_skip}
use Rattle.witness_trees.proofs.indexes.all_open.Goals as goal
use Rattle.witness_trees.proofs.indexes.all_open.Goals.{then-is_open+in_ok-push, else-is_open}

pub loop-v-preserved : goal.loop-v-preserved
loop-v-preserved c =
    let p : ℕ → Bool = λ v. not (list_any (defines v) c.args.atoms.now) in
    elim c.if-is_open.branch [
      | then-is_open+in_ok-push w ↦
          ap (λ v. v.items) w.opens-is ∙ w.in_ok-push.ensures.items
          ∙ filter_pass p c.loop-v.v c.loop-v.opens.items (sym c.is_open.ensures ∙ w.if-is_open.true) c.loop-v.invariant
      | else-is_open w ↦
          ap (λ v. v.items) w.opens-is ∙ filter_skip p c.loop-v.v c.loop-v.opens.items (sym c.is_open.ensures ∙ w.if-is_open.false) c.loop-v.invariant
    ]
