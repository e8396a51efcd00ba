use Rattle.std.proofs.Common.{◌≡◌, ◌==◌, ℕ, ◌<◌, Bool, false, not, length, ap, sym, ◌∙◌, arith}
use Rattle.std.specs.List.{list_any}
use Rattle.witness_trees.proofs.Occurring.{any_default}
use Rattle.witness_trees.proofs.Used.{filter_pass, filter_skip}
use Rattle.witness_trees.proofs.indexes.first_unused.Goals as goal
use Rattle.witness_trees.proofs.indexes.first_unused.Goals.{then-not-index+in_ok-push, else-not-index}

pub loop-k-preserved : goal.loop-k-preserved
loop-k-preserved c =
    let used = c.args.used.now in
    let flags = c.in_ok-flags.flags.items in
    let k = c.loop-k.k in
    let x = c.index.result.now in
    let p : ℕ → Bool = λ n. not (list_any (λ u. u == n) used) in
    let low : k < c.in-Some.size = omega arith in
    let within : k < length flags = omega (arith, c.in_ok-flags.ensures.size) in
    let is : p k ≡ not x = ap not (sym (c.in_ok-flags.ensures.each k low) ∙ any_default flags k false x within ∙ sym c.index.ensures) in
    elim c.if-not-index.branch [
      | then-not-index+in_ok-push w ↦
          ap (λ v. v.items) w.free-is ∙ w.in_ok-push.ensures.items ∙ filter_pass p k c.loop-k.free.items (is ∙ ap not w.if-not-index.true) c.loop-k.invariant
      | else-not-index w ↦ ap (λ v. v.items) w.free-is ∙ filter_skip p k c.loop-k.free.items (is ∙ ap not w.if-not-index.false) c.loop-k.invariant
    ]
