use Rattle.std.proofs.Common.{◌<◌, true, false, length, arith}
use Rattle.reachability.specs.Flags.{IsSet}
use Rattle.reachability.proofs.Flags.{flag_read}
use Rattle.reachability.proofs.Sorting.{not_set}
use Rattle.cube_reduction.proofs.FlagsOf.{others_more, others_same, others_are}
use Rattle.cube_reduction.proofs.grouping.others.Goals as goal
use Rattle.cube_reduction.proofs.grouping.others.Goals.{then-not-index+in_ok-push, else-not-index}

pub loop-v-preserved : goal.loop-v-preserved
loop-v-preserved c =
    let flags = c.in_ok-flags.flags.items in
    let v = c.loop-v.v in
    let within : v < length flags = omega (arith, c.loop-v-test.true, c.in_ok-flags.ensures.size) in
    elim c.if-not-index.branch [
      | then-not-index+in_ok-push w ↦
          others_more (λ u. ¬ IsSet flags u) c.args.first v c.loop-v.kept c.loop-v.invariant c.if-not-index.kept (cc (w.kept-is, w.in_ok-push.ensures.ok)) (omega arith)
          (not_set flags v (flag_read flags v c.index.result.now false within c.index.ensures w.if-not-index.true))
      | else-not-index w ↦
          rw w.kept-is (others_same (λ u. ¬ IsSet flags u) c.args.first v c.loop-v.kept c.loop-v.invariant
          (λ none. none (flag_read flags v c.index.result.now true within c.index.ensures w.if-not-index.false)))
    ]

pub returns-clause-is : goal.returns-clause-is
returns-clause-is c =
    others_are c.args.xs.now c.loop-v.kept c.in_ok-flags.flags.items c.args.first c.args.count c.loop-v.v (omega (arith, c.requires.low)) c.in_ok-flags.ensures.is c.loop-v.invariant
