use Rattle.std.proofs.Common.{ℕ, ◌≡◌, ◌+◌, arith, subst}
use Rattle.reachability.specs.Splitting.{AreSorted}
use Rattle.reachability.proofs.Sorting.{split_at_last, lent_twice}
use Rattle.reachability.proofs.splitting.split.Goals as goal

pub loop-v-preserved : goal.loop-v-preserved
loop-v-preserved c =
    lent_twice c.args.free c.loop-v.v c.as_slice.result.now c.as_slice-in-loop-v.result.now c.in_ok-marks.marks.items c.in_ok-lefts.lefts.items _ _ _ _ _ _
    c.as_slice.ensures.value c.as_slice-in-loop-v.ensures.value (c.in_ok-sort_in.ensures c.args.free (omega arith)) c.loop-v.invariant

pub returns : goal.returns
returns c =
    let count : c.in-Some.count ≡ c.args.free + c.args.outer = omega (arith, c.in-Some.ensures) in
    let end : c.loop-v.v ≡ c.in-Some.count = omega arith in
    split_at_last c.args.free c.args.b.now c.requires.solved c.args.outer c.in-Some.count c.in_ok-marks.marks.items c.in_ok-lefts.lefts.items
    c.loop-v.found.needed c.loop-v.found.idle c.loop-v.found.determined count c.in_ok-marks.ensures c.in_ok-lefts.ensures.left
    (subst (λ (z : ℕ). AreSorted c.args.free z c.in_ok-marks.marks.items c.in_ok-lefts.lefts.items c.loop-v.found.needed c.loop-v.found.idle c.loop-v.found.determined) end c.loop-v.invariant)
