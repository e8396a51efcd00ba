use Rattle.std.proofs.Common.{arith, inl, inr, ◌+◌}
use Rattle.std.specs.Prelude.{slice_index, ◌≡◌}
use Rattle.basic_solver.specs.Names.{name_in}
use Rattle.basic_solver.proofs.Naming.{told_step, AlikeBelow, alike_more, class_at}
use Rattle.basic_solver.proofs.names.join_all.Goals as goal
use Rattle.basic_solver.proofs.names.join_all.Goals.{then-join, else-join}

pub loop-i-preserved : goal.loop-i-preserved
loop-i-preserved c =
    let xs = c.args.xs.now in
    let ys = c.args.ys.now in
    let i = c.loop-i.i in
    let x = c.get.result.now in
    let y = c.get-in-loop-i.result.now in
    let old = c.args.names.now.items in
    let mid = c.loop-i.names.items in
    let new = c.join.new.names.items in
    record {
      naming = c.join.ensures.naming;
      sound = λ atoms each sound.
          c.join.ensures.sound atoms (class_at atoms x y (slice_index xs i) (slice_index ys i) c.get.ensures c.get-in-loop-i.ensures (each i (omega arith)))
          (c.loop-i.invariant.sound atoms each sound);
      told = told_step c.args.leads.now old mid new c.loop-i.changed c.join.result c.if-join.changed
          (AlikeBelow old xs ys i) (name_in mid x ≡ name_in mid y) (AlikeBelow old xs ys (i + 1))
          c.loop-i.invariant.told c.join.ensures.told
          (elim c.if-join.branch [ then-join w ↦ inl (w.if-join.true, w.changed-is) | else-join w ↦ inr (w.if-join.false, w.changed-is) ])
          (λ same below here. alike_more old mid xs ys i x y c.get.ensures c.get-in-loop-i.ensures same below here);
    }
