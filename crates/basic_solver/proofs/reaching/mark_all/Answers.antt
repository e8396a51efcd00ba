use Rattle.std.proofs.Common.{◌≡◌, ◌<◌, ◌+◌, Bool, List, take, subst, arith, inl, inr}
use Rattle.std.specs.Prelude.{All}
use Rattle.flat_form.specs.Classes.{Reached}
use Rattle.basic_solver.specs.Flags.{left_over, IsSet}
use Rattle.basic_solver.proofs.Flagging.{told_run, told_less, number_at, number_next, numbers_taken}
use Rattle.basic_solver.proofs.reaching.mark_all.Goals as goal
use Rattle.basic_solver.proofs.reaching.mark_all.Goals.{then-mark, else-mark}

pub loop-i-preserved : goal.loop-i-preserved
loop-i-preserved c =
    let names = c.args.names.now in
    let xs = c.args.xs.now in
    let i = c.loop-i.i in
    let x = c.get.result.now in
    let old = c.args.marks.now.items in
    let mid = c.loop-i.marks.items in
    let new = c.mark.new.marks.items in
    record {
      size = c.mark.ensures.size;
      kept = λ atoms classes all below.
          c.mark.ensures.kept atoms classes (number_at (Reached atoms) xs i x all (omega arith) c.get.ensures) (c.loop-i.invariant.kept atoms classes all below);
      told = told_run old mid new c.loop-i.changed c.mark.result c.if-mark.changed
          (All (IsSet names old) (take i xs)) (IsSet names mid x) (All (IsSet names old) (take (i + 1) xs))
          c.loop-i.invariant.told c.mark.ensures.told
          (elim c.if-mark.branch [ then-mark w ↦ inl (w.if-mark.true, w.changed-is) | else-mark w ↦ inr (w.if-mark.false, w.changed-is) ])
          (λ same before here. number_next (IsSet names old) xs i x (omega arith) c.get.ensures before (subst (λ (z : List Bool). IsSet names z x) same here));
    }

pub returns-clause-told : goal.returns-clause-told
returns-clause-told c =
    let names = c.args.names.now in
    let xs = c.args.xs.now in
    let i = c.loop-i.i in
    let old = c.args.marks.now.items in
    let new = c.loop-i.marks.items in
    told_less c.loop-i.changed (left_over new < left_over old) (new ≡ old) (All (IsSet names old) (take i xs)) (All (IsSet names old) xs) c.loop-i.invariant.told
    (λ all. numbers_taken (IsSet names old) xs i (omega arith) all)
