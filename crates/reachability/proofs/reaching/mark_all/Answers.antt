use Rattle.std.proofs.Common.{◌≡◌, ◌<◌, ◌+◌, Bool, List, length, take, subst, arith, inl, inr}
use Rattle.std.specs.Prelude.{All, slice_index}
use Rattle.reachability.specs.Flags.{left_over, IsSet}
use Rattle.reachability.proofs.Flags.{told_run, told_less}
use Rattle.std.proofs.lemmas.List.Elements.{All-more}
use Rattle.reachability.proofs.Mentioned.{all_taken}
use Rattle.reachability.proofs.reaching.mark_all.Goals as goal
use Rattle.reachability.proofs.reaching.mark_all.Goals.{then-mark, else-mark}

pub loop-x-preserved : goal.loop-x-preserved
loop-x-preserved c =
    let xs = c.args.xs.now in
    let i = c.loop-x.x-index in
    let x = slice_index xs i in let within : i < length xs = c.loop-x-test.true in
    let old = c.args.marks.now in
    let mid = c.loop-x.marks in
    let new = c.mark.new.marks in
    record {
      size = omega (arith, c.mark.ensures.size, c.loop-x.invariant.size);
      kept = λ first atoms all below.
          c.mark.ensures.kept first atoms (all i 0 within) (c.loop-x.invariant.kept first atoms all below);
      told = told_run old mid new c.loop-x.changed c.mark.result c.if-mark.changed
          (All (IsSet old) (take i xs)) (IsSet mid x) (All (IsSet old) (take (i + 1) xs))
          c.loop-x.invariant.told c.mark.ensures.told
          (elim c.if-mark.branch [ then-mark w ↦ inl (w.if-mark.true, w.changed-is) | else-mark w ↦ inr (w.if-mark.false, w.changed-is) ])
          (λ same before here. All-more (IsSet old) xs i 0 within before (subst (λ (z : List Bool). IsSet z x) same here));
    }

pub returns-clause-told : goal.returns-clause-told
returns-clause-told c =
    let xs = c.args.xs.now in
    let i = c.loop-x.x-index in
    let old = c.args.marks.now in
    let new = c.loop-x.marks in
    told_less c.loop-x.changed (left_over new < left_over old) (new ≡ old) (All (IsSet old) (take i xs)) (All (IsSet old) xs) c.loop-x.invariant.told
    (λ all. all_taken (IsSet old) xs i (omega arith) all)
