use Rattle.std.proofs.Common.{◌≡◌, ◌<◌, ◌+◌, Bool, List, take, subst, arith, inl, inr}
use Rattle.std.specs.Prelude.{All}
use Rattle.flat_form.proofs.Shapes.{all_next, all_taken}
use Rattle.basic_solver.specs.Flags.{left_over, IsPassedOn}
use Rattle.basic_solver.proofs.Following.{stands_at}
use Rattle.basic_solver.proofs.Flagging.{told_run, told_less}
use Rattle.basic_solver.proofs.reaching.pass_all_on.Goals as goal
use Rattle.basic_solver.proofs.reaching.pass_all_on.Goals.{then-pass_on, else-pass_on}

pub loop-i-preserved : goal.loop-i-preserved
loop-i-preserved c =
    let names = c.args.names.now in
    let atoms = c.args.atoms.now in
    let i = c.loop-i.i in
    let atom = c.get.result.now in
    let old = c.args.marks.now.items in
    let mid = c.loop-i.marks.items in
    let new = c.pass_on.new.marks.items in
    record {
      size = c.pass_on.ensures.size;
      kept = λ classes given. c.pass_on.ensures.kept atoms classes (stands_at atoms i atom c.get.ensures) (c.loop-i.invariant.kept classes given);
      told = told_run old mid new c.loop-i.changed c.pass_on.result c.if-pass_on.changed
          (All (IsPassedOn names old) (take i atoms)) (IsPassedOn names mid atom) (All (IsPassedOn names old) (take (i + 1) atoms))
          c.loop-i.invariant.told c.pass_on.ensures.told
          (elim c.if-pass_on.branch [ then-pass_on w ↦ inl (w.if-pass_on.true, w.changed-is) | else-pass_on w ↦ inr (w.if-pass_on.false, w.changed-is) ])
          (λ same before here. all_next (IsPassedOn names old) atoms i atom c.get.ensures before (subst (λ (z : List Bool). IsPassedOn names z atom) same here));
    }

pub returns-clause-told : goal.returns-clause-told
returns-clause-told c =
    let names = c.args.names.now in
    let atoms = c.args.atoms.now in
    let i = c.loop-i.i in
    let old = c.args.marks.now.items in
    let new = c.loop-i.marks.items in
    told_less c.loop-i.changed (left_over new < left_over old) (new ≡ old) (All (IsPassedOn names old) (take i atoms)) (All (IsPassedOn names old) atoms) c.loop-i.invariant.told
    (λ all. all_taken (IsPassedOn names old) atoms i (omega arith) all)
