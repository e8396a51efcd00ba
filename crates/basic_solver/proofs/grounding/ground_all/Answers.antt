use Rattle.std.proofs.Common.{◌≡◌, ◌<◌, ◌+◌, Bool, List, take, subst, arith, inl, inr}
use Rattle.std.specs.Prelude.{All}
use Rattle.flat_form.proofs.Shapes.{all_next, all_taken}
use Rattle.basic_solver.specs.Flags.{left_over, IsStuck}
use Rattle.basic_solver.proofs.Following.{stands_at}
use Rattle.basic_solver.proofs.Flagging.{told_run, told_less}
use Rattle.basic_solver.proofs.grounding.ground_all.Goals as goal
use Rattle.basic_solver.proofs.grounding.ground_all.Goals.{then-ground, else-ground}

pub loop-i-preserved : goal.loop-i-preserved
loop-i-preserved c =
    let names = c.args.names.now in
    let atoms = c.args.atoms.now in
    let i = c.loop-i.i in
    let atom = c.get.result.now in
    let old = c.args.done.now.items in
    let mid = c.loop-i.done.items in
    let new = c.ground.new.done.items in
    record {
      size = c.ground.ensures.size;
      kept = λ classes given. c.ground.ensures.kept atoms classes (stands_at atoms i atom c.get.ensures) (c.loop-i.invariant.kept classes given);
      told = told_run old mid new c.loop-i.changed c.ground.result c.if-ground.changed
          (All (IsStuck names old) (take i atoms)) (IsStuck names mid atom) (All (IsStuck names old) (take (i + 1) atoms))
          c.loop-i.invariant.told c.ground.ensures.told
          (elim c.if-ground.branch [ then-ground w ↦ inl (w.if-ground.true, w.changed-is) | else-ground w ↦ inr (w.if-ground.false, w.changed-is) ])
          (λ same before here. all_next (IsStuck names old) atoms i atom c.get.ensures before (subst (λ (z : List Bool). IsStuck names z atom) same here));
    }

pub returns-clause-told : goal.returns-clause-told
returns-clause-told c =
    let names = c.args.names.now in
    let atoms = c.args.atoms.now in
    let i = c.loop-i.i in
    let old = c.args.done.now.items in
    let new = c.loop-i.done.items in
    told_less c.loop-i.changed (left_over new < left_over old) (new ≡ old) (All (IsStuck names old) (take i atoms)) (All (IsStuck names old) atoms) c.loop-i.invariant.told
    (λ all. all_taken (IsStuck names old) atoms i (omega arith) all)
