use Rattle.std.proofs.Common.{◌≡◌, ◌<◌, ◌+◌, Bool, List, take, subst, arith, inl, inr}
use Rattle.std.specs.Prelude.{All}
use Rattle.reachability.specs.Flags.{left_over, IsPassedOn}
use Rattle.reachability.proofs.Flags.{told_run, told_less}
use Rattle.reachability.proofs.Mentioned.{all_next, all_taken, item_stands}
use Rattle.reachability.proofs.reaching.pass_all_on.Goals as goal
use Rattle.reachability.proofs.reaching.pass_all_on.Goals.{then-pass_on, else-pass_on}

pub loop-atom-preserved : goal.loop-atom-preserved
loop-atom-preserved c =
    let atoms = c.args.atoms.now in
    let i = c.loop-atom.atom-index in
    let atom = c.atom-item.result in
    let old = c.args.marks.now in
    let mid = c.loop-atom.marks in
    let new = c.pass_on.new.marks in
    record {
      size = omega (arith, c.pass_on.ensures.size, c.loop-atom.invariant.size);
      kept = λ first given. c.pass_on.ensures.kept first atoms (item_stands atoms i atom (omega arith) c.atom-item.is) (c.loop-atom.invariant.kept first given);
      told = told_run old mid new c.loop-atom.changed c.pass_on.result c.if-pass_on.changed
          (All (IsPassedOn old) (take i atoms)) (IsPassedOn mid atom) (All (IsPassedOn old) (take (i + 1) atoms))
          c.loop-atom.invariant.told c.pass_on.ensures.told
          (elim c.if-pass_on.branch [ then-pass_on w ↦ inl (w.if-pass_on.true, w.changed-is) | else-pass_on w ↦ inr (w.if-pass_on.false, w.changed-is) ])
          (λ same before here. all_next (IsPassedOn old) atoms i atom (omega arith) c.atom-item.is before (subst (λ (z : List Bool). IsPassedOn z atom) same here));
    }

pub returns-clause-told : goal.returns-clause-told
returns-clause-told c =
    let atoms = c.args.atoms.now in
    let i = c.loop-atom.atom-index in
    let old = c.args.marks.now in
    let new = c.loop-atom.marks in
    told_less c.loop-atom.changed (left_over new < left_over old) (new ≡ old) (All (IsPassedOn old) (take i atoms)) (All (IsPassedOn old) atoms) c.loop-atom.invariant.told
    (λ all. all_taken (IsPassedOn old) atoms i (omega arith) all)
