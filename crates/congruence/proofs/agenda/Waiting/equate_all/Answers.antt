use Rattle.std.proofs.Common.{refl, ◌∙◌, ap, subst, sym, arith, ◌≡◌, ◌+◌, length}
use Rattle.std.specs.Prelude.{slice_index}
use Rattle.std.proofs.lemmas.List.{length_push}
use Rattle.congruence.specs.Agenda.{Agenda}
use Rattle.congruence.specs.Turns.{ArePairedBelow}
use Rattle.congruence.proofs.Turning.{paired_more}
use Rattle.congruence.proofs.agenda.Waiting.equate_all.Goals as goal

pub loop-i-preserved : goal.loop-i-preserved
loop-i-preserved c = (
  ap (λ (z : Agenda). z.alike) c.in_ok-equate.ensures.ok ∙ c.loop-i.invariant.0,
  subst (λ z. ArePairedBelow (c.loop-i.i + 1) c.args.xs.now c.args.ys.now c.args.self.now.equal z) (sym (ap (λ (z : Agenda). z.equal) c.in_ok-equate.ensures.ok))
      (paired_more c.loop-i.i c.args.xs.now c.args.ys.now c.args.self.now.equal c.loop-i.self.equal (slice_index c.args.xs.now c.loop-i.i) (slice_index c.args.ys.now c.loop-i.i) refl refl c.loop-i.invariant.1),
  omega (arith, c.loop-i.invariant.2, ap (λ (z : Agenda). length z.equal) c.in_ok-equate.ensures.ok, length_push c.loop-i.self.equal (slice_index c.args.xs.now c.loop-i.i, slice_index c.args.ys.now c.loop-i.i)),
)

pub returns-clause-paired : goal.returns-clause-paired
returns-clause-paired c =
    let all : c.loop-i.i ≡ length c.args.xs.now = omega arith in
    subst (λ n. ArePairedBelow n c.args.xs.now c.args.ys.now c.args.self.now.equal c.loop-i.self.equal) all c.loop-i.invariant.1
