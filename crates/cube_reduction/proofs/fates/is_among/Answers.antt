use Rattle.std.proofs.Common.{◌≡◌, rules, arith, refl}
use Rattle.flat_form.specs.declared.cube.Part.{Part}
use Rattle.reachability.proofs.Mentioned.{all_next, none_has, never}
use Rattle.cube_reduction.proofs.fates.is_among.Goals as goal

pub loop-other-preserved : goal.loop-other-preserved
loop-other-preserved c =
    all_next (λ (other : Part). ¬ (other ≡ c.args.part.now)) c.args.parts.now c.loop-other.other-index c.other-item.result c.loop-other-test.true c.other-item.is
    c.loop-other.invariant (λ e. never c.is_same_part.result c.if-is_same_part.false (c.is_same_part.ensures.1 e))

pub returns : goal.returns
returns c = (
  λ t. absurd (search rules),
  λ inside. absurd (none_has (λ (other : Part). other ≡ c.args.part.now) c.args.parts.now c.loop-other.other-index (omega arith) c.loop-other.invariant c.args.part.now inside refl),
)
