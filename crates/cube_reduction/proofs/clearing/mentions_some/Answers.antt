use Rattle.std.proofs.Common.{ℕ, rules, arith}
use Rattle.std.proofs.lemmas.List.Elements.{All-more}
use Rattle.flat_form.specs.Steps.{Mentions}
use Rattle.reachability.proofs.Mentioned.{none_has, never}
use Rattle.cube_reduction.proofs.clearing.mentions_some.Goals as goal

pub loop-v-preserved : goal.loop-v-preserved
loop-v-preserved c =
    All-more (λ (v : ℕ). ¬ Mentions c.args.part.now v) c.args.vs.now c.loop-v.v-index 0 (omega arith) c.loop-v.invariant
    (λ inside. absurd (never c.mentions.result c.if-mentions.false (c.mentions.ensures.1 inside)))

pub returns : goal.returns
returns c = (
  λ t. absurd (search rules),
  λ (v, there, inside). absurd (none_has (λ (w : ℕ). Mentions c.args.part.now w) c.args.vs.now c.loop-v.v-index (omega arith) c.loop-v.invariant v there inside),
)
