use Rattle.std.proofs.Common.{rules, arith, subst}
use Rattle.std.proofs.lemmas.List.Elements.{All-more}
use Rattle.flat_form.specs.Beside.{GoesWith}
use Rattle.flat_form.proofs.Shapes.{all_taken}
use Rattle.flat_form.proofs.solved.goes_with_all.Goals as goal

pub loop-other-preserved : goal.loop-other-preserved
loop-other-preserved c =
    All-more (GoesWith c.args.atom.now) c.args.b.now c.loop-other.other-index c.other-item.result (omega arith) c.loop-other.invariant
    (subst (GoesWith c.args.atom.now) c.other-item.is (c.goes_with.ensures.0 (search rules)))

pub returns : goal.returns
returns c = (λ t. all_taken (GoesWith c.args.atom.now) c.args.b.now c.loop-other.other-index (omega arith) c.loop-other.invariant, λ h. search rules)
