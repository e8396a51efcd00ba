use Rattle.std.proofs.Common.{rules, arith, subst}
use Rattle.std.specs.Prelude.{All}
use Rattle.std.proofs.lemmas.List.Elements.{All-more}
use Rattle.flat_form.specs.declared.atom.Flat.{Flat}
use Rattle.flat_form.specs.Beside.{GoesWith}
use Rattle.flat_form.proofs.Shapes.{all_taken}
use Rattle.flat_form.proofs.solved.all_go_together.Goals as goal

pub loop-atom-preserved : goal.loop-atom-preserved
loop-atom-preserved c =
    let Goes : Flat → Type 0 = λ atom. All (GoesWith atom) c.args.b.now in
    All-more Goes c.args.b.now c.loop-atom.atom-index c.atom-item.result (omega arith) c.loop-atom.invariant
    (subst Goes c.atom-item.is (c.goes_with_all.ensures.0 (search rules)))

pub returns : goal.returns
returns c = (λ t. all_taken (λ (atom : Flat). All (GoesWith atom) c.args.b.now) c.args.b.now c.loop-atom.atom-index (omega arith) c.loop-atom.invariant, λ h. search rules)
