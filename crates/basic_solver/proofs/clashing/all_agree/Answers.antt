use Rattle.std.proofs.Common.{rules, arith}
use Rattle.flat_form.proofs.Shapes.{all_next, all_taken}
use Rattle.basic_solver.specs.Terms.{AgreesWithNoted}
use Rattle.basic_solver.proofs.Noted.{agree_from}
use Rattle.basic_solver.proofs.clashing.all_agree.Goals as goal

pub loop-i-preserved : goal.loop-i-preserved
loop-i-preserved c =
    all_next (AgreesWithNoted c.args.names.now c.args.terms.now c.args.atoms.now) c.args.atoms.now c.loop-i.i c.get.result.now c.get.ensures c.loop-i.invariant
    (c.agrees_with_noted.ensures.0 (search rules))

pub returns : goal.returns
returns c = (
  λ t. agree_from c.args.names.now c.args.atoms.now c.args.terms.now c.requires.terms
      (all_taken (AgreesWithNoted c.args.names.now c.args.terms.now c.args.atoms.now) c.args.atoms.now c.loop-i.i (omega arith) c.loop-i.invariant),
  λ h. search rules,
)
