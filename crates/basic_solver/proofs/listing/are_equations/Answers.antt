use Rattle.std.proofs.Common.{rules, arith}
use Rattle.flat_form.proofs.Shapes.{all_next, all_taken}
use Rattle.basic_solver.specs.Outcomes.{IsEquation}
use Rattle.basic_solver.proofs.listing.are_equations.Goals as goal

pub loop-i-preserved : goal.loop-i-preserved
loop-i-preserved c = all_next IsEquation c.args.atoms.now c.loop-i.i c.get.result.now c.get.ensures c.loop-i.invariant (c.is_equation.ensures.0 (search rules))

pub returns : goal.returns
returns c = (λ t. all_taken IsEquation c.args.atoms.now c.loop-i.i (omega arith) c.loop-i.invariant, λ h. search rules)
