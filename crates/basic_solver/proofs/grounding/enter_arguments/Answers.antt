use Rattle.std.proofs.Common.{◌<◌, ℕ, length, get_or, arith}
use Rattle.basic_solver.specs.declared.grounding.Visit.TheVariants.{Enter}
use Rattle.basic_solver.specs.Visits.{IsVisit}
use Rattle.basic_solver.proofs.Flagging.{number_at, zero_low}
use Rattle.basic_solver.proofs.Visiting.{all_pushed, pushed_size}
use Rattle.basic_solver.proofs.grounding.enter_arguments.Goals as goal

pub loop-i-preserved : goal.loop-i-preserved
loop-i-preserved c =
    let names = c.args.names.now in
    let x = c.get.result.now in
    let low : x < length names = number_at (λ (z : ℕ). z < length names) c.args.xs.now c.loop-i.i x c.requires.within (omega arith) c.get.ensures in
    record {
      visits = λ n given. all_pushed (IsVisit (length names) n) c.loop-i.visits.items c.push.new.self.items (Enter (get_or names x 0)) c.in-Ok.ensures.items
          (zero_low names x c.requires.names low) (c.loop-i.invariant.visits n given);
      more = omega (arith, pushed_size c.loop-i.visits.items c.push.new.self.items (Enter (get_or names x 0)) c.in-Ok.ensures.items, c.loop-i.invariant.more);
    }
