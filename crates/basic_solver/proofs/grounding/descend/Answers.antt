use Rattle.std.proofs.Common.{length}
use Rattle.basic_solver.specs.Visits.{IsVisit}
use Rattle.basic_solver.proofs.Following.{stands_at}
use Rattle.basic_solver.proofs.Visiting.{all_popped}
use Rattle.basic_solver.proofs.grounding.descend.Goals as goal

pub loop-visit-preserved : goal.loop-visit-preserved
loop-visit-preserved c =
    let names = c.args.names.now in
    let atoms = c.args.atoms.now in
    record {
      size = c.ground.ensures.size;
      kept = λ classes given. c.ground.ensures.kept atoms classes (stands_at atoms c.in-Leave.i c.get.result.now c.get.ensures) (c.loop-visit.invariant.kept classes given);
      seen = c.loop-visit.invariant.seen;
      visits = all_popped (IsVisit (length names) (length atoms)) c.loop-visit.visits.items c.pop.new.self.items c.in-Some.visit c.in-Some.ensures.items c.loop-visit.invariant.visits;
    }
