use Rattle.std.proofs.Common.{◌≡◌, ◌<◌}
use Rattle.std.specs.Prelude.{MatchBool}
use Rattle.basic_solver.specs.Names.{IsNaming, IsSound, weight}
use Rattle.basic_solver.specs.Twins.{FollowTwins}
use Rattle.basic_solver.proofs.closing.follow_twins.Given as goal

abbrev pub invariant-loop-i : goal.invariant-loop-i
invariant-loop-i l = record {
  naming : IsNaming l.leads l.names.items;
  sound : IsSound l.atoms l.initial.names.items → IsSound l.atoms l.names.items;
  told : MatchBool l.changed (weight l.leads l.names.items < weight l.leads l.initial.names.items)
      ((l.names.items ≡ l.initial.names.items) × FollowTwins l.initial.names.items l.twins l.atoms l.i);
}
