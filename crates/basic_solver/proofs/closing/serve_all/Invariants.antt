use Rattle.std.proofs.Common.{◌≡◌, ◌<◌, take}
use Rattle.std.specs.Prelude.{MatchBool, All}
use Rattle.basic_solver.specs.Names.{IsNaming, IsSound, weight}
use Rattle.basic_solver.specs.Terms.{IsServed}
use Rattle.basic_solver.proofs.closing.serve_all.Given as goal

abbrev pub invariant-loop-i : goal.invariant-loop-i
invariant-loop-i l = record {
  naming : IsNaming l.leads l.names.items;
  sound : IsSound l.atoms l.initial.names.items → IsSound l.atoms l.names.items;
  told : MatchBool l.changed (weight l.leads l.names.items < weight l.leads l.initial.names.items)
      ((l.names.items ≡ l.initial.names.items) × All (IsServed l.initial.names.items l.terms l.atoms) (take l.i l.atoms));
}
