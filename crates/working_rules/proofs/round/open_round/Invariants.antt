use Rattle.std.proofs.Common.{List, ◌≤◌, ◌-◌}
use Rattle.flat_form.specs.declared.atom.Flat.{Flat}
use Rattle.working_rules.specs.Rounds.{StandAbove, AreInScopes}
use Rattle.working_rules.proofs.Rounds.{WayTo}
use Rattle.working_rules.proofs.round.open_round.Given as goal

abbrev pub invariant-loop-at : goal.invariant-loop-at
invariant-loop-at l = record {
  count : l.round.scopes ≤ l.at;
  above : StandAbove l.fn.store.scopes l.round.scopes l.store.scopes;
  atoms : List Flat;
  way : WayTo l.fn.round.variables l.arena l.place l.at l.round.variables atoms;
  are : AreInScopes atoms l.round.variables l.store.scopes l.round.is_solvable;
}

abbrev pub decreases-loop-at : goal.decreases-loop-at
decreases-loop-at l = l.place - l.at
