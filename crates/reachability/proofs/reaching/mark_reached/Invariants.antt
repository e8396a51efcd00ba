use Rattle.std.proofs.Common.{◌≡◌, ◌+◌, ◌*◌, ℕ, cond, length}
use Rattle.std.specs.Prelude.{MatchBool, All}
use Rattle.reachability.specs.Flags.{left_over, AreUnder, IsPassedOn}
use Rattle.reachability.proofs.reaching.mark_reached.Given as goal

abbrev pub invariant-loop-changed : goal.invariant-loop-changed
invariant-loop-changed l = record {
  size : length l.marks ≡ length l.fn.marks;
  kept : (first : ℕ) → AreUnder first l.atoms l.fn.marks → AreUnder first l.atoms l.marks;
  over : MatchBool l.changed (Unit {0}) (All (IsPassedOn l.marks) l.atoms);
}

abbrev pub decreases-loop-changed : goal.decreases-loop-changed
decreases-loop-changed l = left_over l.marks * 2 + cond l.changed 1 0
