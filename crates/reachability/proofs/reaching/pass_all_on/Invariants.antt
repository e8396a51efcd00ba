use Rattle.std.proofs.Common.{◌≡◌, ◌<◌, ℕ, length, take}
use Rattle.std.specs.Prelude.{MatchBool, All}
use Rattle.reachability.specs.Flags.{left_over, AreUnder, IsPassedOn}
use Rattle.reachability.proofs.reaching.pass_all_on.Given as goal

abbrev pub invariant-loop-atom : goal.invariant-loop-atom
invariant-loop-atom l = record {
  size : length l.marks ≡ length l.fn.marks;
  kept : (first : ℕ) → AreUnder first l.atoms l.fn.marks → AreUnder first l.atoms l.marks;
  told : MatchBool l.changed (left_over l.marks < left_over l.fn.marks) ((l.marks ≡ l.fn.marks) × All (IsPassedOn l.fn.marks) (take l.atom-index l.atoms));
}
