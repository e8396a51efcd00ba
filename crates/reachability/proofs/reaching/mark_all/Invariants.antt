use Rattle.std.proofs.Common.{◌≡◌, ◌<◌, ℕ, length, take, List}
use Rattle.std.specs.Prelude.{MatchBool, All}
use Rattle.flat_form.specs.declared.atom.Flat.{Flat}
use Rattle.flat_form.specs.Parts.{Under}
use Rattle.reachability.specs.Flags.{IsSet, left_over, AreUnder}
use Rattle.reachability.proofs.reaching.mark_all.Given as goal

abbrev pub invariant-loop-x : goal.invariant-loop-x
invariant-loop-x l = record {
  size : length l.marks ≡ length l.fn.marks;
  kept : (first : ℕ) (atoms : List Flat) → All (Under first atoms) l.xs → AreUnder first atoms l.fn.marks → AreUnder first atoms l.marks;
  told : MatchBool l.changed (left_over l.marks < left_over l.fn.marks) ((l.marks ≡ l.fn.marks) × All (IsSet l.fn.marks) (take l.x-index l.xs));
}
