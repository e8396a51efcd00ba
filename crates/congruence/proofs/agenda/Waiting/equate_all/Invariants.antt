use Rattle.std.proofs.Common.{◌≡◌, ◌+◌, length}
use Rattle.congruence.specs.Turns.{ArePairedBelow}
use Rattle.congruence.proofs.agenda.Waiting.equate_all.Given as goal

abbrev pub invariant-loop-i : goal.invariant-loop-i
invariant-loop-i l = (l.self.alike ≡ l.fn.self.alike) × ArePairedBelow l.i l.xs l.ys l.fn.self.equal l.self.equal × (length l.self.equal ≡ length l.fn.self.equal + l.i)
