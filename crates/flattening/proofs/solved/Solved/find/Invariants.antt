use Rattle.std.proofs.Common.{◌≡◌, drop}
use Rattle.flattening.specs.Tables.{entry_at}
use Rattle.flattening.proofs.solved.Solved.find.Given as goal

abbrev pub invariant-loop-entry : goal.invariant-loop-entry
invariant-loop-entry l = entry_at l.self l.key ≡ entry_at (drop l.entry-index l.self) l.key
