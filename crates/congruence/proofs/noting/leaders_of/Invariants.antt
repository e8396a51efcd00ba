use Rattle.std.proofs.Common.{take}
use Rattle.congruence.specs.Turns.{AreNotesOf}
use Rattle.congruence.proofs.noting.leaders_of.Given as goal

abbrev pub invariant-loop-t : goal.invariant-loop-t
invariant-loop-t l = AreNotesOf l.graph.contents l.v l.w (take l.t-index l.t-items) l.notes.items
