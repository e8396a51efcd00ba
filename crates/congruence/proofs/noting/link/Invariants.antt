use Rattle.std.proofs.Common.{◌≡◌, take}
use Rattle.congruence.specs.Turns.{AreLinked}
use Rattle.congruence.proofs.noting.link.Given as goal

abbrev pub invariant-loop-note : goal.invariant-loop-note
invariant-loop-note l = (l.waiting.equal ≡ l.fn.waiting.equal) × AreLinked l.graph.contents l.fn.waiting.alike l.waiting.alike (take l.note-index l.notes)
