use Rattle.std.proofs.Common.{◌≡◌, ◌≤◌, length}
use Rattle.term_graph.specs.Contents.{back_to}
use Rattle.term_graph.proofs.graph.Graph.undo_to.Given as goal

abbrev pub invariant-back : goal.invariant-back
invariant-back l = record { back : back_to l.m.length l.self ≡ back_to l.m.length l.fn.self; within : l.m.length ≤ length l.self.trail }

abbrev pub decreases-back : goal.decreases-back
decreases-back l = length l.self.trail
