use Rattle.std.proofs.Common.{◌≡◌, take}
use Rattle.term_graph.proofs.parts.args_of.Given as goal

abbrev pub invariant-loop-key : goal.invariant-loop-key
invariant-loop-key l = l.args ≡ take l.key-index l.keys
