use Rattle.std.proofs.Common.{◌≡◌, ◌≤◌, length, take, drop}
use Rattle.term_graph.specs.Lowering.{restored}
use Rattle.term_graph.proofs.parts.unshare.Given as goal

abbrev pub invariant-loop-lowered : goal.invariant-loop-lowered
invariant-loop-lowered l = record {
  within : l.count ≤ length l.lowered.items;
  first : take l.count l.lowered.items ≡ take l.count l.initial.lowered.items;
  back : restored (drop l.count l.lowered.items) l.table.entries ≡ restored (drop l.count l.initial.lowered.items) l.initial.table.entries;
}

abbrev pub decreases-loop-lowered : goal.decreases-loop-lowered
decreases-loop-lowered l = length l.lowered.items
