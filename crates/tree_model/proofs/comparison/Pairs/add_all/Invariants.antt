use Rattle.std.proofs.Common.{take}
use Rattle.std.specs.List.{zip}
use Rattle.tree_model.specs.Comparing.{Adds}
use Rattle.tree_model.proofs.comparison.Pairs.add_all.Given as goal

abbrev pub invariant-loop-i : goal.invariant-loop-i
invariant-loop-i l = Adds l.initial.self l.self (take l.i (zip l.lefts l.rights))
