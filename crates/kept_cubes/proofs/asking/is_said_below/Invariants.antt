use Rattle.std.proofs.Common.{false, take}
use Rattle.kept_cubes.specs.Asking.{IsSaidBelow}
use Rattle.kept_cubes.proofs.asking.is_said_below.Given as goal

abbrev pub invariant-loop-atom : goal.invariant-loop-atom
invariant-loop-atom l = IsSaidBelow l.m (take l.atom-index l.atoms) false
