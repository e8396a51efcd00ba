use Rattle.std.proofs.Common.{◌≡◌, take}
use Rattle.std.specs.List.{filter}
use Rattle.cube_reduction.specs.Keeping.{is_kept_by}
use Rattle.cube_reduction.proofs.pruning.kept.Given as goal

abbrev pub invariant-loop-atom : goal.invariant-loop-atom
invariant-loop-atom l = l.kept ≡ filter (is_kept_by l.m l.marks) (take l.atom-index l.atoms)
