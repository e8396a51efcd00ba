use Rattle.std.proofs.Common.{◌≡◌, ◌<◌, length, map}
use Rattle.std.specs.Prelude.{All}
use Rattle.std.specs.List.{range_with_len}
use Rattle.witness_trees.specs.Fresh.{representative}
use Rattle.witness_trees.proofs.labels.tops.Given as goal

abbrev pub invariant-loop-v : goal.invariant-loop-v
invariant-loop-v l = record {
  are : l.out ≡ map (representative l.atoms) (range_with_len 0 l.v);
  below : All (λ v. v < length l.places) l.out;
}
