use Rattle.std.proofs.Common.{◌≡◌, ◌<◌, length, map, take}
use Rattle.std.specs.Prelude.{All}
use Rattle.witness_trees.specs.Fresh.{representative}
use Rattle.witness_trees.proofs.labels.representatives.Given as goal

abbrev pub invariant-loop-v : goal.invariant-loop-v
invariant-loop-v l = record {
  are : l.out ≡ map (representative l.atoms) (take l.v-index l.vs);
  below : All (λ v. v < length l.places) l.out;
}
