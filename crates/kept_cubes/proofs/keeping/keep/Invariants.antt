use Rattle.std.proofs.Common.{◌≡◌}
use Rattle.basic_solver.specs.Stores.{atoms_of}
use Rattle.kept_cubes.proofs.Kept.{AreKept}
use Rattle.kept_cubes.proofs.keeping.keep.Given as goal

abbrev pub invariant-loop-cube : goal.invariant-loop-cube
invariant-loop-cube l = record {
  stays : l.store.scopes ≡ l.fn.store.scopes;
  kept : AreKept (atoms_of l.fn.store.scopes) l.cubes l.cube-index l.kept;
}
