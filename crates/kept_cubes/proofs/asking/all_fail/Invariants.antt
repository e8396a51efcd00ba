use Rattle.std.proofs.Common.{◌≡◌, true, take}
use Rattle.basic_solver.specs.Stores.{atoms_of}
use Rattle.kept_cubes.specs.Asking.{EachFailsSomewhere}
use Rattle.kept_cubes.proofs.asking.all_fail.Given as goal

abbrev pub invariant-loop-part : goal.invariant-loop-part
invariant-loop-part l = record {
  stays : l.store.scopes ≡ l.fn.store.scopes;
  each : EachFailsSomewhere l.m (atoms_of l.fn.store.scopes) (take l.part-index l.parts) true;
}
