use Rattle.std.proofs.Common.{◌≡◌, ◌++◌, length, Some}
use Rattle.std.specs.Prelude.{slice_get}
use Rattle.cube_reduction.proofs.Lasting.{Lasts}
use Rattle.cube_reduction.proofs.fates.staying.Given as goal

abbrev pub invariant-loop-part : goal.invariant-loop-part
invariant-loop-part l = record {
  stands : slice_get l.memory l.place ≡ Some l.over.base;
  whole : l.yielded ++ l.part-iterator.rest.items ≡ l.fn.parts;
  lasts : Lasts l.over.count l.over.base l.fn.parts (length l.yielded) l.done;
}
