use Rattle.std.proofs.Common.{◌≡◌, []}
use Rattle.std.specs.Prelude.{Contains}
use Rattle.flat_form.specs.declared.cube.Part.{Part}
use Rattle.cube_reduction.proofs.SettledParts.{AreSettled}
use Rattle.cube_reduction.proofs.settling.settled_unless_implied.Given as goal

abbrev pub invariant-loop-part : goal.invariant-loop-part
invariant-loop-part l = record {
  settled : AreSettled l.over.count l.over.base l.parts l.part-index l.all;
  none_empty : (part : Part) → Contains l.all part → ¬ (part.basic ≡ []);
}
