use Rattle.std.proofs.Common.{◌+◌}
use Rattle.flat_form.specs.Normals.{norm_of, norms_of}
use Rattle.flat_form.specs.Numbering.{CubesOver}
use Rattle.normal_form.proofs.NormLists.{norm_size, norms_size, Joins}
use Rattle.normal_form.proofs.engine.+plain.Given as goal

abbrev pub decreases-plain : goal.decreases-plain
decreases-plain l = norm_size (norm_of l.n.now)

abbrev pub decreases-with_parts : goal.decreases-with_parts
decreases-with_parts l = norms_size (norms_of l.parts.now) + 1

abbrev pub invariant-with_parts-loop-i : goal.invariant-with_parts-loop-i
invariant-with_parts-loop-i l = record {
  over : CubesOver l.free l.all;
  joins : Joins l.free l.fn.first l.parts l.all l.i;
}
