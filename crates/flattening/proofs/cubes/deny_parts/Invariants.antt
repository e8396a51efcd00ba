use Rattle.std.proofs.Common.{◌≡◌, drop}
use Rattle.flat_form.specs.Normals.{norms_of, join}
use Rattle.flattening.specs.Flattening.{placed, denied_parts}
use Rattle.flattening.proofs.cubes.deny_parts.Given as goal

abbrev pub invariant-loop-part : goal.invariant-loop-part
invariant-loop-part l = join (norms_of l.made) (denied_parts (placed l.args l.scope) (drop l.part-index l.parts)) ≡ denied_parts (placed l.args l.scope) l.parts
