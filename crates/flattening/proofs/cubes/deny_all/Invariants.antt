use Rattle.std.proofs.Common.{◌≡◌, drop}
use Rattle.flat_form.specs.Normals.{norms_of, join}
use Rattle.flattening.specs.Flattening.{all_denied}
use Rattle.flattening.proofs.cubes.deny_all.Given as goal

abbrev pub invariant-loop-cube : goal.invariant-loop-cube
invariant-loop-cube l = join (norms_of l.made) (all_denied l.args l.scope (drop l.cube-index l.cubes)) ≡ all_denied l.args l.scope l.cubes
