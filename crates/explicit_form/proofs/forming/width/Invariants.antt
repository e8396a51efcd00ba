use Rattle.std.proofs.Common.{◌≡◌, take}
use Rattle.explicit_form.specs.Explicit as spec
use Rattle.explicit_form.proofs.forming.width.Given as goal

abbrev pub invariant-loop-cube : goal.invariant-loop-cube
invariant-loop-cube l = l.most ≡ spec.width (take l.cube-index l.cubes)
