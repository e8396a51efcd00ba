use Rattle.std.proofs.Common.{map, take}
use Rattle.formula_grammar.specs.Written as joint
use Rattle.explicit_form.specs.Explicit.{cube_form}
use Rattle.explicit_form.specs.Joining.{Joins}
use Rattle.explicit_form.proofs.cubes.cubes_joined.Given as goal

abbrev pub invariant-loop-cube : goal.invariant-loop-cube
invariant-loop-cube l = Joins joint.or l.all (map cube_form (take l.cube-index l.cubes))
