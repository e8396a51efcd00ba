use Rattle.std.proofs.Common.{map, take}
use Rattle.formula_grammar.specs.Written as joint
use Rattle.explicit_form.specs.Explicit.{atom_form}
use Rattle.explicit_form.specs.Joining.{Joins}
use Rattle.explicit_form.proofs.cubes.atoms_joined.Given as goal

abbrev pub invariant-loop-atom : goal.invariant-loop-atom
invariant-loop-atom l = Joins joint.and l.all (map atom_form (take l.atom-index l.basic))
