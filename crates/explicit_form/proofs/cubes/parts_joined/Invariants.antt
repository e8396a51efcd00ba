use Rattle.std.proofs.Common.{List, ◌++◌, map, take}
use Rattle.formula_ast.specs.Forms.{Form}
use Rattle.formula_grammar.specs.Written as joint
use Rattle.explicit_form.specs.Explicit.{denied, denied_part}
use Rattle.explicit_form.specs.Joining.{Joins}
use Rattle.explicit_form.proofs.cubes.parts_joined.Given as goal

abbrev pub invariant-loop-part : goal.invariant-loop-part
invariant-loop-part l = (fs : List Form) → Joins joint.and l.fn.before fs → Joins joint.and l.all (fs ++ map (λ part. denied (denied_part l.m part)) (take l.part-index l.parts))
