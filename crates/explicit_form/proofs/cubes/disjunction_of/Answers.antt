use Rattle.std.proofs.Common.{ap, sym, ◌∙◌, map}
use Rattle.formula_ast.proofs.Ties.{never_form}
use Rattle.formula_grammar.specs.Written as joint
use Rattle.formula_printer.specs.Bound.{disjunction}
use Rattle.explicit_form.specs.Explicit.{cube_form}
use Rattle.explicit_form.proofs.Joined.{none_joined}
use Rattle.explicit_form.proofs.cubes.disjunction_of.Goals as goal

pub returns-in-None : goal.returns-in-None
returns-in-None c = never_form ∙ ap disjunction (sym (none_joined joint.or _ (map cube_form c.args.cubes.now) c.in-None.is c.in_ok-f.ensures))
