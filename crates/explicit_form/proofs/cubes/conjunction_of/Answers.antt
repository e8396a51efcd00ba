use Rattle.std.proofs.Common.{ap, sym, ◌∙◌}
use Rattle.formula_ast.proofs.Ties.{always_form}
use Rattle.formula_grammar.specs.Written as joint
use Rattle.formula_printer.specs.Bound.{conjunction}
use Rattle.explicit_form.proofs.Joined.{conjoined, none_joined}
use Rattle.explicit_form.proofs.cubes.conjunction_of.Goals as goal

pub returns-in-Some : goal.returns-in-Some
returns-in-Some c = λ fs joins. conjoined c.args.all c.in-Some.f fs c.in-Some.is joins

pub returns-in-None : goal.returns-in-None
returns-in-None c = λ fs joins. always_form ∙ ap conjunction (sym (none_joined joint.and c.args.all fs c.in-None.is joins))
