use Rattle.std.proofs.Common.{◌≡◌, map, take}
use Rattle.formula_ast.specs.Terms.{list_of}
use Rattle.explicit_form.specs.Pieces as spec
use Rattle.explicit_form.proofs.terms.are_same.Given as goal

abbrev pub invariant-loop-i : goal.invariant-loop-i
invariant-loop-i l = map spec.variable_in (take l.i (list_of l.ts)) ≡ map spec.variable_in (take l.i (list_of l.us))
