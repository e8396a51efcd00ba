use Rattle.std.proofs.Common.{take}
use Rattle.std.specs.Prelude.{All}
use Rattle.formula_ast.specs.Terms.{list_of}
use Rattle.explicit_form.specs.Shaped.{IsVariable}
use Rattle.explicit_form.proofs.terms.are_variables.Given as goal

abbrev pub invariant-loop-t : goal.invariant-loop-t
invariant-loop-t l = All IsVariable (take l.t-index (list_of l.ts))
