use Rattle.std.proofs.Common.{◌++◌, take}
use Rattle.std.specs.Prelude.{All}
use Rattle.formula_ast.specs.Forms.{form_of}
use Rattle.formula_ast.specs.Terms.{list_of}
use Rattle.explicit_form.specs.Pieces as spec
use Rattle.explicit_form.specs.Pieces.{bound_of}
use Rattle.explicit_form.specs.Shape.{InScope}
use Rattle.explicit_form.proofs.blocks.are_in_scope.Given as goal

abbrev pub invariant-loop-t : goal.invariant-loop-t
invariant-loop-t l = All (λ t. InScope l.free (bound_of (form_of l.outer) ++ bound_of (form_of l.inner)) (spec.variable_in t)) (take l.t-index (list_of l.ts))
