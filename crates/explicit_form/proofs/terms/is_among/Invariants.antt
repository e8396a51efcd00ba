use Rattle.std.proofs.Common.{◌≡◌, take}
use Rattle.std.specs.Prelude.{All}
use Rattle.formula_ast.specs.Terms.{list_of}
use Rattle.explicit_form.specs.Pieces as spec
use Rattle.explicit_form.proofs.terms.is_among.Given as goal

abbrev pub invariant-loop-t : goal.invariant-loop-t
invariant-loop-t l = All (λ t. ¬ (spec.variable_in t ≡ l.x)) (take l.t-index (list_of l.ts))
