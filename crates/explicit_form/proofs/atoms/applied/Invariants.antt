use Rattle.std.proofs.Common.{◌≡◌, map, take}
use Rattle.formula_ast.specs.declared.term.Term.TheVariants.{Var}
use Rattle.formula_ast.specs.Terms.{list_of}
use Rattle.explicit_form.proofs.atoms.applied.Given as goal

abbrev pub invariant-loop-x : goal.invariant-loop-x
invariant-loop-x l = list_of l.terms ≡ map (λ x. Var x) (take l.x-index l.xs)
