use Rattle.std.proofs.Common.{ℕ, arith, List, length, sym, subst}
use Rattle.std.specs.Prelude.{All}
use Rattle.lists.specs.Distinct.{IsDistinct}
use Rattle.formula_ast.specs.declared.token.TokenKind.TheVariants as word
use Rattle.formula_ast.specs.WellFormed.{AreWords, AreDistinct}
use Rattle.flat_form.specs.declared.cube.Cube.{Cube}
use Rattle.flat_form.specs.Numbering.{CubesOver}
use Rattle.flat_form.specs.Reduced.{IsReduced}
use Rattle.explicit_form.specs.Shape.{IsNotEmpty}
use Rattle.explicit_form.proofs.Tested.{one_reduced, one_over, one_full, one_word, one_name}
use Rattle.explicit_form.proofs.tests.finite_formula.Goals as goal

pub explicit-requires-clause-some : goal.explicit-requires-clause-some
explicit-requires-clause-some c = λ none. absurd (cc (c.in_ok-cubes.ensures, none))

pub explicit-requires-clause-over : goal.explicit-requires-clause-over
explicit-requires-clause-over c =
    subst (λ (names : List (List ℕ)). CubesOver (length names) c.in_ok-cubes.cubes) (sym c.in_ok-names.ensures) (subst (CubesOver 1) (sym c.in_ok-cubes.ensures) one_over)

pub explicit-requires-clause-reduced : goal.explicit-requires-clause-reduced
explicit-requires-clause-reduced c = subst (All IsReduced) (sym c.in_ok-cubes.ensures) one_reduced

pub explicit-requires-clause-distinct : goal.explicit-requires-clause-distinct
explicit-requires-clause-distinct c = subst (λ (cubes : List Cube). IsDistinct cubes) (sym c.in_ok-cubes.ensures) ((λ d. absurd (omega (arith, d.1))), tt)

pub explicit-requires-clause-nonempty : goal.explicit-requires-clause-nonempty
explicit-requires-clause-nonempty c = subst (All IsNotEmpty) (sym c.in_ok-cubes.ensures) one_full

pub explicit-requires-clause-words : goal.explicit-requires-clause-words
explicit-requires-clause-words c = subst (AreWords word.Variable) (sym c.in_ok-names.ensures) one_word

pub explicit-requires-clause-apart : goal.explicit-requires-clause-apart
explicit-requires-clause-apart c = subst AreDistinct (sym c.in_ok-names.ensures) one_name
