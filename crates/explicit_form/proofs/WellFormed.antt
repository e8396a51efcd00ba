-- The statement of cubes is well formed.
use Rattle.std.proofs.Common.{◌≡◌, ℕ, ◌+◌, ◌≤◌, List, length, sym, subst, arith}
use Rattle.std.proofs.lemmas.List.{length-append}
use Rattle.tree_model.specs.Signatures.{Signature}
use Rattle.formula_ast.specs.declared.token.TokenKind.TheVariants as word
use Rattle.formula_ast.specs.declared.formula.Formula.{Formula}
use Rattle.formula_ast.specs.Forms.{form_of}
use Rattle.formula_ast.specs.WellFormed.{AreWords, AreDistinct, FormOver, IsNamedOver}
use Rattle.flat_form.specs.declared.cube.Cube.{Cube}
use Rattle.flat_form.specs.Numbering.{CubesOver}
use Rattle.flat_form.specs.Symbols.{CubesFit}
use Rattle.formula_printer.specs.Bound.{bound_names}
use Rattle.explicit_form.specs.Explicit.{explicit_of, explicit_names, width}
use Rattle.explicit_form.proofs.Over.{explicit_over}
use Rattle.explicit_form.proofs.Names.{names_words, names_distinct, bound_many}

pub well_formed : (σ : Signature) (names all : List (List ℕ)) (cubes : List Cube) (f : Formula) → AreWords word.Variable names → AreDistinct names → CubesOver (length names) cubes
    → all ≡ explicit_names names cubes → form_of f ≡ explicit_of cubes → CubesFit σ cubes → IsNamedOver σ σ all f
well_formed σ names all cubes f words distinct over names_are is fits = record {
  words = subst (AreWords word.Variable) (sym names_are) (names_words names (width cubes) words);
  distinct = subst AreDistinct (sym names_are) (names_distinct names (width cubes) distinct);
  formula = subst (λ (l : List (List ℕ)). FormOver σ σ (length l) (form_of f)) (sym names_are)
      (subst (FormOver σ σ (length (explicit_names names cubes))) (sym is) (explicit_over σ (length (explicit_names names cubes)) (length names) cubes (many names cubes) over fits));
}
  where
    many : (names : List (List ℕ)) (cubes : List Cube) → length names + width cubes ≤ length (explicit_names names cubes)
    many names cubes = omega (arith, length-append names (bound_names names (width cubes)), bound_many names (width cubes))
