-- The names of free variables are the first names of a statement that shows cubes.
use Rattle.std.proofs.Common.{◌≡◌, ℕ, zero, suc, ◌++◌, List, [], ◌∷◌, length, slice_get, Some, All, sym, subst, arith}
use Rattle.std.specs.Prelude.{take}
use Rattle.std.proofs.Math.Seq.{take-append_seam}
use Rattle.std.proofs.lemmas.List.Elements.{All-take}
use Rattle.std.proofs.lemmas.Option.{slice_get_within}
use Rattle.formula_ast.specs.declared.token.TokenKind.{TokenKind}
use Rattle.formula_ast.specs.declared.token.TokenKind.TheVariants as k
use Rattle.formula_ast.specs.Tokens.{kind_of}
use Rattle.formula_ast.specs.WellFormed.{AreWords, AreDistinct}
use Rattle.tree_model.specs.Signatures.{Signature}
use Rattle.formula_printer.specs.Printable.{AreNames}

-- what stands in front stands in the whole
front_got : {A : Type 0} (xs ys : List A) (i : ℕ) (x : A) → slice_get xs i ≡ Some x → slice_get (xs ++ ys) i ≡ Some x
front_got [] ys i x got = absurd (omega (arith, slice_get_within [] i x got))
front_got (first ∷ xs) ys zero x got = got
front_got (first ∷ xs) ys (suc i) x got = front_got xs ys i x got

front_words : (kind : TokenKind) (xs ys : List (List ℕ)) → AreWords kind (xs ++ ys) → AreWords kind xs
front_words kind xs ys words = subst (λ (zs : List (List ℕ)). AreWords kind zs) (take-append_seam xs ys) (All-take (λ x. kind_of x ≡ Some kind) (length xs) (xs ++ ys) words)

front_distinct : (xs ys : List (List ℕ)) → AreDistinct (xs ++ ys) → AreDistinct xs
front_distinct xs ys apart text i j at_i at_j = apart text i j (front_got xs ys i text at_i) (front_got xs ys j text at_j)

-- the first names are names, where all are
pub front_names : (σ : Signature) (xs ys : List (List ℕ)) → AreNames σ (xs ++ ys) → AreNames σ xs
front_names σ xs ys are = record {
  variables = front_words k.Variable xs ys are.variables;
  distinct = front_distinct xs ys are.distinct;
  declared = are.declared;
}
