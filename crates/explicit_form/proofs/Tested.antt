-- For tests: the cube that says that the one free variable is finite.
use Rattle.std.proofs.Common.{◌≡◌, ℕ, zero, suc, List, [], ◌∷◌, refl, sym, ap, ◌∙◌, arith, Some}
use Rattle.std.specs.Prelude.{All, Contains, codes}
use Rattle.std.proofs.lemmas.List.Elements.{All-nil, All-cons}
use Rattle.tree_model.specs.declared.tree.Symbol.{Symbol}
use Rattle.formula_ast.specs.declared.token.TokenKind.TheVariants as word
use Rattle.formula_ast.specs.Tokens.{kind_of}
use Rattle.formula_ast.specs.WellFormed.{AreWords, AreDistinct}
use Rattle.flat_form.specs.declared.atom.Flat.TheVariants.{VarVar, VarTerm, Finite}
use Rattle.flat_form.specs.declared.cube.Cube.{Cube}
use Rattle.flat_form.specs.Numbering.{AtomOver, PartOver, CubesOver, IsWellNumbered}
use Rattle.flat_form.specs.Reduced.{IsReducedPart, IsReduced}
use Rattle.formula_printer.specs.Bound.{counted}
use Rattle.formula_printer.specs.Numerals.{numeral}
use Rattle.formula_printer.proofs.Rising.{counted_word}
use Rattle.explicit_form.specs.Shape.{IsNotEmpty}

abbrev pub one : Cube
one = record { free = 1; outer = 0; basic = Finite 0 ∷ []; parts = [] }

no_pair : (u r : ℕ) → ¬ Contains (Finite 0 ∷ []) (VarVar u r)
no_pair u r (zero, less, is) = absurd (cc is)
no_pair u r (suc i, less, is) = absurd (omega (arith, less))

no_term : (u : ℕ) (s : Symbol) (xs : List ℕ) → ¬ Contains (Finite 0 ∷ []) (VarTerm u s xs)
no_term u s xs (zero, less, is) = absurd (cc is)
no_term u s xs (suc i, less, is) = absurd (omega (arith, less))

numbered : IsWellNumbered one
numbered = record { basic = All-cons (AtomOver 1) (Finite 0) [] (omega arith) (All-nil (AtomOver 1)); parts = All-nil (PartOver 1) }

reduced : IsReduced one
reduced = record {
  well_numbered = numbered;
  solved = record {
    ascending = ((λ later c. absurd (omega (arith, c.1))), tt);
    direct = λ u r c. absurd (no_pair u r c);
    plain = λ u s xs c. absurd (no_term u s xs c);
    apart = λ u v s xs c. absurd (no_term u s xs c);
  };
  numbered = record { hangs = λ v le less. absurd (omega arith); first = λ v w u j le less more. absurd (omega arith) };
  parts = All-nil (IsReducedPart 1 (Finite 0 ∷ []));
  distinct = tt;
}

pub one_reduced : All IsReduced (one ∷ [])
one_reduced = All-cons IsReduced one [] reduced (All-nil IsReduced)

pub one_over : CubesOver 1 (one ∷ [])
one_over = All-cons (λ (cube : Cube). (cube.free ≡ 1) × IsWellNumbered cube) one [] (refl, numbered) (All-nil (λ (cube : Cube). (cube.free ≡ 1) × IsWellNumbered cube))

pub one_full : All IsNotEmpty (one ∷ [])
one_full = All-cons IsNotEmpty one [] (λ none. absurd (cc (none.0))) (All-nil IsNotEmpty)

v0_is : counted 0 ≡ codes "V0"
unfolding numeral
v0_is = refl

pub one_word : AreWords word.Variable (codes "V0" ∷ [])
one_word =
    All-cons (λ text. kind_of text ≡ Some word.Variable) (codes "V0") [] (ap kind_of (sym v0_is) ∙ counted_word 0) (All-nil (λ text. kind_of text ≡ Some word.Variable))

pub one_name : AreDistinct (codes "V0" ∷ [])
one_name text zero zero left right = refl
one_name text zero (suc j) left right = absurd (cc right)
one_name text (suc i) j left right = absurd (cc left)
