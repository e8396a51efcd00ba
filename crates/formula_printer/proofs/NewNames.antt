-- Names with those of bound variables behind them.
use Rattle.std.proofs.Common.{◌≡◌, ℕ, zero, suc, ◌+◌, ◌⊎◌, inl, inr, List, [], ◌∷◌, ◌++◌, length, Some, subst, arith}
use Rattle.std.specs.Prelude.{slice_get}
use Rattle.std.proofs.lemmas.List.Elements.{All-append}
use Rattle.tree_model.specs.Signatures.{Signature}
use Rattle.formula_ast.specs.declared.token.TokenKind.TheVariants as k
use Rattle.formula_ast.specs.Tokens.{kind_of}
use Rattle.formula_ast.specs.WellFormed.{AreDistinct, AreWords}
use Rattle.formula_grammar.specs.Written.{Text}
use Rattle.formula_printer.specs.Bound.{bound_names}
use Rattle.formula_printer.specs.Printable.{AreNames}
use Rattle.formula_printer.proofs.Layers.{within}
use Rattle.formula_printer.proofs.Rising.{bound_rise, bound_count, rising_each, rising_distinct}

first : (j : ℕ) → j ≡ zero + j
first j = omega arith

later : (n j : ℕ) → suc (n + j) ≡ suc n + j
later n j = omega arith

module _ {A : Type 0} where
  -- what stands in two lists behind one another stands in one of them
  part_of : (xs ys : List A) (i : ℕ) (x : A) → slice_get (xs ++ ys) i ≡ Some x → (slice_get xs i ≡ Some x) ⊎ ((j : ℕ) × (i ≡ length xs + j) × (slice_get ys j ≡ Some x))
  part_of [] ys i x got = inr (i, omega arith, got)
  part_of (y ∷ xs) ys zero x got = inl got
  part_of (y ∷ xs) ys (suc i) x got = elim (part_of xs ys i x got) [ inl h ↦ inl h | inr (j, is, h) ↦ inr (j, omega (arith, is), h) ]

  in_first : (xs ys : List A) (i : ℕ) (x : A) → slice_get xs i ≡ Some x → slice_get (xs ++ ys) i ≡ Some x
  in_first [] ys i x got = absurd (cc got)
  in_first (y ∷ xs) ys zero x got = got
  in_first (y ∷ xs) ys (suc i) x got = in_first xs ys i x got

  in_second : (xs ys : List A) (j : ℕ) (x : A) → slice_get ys j ≡ Some x → slice_get (xs ++ ys) (length xs + j) ≡ Some x
  in_second [] ys j x got = subst (λ i. slice_get ys i ≡ Some x) (first j) got
  in_second (y ∷ xs) ys j x got = subst (λ i. slice_get (y ∷ (xs ++ ys)) i ≡ Some x) (later (length xs) j) (in_second xs ys j x got)

-- lists that are distinct one behind the other are so the other way round
turned : (xs ys : List Text) → AreDistinct (xs ++ ys) → AreDistinct (ys ++ xs)
turned xs ys distinct x i j at_i at_j = by (part_of ys xs i x at_i) (part_of ys xs j x at_j)
  where
    by : (slice_get ys i ≡ Some x) ⊎ ((p : ℕ) × (i ≡ length ys + p) × (slice_get xs p ≡ Some x))
        → (slice_get ys j ≡ Some x) ⊎ ((q : ℕ) × (j ≡ length ys + q) × (slice_get xs q ≡ Some x)) → i ≡ j
    by (inl a) (inl b) = let same = distinct x (length xs + i) (length xs + j) (in_second xs ys i x a) (in_second xs ys j x b) in omega (arith, same)
    by (inl a) (inr (q, is, b)) =
        let same = distinct x (length xs + i) q (in_second xs ys i x a) (in_first xs ys q x b) in absurd (omega (arith, same, within xs q x b))
    by (inr (p, is, a)) (inl b) =
        let same = distinct x p (length xs + j) (in_first xs ys p x a) (in_second xs ys j x b) in absurd (omega (arith, same, within xs p x a))
    by (inr (p, is, a)) (inr (q, at, b)) = let same = distinct x p q (in_first xs ys p x a) (in_first xs ys q x b) in omega (arith, is, at, same)

pub names_words : (names : List Text) (n : ℕ) → AreWords k.Variable names → AreWords k.Variable (names ++ bound_names names n)
names_words names n words = All-append (λ x. kind_of x ≡ Some k.Variable) names (bound_names names n) words (rising_each (bound_rise names n))

pub names_distinct : (names : List Text) (n : ℕ) → AreDistinct names → AreDistinct (names ++ bound_names names n)
names_distinct names n distinct = turned (bound_names names n) names (rising_distinct (bound_rise names n) distinct)

pub are_new : (σ : Signature) (names : List Text) (n : ℕ) → AreNames σ names → (length (bound_names names n) ≡ n) × AreNames σ (names ++ bound_names names n)
are_new σ names n good =
    (bound_count names n, record { variables = names_words names n good.variables; distinct = names_distinct names n good.distinct; declared = good.declared })
