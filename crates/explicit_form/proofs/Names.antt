-- The names of bound variables behind others: there are enough, they are words, and no name stands twice.
use Rattle.std.proofs.Common.{◌≡◌, ℕ, zero, suc, ◌+◌, ◌-◌, ◌<◌, ◌≤◌, List, [], ◌∷◌, ◌++◌, length, Some, refl, sym, ap, ◌∙◌, ◌⊎◌, inl, inr, arith}
use Rattle.std.specs.Prelude.{slice_get}
use Rattle.std.proofs.lemmas.List.Elements.{All-append}
use Rattle.tree_facts.proofs.Equations.{within_or_past}
use Rattle.formula_ast.specs.declared.token.TokenKind.TheVariants as word
use Rattle.formula_ast.specs.Tokens.{kind_of}
use Rattle.formula_ast.specs.WellFormed.{AreWords, AreDistinct}
use Rattle.formula_printer.specs.Bound.{bound_names}
use Rattle.formula_printer.proofs.Rising.{bound_rise, bound_count, rising_words, rising_distinct}
use Rattle.explicit_form.proofs.Walking.{all_left}

-- ---- two lists in the other order

got_left : (xs ys : List (List ℕ)) (i : ℕ) → i < length xs → slice_get (xs ++ ys) i ≡ slice_get xs i
got_left [] ys i less = absurd (omega arith)
got_left (x ∷ xs) ys zero less = refl
got_left (x ∷ xs) ys (suc i) less = got_left xs ys i (omega arith)

got_right : (xs ys : List (List ℕ)) (i : ℕ) → slice_get (xs ++ ys) (length xs + i) ≡ slice_get ys i
got_right [] ys i = let e : 0 + i ≡ i = omega arith in ap (slice_get ys) e
got_right (x ∷ xs) ys i = let e : suc (length xs) + i ≡ suc (length xs + i) = omega arith in ap (slice_get (x ∷ (xs ++ ys))) e ∙ got_right xs ys i

pub names_words : (names : List (List ℕ)) (n : ℕ) → AreWords word.Variable names → AreWords word.Variable (names ++ bound_names names n)
names_words names n words =
    All-append (λ text. kind_of text ≡ Some word.Variable) names (bound_names names n) words
    (all_left (λ text. kind_of text ≡ Some word.Variable) (bound_names names n) names (rising_words (bound_rise names n) words))

pub bound_many : (names : List (List ℕ)) (n : ℕ) → length (bound_names names n) ≡ n
bound_many names n = bound_count names n

past_end : (xs : List (List ℕ)) (i : ℕ) (text : List ℕ) → slice_get xs i ≡ Some text → i < length xs
past_end [] i text got = absurd (cc got)
past_end (x ∷ xs) zero text got = omega arith
past_end (x ∷ xs) (suc i) text got = omega (arith, past_end xs i text got)

turned : (xs ys : List (List ℕ)) → AreDistinct (xs ++ ys) → AreDistinct (ys ++ xs)
turned xs ys distinct text i j at_i at_j = by (within_or_past i (length ys)) (within_or_past j (length ys))
  where
    first : (k : ℕ) → k < length ys → slice_get (ys ++ xs) k ≡ Some text → slice_get (xs ++ ys) (length xs + k) ≡ Some text
    first k less got = got_right xs ys k ∙ sym (got_left ys xs k less) ∙ got

    second : (k : ℕ) → slice_get (ys ++ xs) (length ys + k) ≡ Some text → slice_get (xs ++ ys) k ≡ Some text
    second k got =
        let here : slice_get xs k ≡ Some text = sym (got_right ys xs k) ∙ got in
        got_left xs ys k (past_end xs k text here) ∙ here

    short : (k : ℕ) → slice_get (ys ++ xs) (length ys + k) ≡ Some text → k < length xs
    short k got = past_end xs k text (sym (got_right ys xs k) ∙ got)

    behind : (k : ℕ) → length ys ≤ k → slice_get (ys ++ xs) k ≡ Some text → slice_get (ys ++ xs) (length ys + (k - length ys)) ≡ Some text
    behind k le got = let e : length ys + (k - length ys) ≡ k = omega arith in ap (slice_get (ys ++ xs)) e ∙ got

    by : (i < length ys) ⊎ (length ys ≤ i) → (j < length ys) ⊎ (length ys ≤ j) → i ≡ j
    by (inl p) (inl q) = let e = distinct text (length xs + i) (length xs + j) (first i p at_i) (first j q at_j) in omega (arith, e)
    by (inl p) (inr q) =
        let there = behind j q at_j in
        let e = distinct text (length xs + i) (j - length ys) (first i p at_i) (second (j - length ys) there) in
        absurd (omega (arith, e, short (j - length ys) there))
    by (inr p) (inl q) =
        let there = behind i p at_i in
        let e = distinct text (i - length ys) (length xs + j) (second (i - length ys) there) (first j q at_j) in
        absurd (omega (arith, e, short (i - length ys) there))
    by (inr p) (inr q) =
        let e = distinct text (i - length ys) (j - length ys) (second (i - length ys) (behind i p at_i)) (second (j - length ys) (behind j q at_j)) in
        omega (arith, e)

pub names_distinct : (names : List (List ℕ)) (n : ℕ) → AreDistinct names → AreDistinct (names ++ bound_names names n)
names_distinct names n distinct = turned (bound_names names n) names (rising_distinct (bound_rise names n) distinct)
