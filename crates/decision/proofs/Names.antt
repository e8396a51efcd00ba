-- The free variables by rank are distinct, and so are their names.
use Rattle.std.proofs.Common.{◌≡◌, ℕ, zero, suc, ◌+◌, ◌<◌, Bool, true, false, cond, not, ◌==◌, List, [], ◌∷◌, ◌++◌, length, take, get_or, slice_get, Some, All, Contains, refl, sym, ap, ◌∙◌, subst, arith}
use Rattle.std.proofs.lemmas.List.{length-map}
use Rattle.std.proofs.lemmas.List.Elements.{All-nil, All-cons, All-head, All-tail, All-get_or}
use Rattle.std.proofs.lemmas.Option.{same_Some, slice_get_within, slice_get-get_or}
use Rattle.lists.specs.Distinct.{IsDistinct}
use Rattle.formula_ast.specs.declared.token.TokenKind.{TokenKind}
use Rattle.formula_ast.specs.Occurrences.{without, first_occurrences}
use Rattle.formula_ast.specs.Tokens.{kind_of}
use Rattle.formula_ast.specs.WellFormed.{AreWords, AreDistinct}
use Rattle.formula_ast.proofs.Standing.{contained, from_contained, has_without}
use Rattle.explicit_form.proofs.Joined.{map_more}
use Rattle.decision.proofs.Lists.{stands_at}
use Rattle.decision.specs.Naming.{names_at}

without_distinct : (y : ℕ) (xs : List ℕ) → IsDistinct xs → IsDistinct (without y xs)
without_distinct y [] d = tt
without_distinct y (x ∷ xs) d = by (without_distinct y xs d.1) (y == x)
  where
    by : IsDistinct (without y xs) → (b : Bool) → IsDistinct (cond (not b) (x ∷ without y xs) (without y xs))
    by rest true = rest
    by rest false = (λ c. d.0 (contained x xs (has_without x y xs (from_contained x (without y xs) c)).1), rest)

-- each item stands once among the first occurrences
pub first_distinct : (xs : List ℕ) → IsDistinct (first_occurrences xs)
first_distinct [] = tt
first_distinct (x ∷ xs) = (
  λ c. (has_without x x (first_occurrences xs) (from_contained x (without x (first_occurrences xs)) c)).0 refl,
  without_distinct x (first_occurrences xs) (first_distinct xs),
)

-- ---- names

-- names stay variables as they are written
pub names_are_words : (kind : TokenKind) (names : List (List ℕ)) (ranks : List ℕ) → AreWords kind names → All (λ x. x < length names) ranks → AreWords kind (names_at names ranks)
names_are_words kind names [] words within = All-nil (λ text. kind_of text ≡ Some kind)
names_are_words kind names (x ∷ ranks) words within =
    All-cons (λ text. kind_of text ≡ Some kind) (get_or names x []) (names_at names ranks)
    (All-get_or (λ text. kind_of text ≡ Some kind) names x [] (All-head (λ y. y < length names) x ranks within) words)
    (names_are_words kind names ranks words (All-tail (λ y. y < length names) x ranks within))

-- the name at a place is that of a variable there
name_there : (names : List (List ℕ)) (ranks : List ℕ) → All (λ x. x < length names) ranks → (i : ℕ) (text : List ℕ) → slice_get (names_at names ranks) i ≡ Some text
    → (x : ℕ) × (slice_get ranks i ≡ Some x) × (slice_get names x ≡ Some text)
name_there names [] within i text is = absurd (omega (arith, slice_get_within [] i text is))
name_there names (x ∷ ranks) within zero text is =
    (x, refl, slice_get-get_or names x [] (All-head (λ y. y < length names) x ranks within) ∙ is)
name_there names (x ∷ ranks) within (suc i) text is = name_there names ranks (All-tail (λ y. y < length names) x ranks within) i text is

-- an item of a list without repeats has one place
one_place : (xs : List ℕ) → IsDistinct xs → (i j x : ℕ) → slice_get xs i ≡ Some x → slice_get xs j ≡ Some x → i ≡ j
one_place [] apart i j x at_i at_j = absurd (omega (arith, slice_get_within [] i x at_i))
one_place (y ∷ xs) apart zero zero x at_i at_j = refl
one_place (y ∷ xs) apart zero (suc j) x at_i at_j = absurd (apart.0 (subst (λ (z : ℕ). Contains xs z) (sym (same_Some y x at_i)) (stands_at xs j x at_j)))
one_place (y ∷ xs) apart (suc i) zero x at_i at_j = absurd (apart.0 (subst (λ (z : ℕ). Contains xs z) (sym (same_Some y x at_j)) (stands_at xs i x at_i)))
one_place (y ∷ xs) apart (suc i) (suc j) x at_i at_j = ap (λ k. suc k) (one_place xs apart.1 i j x at_i at_j)

-- distinct variables have distinct names
pub names_are_distinct : (names : List (List ℕ)) (ranks : List ℕ) → AreDistinct names → IsDistinct ranks → All (λ x. x < length names) ranks → AreDistinct (names_at names ranks)
names_are_distinct names ranks distinct apart within text i j at_i at_j =
    let (x, i_is, x_is) = name_there names ranks within i text at_i in
    let (y, j_is, y_is) = name_there names ranks within j text at_j in
    one_place ranks apart i j x i_is (subst (λ (z : ℕ). slice_get ranks j ≡ Some z) (distinct text y x y_is x_is) j_is)

pub length_names : (names : List (List ℕ)) (ranks : List ℕ) → length (names_at names ranks) ≡ length ranks
length_names names ranks = length-map ranks (λ x. get_or names x [])

-- the names of one more rank
pub names_more : (names : List (List ℕ)) (ranks : List ℕ) (i : ℕ) (found new : List (List ℕ)) (name : List ℕ) {items : List ℕ} → new ≡ found ++ name ∷ [] → found ≡ names_at names (take i ranks)
    → name ≡ get_or names (get_or items i 0) [] → items ≡ ranks → i < length items → new ≡ names_at names (take (i + 1) ranks)
names_more names ranks i found new name pushed before is same within =
    let got = slice_get-get_or ranks i 0 (omega (arith, within, ap (λ (l : List ℕ). length l) same)) in
    pushed ∙ ap (λ l. l ++ name ∷ []) before
    ∙ ap (λ x. names_at names (take i ranks) ++ x ∷ []) (is ∙ ap (λ (l : List ℕ). get_or names (get_or l i 0) []) same)
    ∙ sym (map_more (λ x. get_or names x []) ranks i (get_or ranks i 0) got)
