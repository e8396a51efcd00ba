-- Where a name stands in a list of names.
use Rattle.std.proofs.Common.{◌≡◌, ℕ, zero, suc, ◌+◌, ◌<◌, ◌≤◌, Bool, true, false, cond, not, nat_lt, List, [], ◌∷◌, length, get_or, ◌||◌, Some, None, refl, sym, ◌∙◌, arith, lt-ltb, Contains}
use Rattle.std.specs.Prelude.{position}
use Rattle.std.specs.Str.{bytes_eq}
use Rattle.std.specs.List.{list_any, position_or_len}
use Rattle.std.specs.Option.{is_some}
use Rattle.std.proofs.lemmas.Bool.Decides.{nat_tests}
use Rattle.std.proofs.lemmas.List.Quantifiers.{position-Some}
use Rattle.std.proofs.lemmas.Option.{none-some}
use Rattle.std.proofs.lemmas.Slice.Eq.{bytes_eq-Decides}

-- a name that is found is there
pub found_is_there : (names : List (List ℕ)) (x : List ℕ) (i : ℕ) → position (λ name. bytes_eq name x) names ≡ Some i → Contains names x
found_is_there names x i found =
    let at = position-Some (λ name. bytes_eq name x) names i x found in
    (i, at.0, (bytes_eq-Decides (get_or names i x) x).0 at.1)

not_after : (b : Bool) (m k : ℕ) → m ≤ k → cond (not b) (1 + m) 0 ≤ suc k
not_after true m k le = omega arith
not_after false m k le = omega arith

position_le : (p : List ℕ → Bool) (names : List (List ℕ)) (x : List ℕ) (k : ℕ) → k < length names → p (get_or names k x) ≡ true → position_or_len p names ≤ k
position_le p [] x k within passes = absurd (omega arith)
position_le p (name ∷ names) x zero within passes = rw passes (omega arith)
position_le p (name ∷ names) x (suc k) within passes = not_after (p name) _ k (position_le p names x k (omega arith) passes)

-- a name that is there is found
pub there_is_found : (names : List (List ℕ)) (x : List ℕ) → position (λ name. bytes_eq name x) names ≡ None → ¬ Contains names x
there_is_found names x absent (k, within, is) =
    let first = position_or_len (λ name. bytes_eq name x) names in
    let before : first ≤ k = position_le (λ name. bytes_eq name x) names x k within ((bytes_eq-Decides (get_or names k x) x).1 is) in
    let found : position (λ name. bytes_eq name x) names ≡ Some first = rw (lt-ltb first (length names) (omega arith)) in
    none-some first (sym absent ∙ found)

-- an element passes where a first one is found
any_position : {A : Type 0} (p : A → Bool) (xs : List A) → list_any p xs ≡ nat_lt (position_or_len p xs) (length xs)
any_position p [] = refl
any_position p (x ∷ xs) = by_test (p x) (position_or_len p xs) (any_position p xs)
  where
    by_test : (b : Bool) (m : ℕ) → list_any p xs ≡ nat_lt m (length xs) → (b || list_any p xs) ≡ nat_lt (cond (not b) (1 + m) 0) (suc (length xs))
    by_test true m same = grind (arith, nat_tests)
    by_test false m same = grind (arith, nat_tests)

found_tells : {A : Type 0} (b : Bool) (x : A) → is_some (cond b (Some x) None) ≡ b
found_tells true x = refl
found_tells false x = refl

pub found_any : {A : Type 0} (p : A → Bool) (xs : List A) → is_some (position p xs) ≡ list_any p xs
found_any p xs = found_tells _ (position_or_len p xs) ∙ sym (any_position p xs)
