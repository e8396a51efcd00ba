-- The number of a variable stays the same whatever names are added behind it.
use Rattle.std.proofs.Common.{◌≡◌, ℕ, suc, ◌+◌, ◌<◌, ◌≤◌, Bool, true, false, cond, not, nat_lt, List, [], ◌∷◌, ◌++◌, length, Some, None, refl, sym, ap, ◌∙◌, arith, lt-ltb, length-append, append_assoc}
use Rattle.std.specs.Prelude.{position, unwrap_or, if◌then◌else◌}
use Rattle.std.specs.Str.{bytes_eq}
use Rattle.std.specs.List.{position_or_len}
use Rattle.std.specs.Option.{is_some}
use Rattle.std.proofs.lemmas.Bool.Decides.{nat_tests}
use Rattle.std.proofs.lemmas.Slice.Eq.{bytes_eq-Decides}
use Rattle.formula_grammar.specs.Written.{Text}
use Rattle.formula_grammar.specs.Meaning.{number_in, first_occurrences}
use Rattle.formula_reader.proofs.Finding.{found_any}

within_stays : (b : Bool) (m k n : ℕ) → cond (not b) (1 + m) 0 < suc n → (m < n → k ≡ m) → cond (not b) (1 + k) 0 ≡ cond (not b) (1 + m) 0
within_stays true m k n within more = refl
within_stays false m k n within more = ap (λ j. 1 + j) (more (omega arith))

position_stays : (p : Text → Bool) (xs ys : List Text) → position_or_len p xs < length xs → position_or_len p (xs ++ ys) ≡ position_or_len p xs
position_stays p [] ys within = absurd (omega arith)
position_stays p (x ∷ xs) ys within =
    within_stays (p x) (position_or_len p xs) (position_or_len p (xs ++ ys)) (length xs) within (position_stays p xs ys)

behind_all : (b : Bool) (m k n : ℕ) → suc n ≤ cond (not b) (1 + m) 0 → (n ≤ m → k ≡ n) → cond (not b) (1 + k) 0 ≡ suc n
behind_all true m k n past more = absurd (omega arith)
behind_all false m k n past more = let same = more (omega arith) in omega arith

position_behind : (p : Text → Bool) (xs ys : List Text) (x : Text) → length xs ≤ position_or_len p xs → p x ≡ true → position_or_len p (xs ++ x ∷ ys) ≡ length xs
position_behind p [] ys x past passes = rw passes refl
position_behind p (y ∷ xs) ys x past passes =
    behind_all (p y) (position_or_len p xs) (position_or_len p (xs ++ x ∷ ys)) (length xs) past (λ more. position_behind p xs ys x more passes)

some_tells : (b : Bool) (m i : ℕ) → cond b (Some m) None ≡ Some i → (b ≡ true) × (m ≡ i)
some_tells true m i h = (refl, cc)
some_tells false m i h = cc

none_tells : (b : Bool) (m : ℕ) → cond b (Some m) None ≡ None → b ≡ false
none_tells true m h = cc
none_tells false m h = refl

lt_true : (m n : ℕ) → nat_lt m n ≡ true → m < n
lt_true m n h = grind (arith, nat_tests)

lt_false : (m n : ℕ) → nat_lt m n ≡ false → n ≤ m
lt_false m n h = grind (arith, nat_tests)

-- the number of a name at its first place
number_at : (names : List Text) (x : Text) (i : ℕ) → position_or_len (λ n. bytes_eq n x) names ≡ i → i < length names → number_in names x ≡ i
number_at names x i at within =
    let found : nat_lt (position_or_len (λ n. bytes_eq n x) names) (length names) ≡ true = lt-ltb _ _ (omega arith) in
    ap (λ b. unwrap_or (cond b (Some (position_or_len (λ n. bytes_eq n x) names)) None) 0) found ∙ at

module _ (names : List Text) (x : Text) where
  pub number_kept : (i : ℕ) → position (λ n. bytes_eq n x) names ≡ Some i → (more : List Text) → number_in (names ++ more) x ≡ i
  number_kept i found more =
      let tells = some_tells _ _ i found in
      let within : position_or_len (λ n. bytes_eq n x) names < length names = lt_true _ _ tells.0 in
      let stays = position_stays (λ n. bytes_eq n x) names more within in
      number_at (names ++ more) x i (stays ∙ tells.1) (omega (arith, length-append names more, tells.1))

  pub number_new : position (λ n. bytes_eq n x) names ≡ None → (more : List Text) → number_in ((names ++ x ∷ []) ++ more) x ≡ length names
  number_new absent more =
      let past : length names ≤ position_or_len (λ n. bytes_eq n x) names = lt_false _ _ (none_tells _ _ absent) in
      let behind = position_behind (λ n. bytes_eq n x) names more x past ((bytes_eq-Decides x x).1 refl) in
      ap (λ l. number_in l x) (append_assoc names (x ∷ []) more)
      ∙ number_at (names ++ x ∷ more) x (length names) behind (omega (arith, length-append names (x ∷ more)))

  -- a name that is there is not added, and one that is not there stands last
  pub kept_as_they_are : (i : ℕ) → position (λ n. bytes_eq n x) names ≡ Some i → first_occurrences names (x ∷ []) ≡ names
  kept_as_they_are i found =
      ap (λ b. if b then names else names ++ x ∷ []) (sym (found_any (λ n. bytes_eq n x) names) ∙ ap is_some found)

  pub added_last : position (λ n. bytes_eq n x) names ≡ None → first_occurrences names (x ∷ []) ≡ names ++ x ∷ []
  added_last absent =
      ap (λ b. if b then names else names ++ x ∷ []) (sym (found_any (λ n. bytes_eq n x) names) ∙ ap is_some absent)

-- where a name that is found stands, whatever stands behind the names
pub found_kept : (names : List Text) (x : Text) (i : ℕ) → position (λ n. bytes_eq n x) names ≡ Some i → (more : List Text)
    → position (λ n. bytes_eq n x) (names ++ more) ≡ Some i
found_kept names x i found more =
    let tells = some_tells _ _ i found in
    let within : position_or_len (λ n. bytes_eq n x) names < length names = lt_true _ _ tells.0 in
    let stays = position_stays (λ n. bytes_eq n x) names more within in
    rw (lt-ltb (position_or_len (λ n. bytes_eq n x) (names ++ more)) (length (names ++ more)) (omega (arith, stays, within, length-append names more))) (ap (λ n. Some n) (stays ∙ tells.1))

-- a new name is found behind the others
pub found_new : (names : List Text) (x : Text) → position (λ n. bytes_eq n x) names ≡ None → position (λ n. bytes_eq n x) (names ++ x ∷ []) ≡ Some (length names)
found_new names x absent =
    let past : length names ≤ position_or_len (λ n. bytes_eq n x) names = lt_false _ _ (none_tells _ _ absent) in
    let behind = position_behind (λ n. bytes_eq n x) names [] x past ((bytes_eq-Decides x x).1 refl) in
    rw (lt-ltb (position_or_len (λ n. bytes_eq n x) (names ++ x ∷ [])) (length (names ++ x ∷ [])) (omega (arith, behind, length-append names (x ∷ [])))) (ap (λ n. Some n) behind)
