-- What stands at the front of a text, by its first byte.
use Rattle.std.proofs.Common.{◌≡◌, ℕ, zero, suc, ◌+◌, ◌≤◌, ◌<◌, Bool, true, false, List, [], ◌∷◌, take, drop, length, get_or, Option, Some, None, unwrap_or, refl, sym, ◌∙◌, ap, arith, one-add, add-one}
use Rattle.std.specs.Option.{option_map, option_or}
use Rattle.std.specs.List.{prefix_len, list_all}
use Rattle.std.specs.Char.{is_ascii_digit, is_ascii_lowercase, is_ascii_uppercase}
use Rattle.std.proofs.lemmas.List.{length-take-le}
use Rattle.std.proofs.lemmas.List.Sums.{prefix_len-le-length}
use Rattle.formula_ast.specs.declared.token.TokenKind.{TokenKind}
use Rattle.formula_ast.specs.declared.token.TokenKind.TheVariants as k
use Rattle.formula_ast.specs.Tokens.{is_word_byte, is_number, kind_in, kind_of, reserved, marks, front}
use Rattle.formula_tokens.specs.Fronts.{begins_word}
use Rattle.formula_tokens.proofs.Longest.{front_is, front_none, front_cut}
use Rattle.formula_tokens.proofs.Runs.{run_passes, run_ends}
use Rattle.formula_tokens.proofs.Texts.{small, capital, name, no_name, variable, no_variable, number, no_number, further, mark, no_long_mark, no_third}

-- a first byte and a run behind it
run_front : (p : ℕ → Bool) (b : ℕ) (t : List ℕ) (kind : TokenKind) → kind_of (b ∷ take (prefix_len p t) t) ≡ Some kind
    → ((m : ℕ) → list_all p (take m t) ≡ false → kind_of (b ∷ take m t) ≡ None) → front (b ∷ t) ≡ Some (kind, suc (prefix_len p t))
run_front p b t kind whole longer =
    front_is (b ∷ t) kind (suc (prefix_len p t)) whole (omega arith) (omega (arith, prefix_len-le-length p t)) (record { none = none })
  where
    none : (m : ℕ) → suc (prefix_len p t) < m → m ≤ length (b ∷ t) → kind_of (take m (b ∷ t)) ≡ None
    none zero h l = absurd (omega arith)
    none (suc m) h l = let less : prefix_len p t < m = omega arith in longer m (run_ends p t m less (omega arith))

run_len : (p : ℕ → Bool) (b : ℕ) (t : List ℕ) → p b ≡ true → prefix_len p (b ∷ t) ≡ suc (prefix_len p t)
run_len p b t e = rw (e, one-add) refl

pub word_begins : (bs : List ℕ) → is_ascii_lowercase (get_or bs 0 0) ≡ true → (n : ℕ) → n ≡ prefix_len (λ c. is_word_byte c) bs
    → front bs ≡ Some (unwrap_or (kind_in reserved (take n bs)) k.Name, n)
word_begins [] h n e = absurd (cc)
word_begins (b ∷ t) h n e =
    let p : ℕ → Bool = λ c. is_word_byte c in
    let len : n ≡ suc (prefix_len p t) = e ∙ run_len p b t (small b h).0 in
    rw len (run_front p b t _ (name b _ h (run_passes p t)) (λ m. no_name b (take m t) h))

pub variable_begins : (bs : List ℕ) → is_ascii_uppercase (get_or bs 0 0) ≡ true → front bs ≡ Some (k.Variable, prefix_len (λ c. is_word_byte c) bs)
variable_begins [] h = absurd (cc)
variable_begins (b ∷ t) h =
    let p : ℕ → Bool = λ c. is_word_byte c in
    run_front p b t _ (variable b _ h (run_passes p t)) (λ m. no_variable b (take m t) h)
    ∙ ap (λ n. Some (k.Variable, n)) (sym (run_len p b t (capital b h).0))

pub number_begins : (bs : List ℕ) → is_ascii_digit (get_or bs 0 0) ≡ true → front bs ≡ Some (k.Number, prefix_len (λ c. is_ascii_digit c) bs)
number_begins [] h = absurd (cc)
number_begins (b ∷ t) h =
    let p : ℕ → Bool = λ c. is_ascii_digit c in
    run_front p b t _ (number b _ h (run_passes p t)) (λ m. no_number b (take m t) h)
    ∙ ap (λ n. Some (k.Number, n)) (sym (run_len p b t h))

-- a number is a run of digits that is not empty
number_list : (t : List ℕ) → 0 < length t → is_number t ≡ list_all (λ c. is_ascii_digit c) t
number_list [] h = absurd (omega arith)
number_list (b ∷ t) h = refl

no_number_text : (t : List ℕ) → list_all (λ c. is_ascii_digit c) t ≡ false → is_number t ≡ false
no_number_text [] h = refl
no_number_text (b ∷ t) h = h

further_found : (t : List ℕ) → is_number t ≡ true → kind_of (36 ∷ t) ≡ Some k.Further
further_found t h = further t ∙ rw h refl

no_further : (t : List ℕ) → is_number t ≡ false → kind_of (36 ∷ t) ≡ None
no_further t h = further t ∙ rw h refl

pub further_begins : (bs : List ℕ) (n : ℕ) → get_or bs 0 0 ≡ 36 → n ≡ prefix_len (λ c. is_ascii_digit c) (drop 1 bs) → 0 < n → front bs ≡ Some (k.Further, n + 1)
further_begins [] n h e some = absurd (cc)
further_begins (b ∷ t) n h e some =
    let p : ℕ → Bool = λ c. is_ascii_digit c in
    let within : prefix_len p t ≤ length t = prefix_len-le-length p t in
    let len : length (take (prefix_len p t) t) ≡ prefix_len p t = length-take-le (prefix_len p t) t within in
    let digits : is_number (take (prefix_len p t) t) ≡ true = number_list (take (prefix_len p t) t) (omega (arith, len)) ∙ run_passes p t in
    rw (h, add-one, e) (run_front p 36 t _ (further_found _ digits) (λ m no_run. no_further (take m t) (no_number_text (take m t) no_run)))

pub no_further_begins : (bs : List ℕ) → get_or bs 0 0 ≡ 36 → prefix_len (λ c. is_ascii_digit c) (drop 1 bs) ≡ 0 → front bs ≡ None
no_further_begins [] h e = absurd (cc)
no_further_begins (b ∷ t) h e = rw h (front_none (36 ∷ t) (record { none = none }))
  where
    none : (m : ℕ) → 0 < m → m ≤ length (36 ∷ t) → kind_of (take m (36 ∷ t)) ≡ None
    none zero h l = absurd (omega arith)
    none (suc zero) h l = no_further [] refl
    none (suc (suc m)) h l = no_further (take (suc m) t)
        (no_number_text (take (suc m) t) (run_ends (λ c. is_ascii_digit c) t (suc m) (omega arith) (omega arith)))

-- the mark at the front of a text that begins with these three bytes, of which those past the end are 0
abbrev mark_of : ℕ → ℕ → ℕ → Option (TokenKind × ℕ)
mark_of a b c =
    option_or (option_map (λ kind. (kind, 3)) (kind_in marks (a ∷ b ∷ c ∷ [])))
    (option_or (option_map (λ kind. (kind, 2)) (kind_in marks (a ∷ b ∷ [])))
    (option_or (option_map (λ kind. (kind, 1)) (kind_in marks (a ∷ []))) None))

mark_begins : (bs : List ℕ) → begins_word (get_or bs 0 0) ≡ false → front bs ≡ mark_of (get_or bs 0 0) (get_or bs 1 0) (get_or bs 2 0)
unfolding front
mark_begins [] h = refl
mark_begins (a ∷ []) h = rw (mark a [] h, no_third a 0 []) refl
mark_begins (a ∷ b ∷ []) h = rw (mark a (b ∷ []) h, mark a [] h, no_third a b []) refl
mark_begins (a ∷ b ∷ c ∷ t) h =
    front_cut (a ∷ b ∷ c ∷ t) 3 (record { none = none }) (omega arith)
    ∙ rw (mark a (b ∷ c ∷ []) h, mark a (b ∷ []) h, mark a [] h) refl
  where
    none : (m : ℕ) → 3 < m → m ≤ length (a ∷ b ∷ c ∷ t) → kind_of (take m (a ∷ b ∷ c ∷ t)) ≡ None
    none zero h l = absurd (omega arith)
    none (suc m) more l =
        let len : length (take (suc m) (a ∷ b ∷ c ∷ t)) ≡ suc m = length-take-le (suc m) (a ∷ b ∷ c ∷ t) l in
        no_long_mark a (take m (b ∷ c ∷ t)) h (omega (arith, len))

module _ (bs : List ℕ) (a b c : ℕ) (h : begins_word (get_or bs 0 0) ≡ false) (first : a ≡ get_or bs 0 0) (second : b ≡ get_or bs 1 0) (third : c ≡ get_or bs 2 0) where
  begins : front bs ≡ mark_of a b c
  begins = rw (first, second, third) (mark_begins bs h)

  pub mark_of_three : (kind : TokenKind) → kind_in marks (a ∷ b ∷ c ∷ []) ≡ Some kind → Some (kind, 3) ≡ front bs
  mark_of_three kind e = sym (begins ∙ rw e refl)

  pub mark_of_two : (kind : TokenKind) → kind_in marks (a ∷ b ∷ c ∷ []) ≡ None → kind_in marks (a ∷ b ∷ []) ≡ Some kind → Some (kind, 2) ≡ front bs
  mark_of_two kind e3 e = sym (begins ∙ rw (e3, e) refl)

  pub mark_of_one : (found : Option TokenKind) → kind_in marks (a ∷ b ∷ c ∷ []) ≡ None → kind_in marks (a ∷ b ∷ []) ≡ None
      → kind_in marks (a ∷ []) ≡ found → option_map (λ kind. (kind, 1)) found ≡ front bs
  mark_of_one found e3 e2 e = sym (begins ∙ rw (e3, e2, e) (plain found))
    where
      plain : (found : Option TokenKind) → option_or {T = TokenKind × ℕ} (option_map (λ kind. (kind, 1)) found) None ≡ option_map (λ kind. (kind, 1)) found
      plain None = refl
      plain (Some kind) = refl
