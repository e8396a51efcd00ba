-- How a statement's variables are kept: the names, the numbers of those that are bound, and how often each is.
use Rattle.std.specs.Prelude.{◌≡◌, ◌+◌, ◌≤◌, ◌<◌, ℕ, cond, List, [], ◌∷◌, length, map, get_or, slice_index, position, All, Some, String, string_bytes, nat_eq}
use Rattle.std.specs.Str.{bytes_eq}
use Rattle.std.specs.declared.alloc.Global.{Global}
use Rattle.formula_grammar.specs.Written.{Text}
use Rattle.formula_reader.specs.Input.{Scope}

abbrev pub texts_of : List (String Global) → List Text
texts_of keys = map (λ text. string_bytes text) keys

-- the name with a number
abbrev pub name_at : List Text → ℕ → Text
name_at names n = get_or names n []

abbrev pub scope_of : List Text → List ℕ → Scope
scope_of names bound = record { names = names; bound = map (name_at names) bound }

-- how often n stands in a list
abbrev pub times : ℕ → List ℕ → ℕ
times n [] = 0
times n (m ∷ ms) = cond (nat_eq n m) 1 0 + times n ms

-- each number that is bound is that of its name, and each name is counted as often as its number stands there
pub record IsCounted (names : List Text) (counts bound : List ℕ) : Type 0 where
  pub enough : length names ≤ length counts
  pub numbers : All (λ n. position (λ other. bytes_eq other (name_at names n)) names ≡ Some n) bound
  pub counted : (n : ℕ) → n < length counts → slice_index counts n ≡ times n bound
