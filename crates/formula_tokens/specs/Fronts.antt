-- What the first byte of a text tells of the token there.
use Rattle.std.specs.Prelude.{ℕ, Bool, ◌||◌, ◌==◌}
use Rattle.std.specs.Char.{is_ascii_digit, is_ascii_lowercase, is_ascii_uppercase}
use Rattle.formula_ast.specs.Tokens.{is_blank}

-- a blank or the beginning of a comment
abbrev pub separates : ℕ → Bool
separates b = is_blank b || b == 37

-- a letter, a digit or `$`: the tokens that begin with one are no marks
abbrev pub begins_word : ℕ → Bool
begins_word b = is_ascii_lowercase b || is_ascii_uppercase b || is_ascii_digit b || b == 36
