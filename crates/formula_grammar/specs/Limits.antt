-- The limits on sizes and numbers.
use Rattle.std.specs.Prelude.{ℕ}

-- how many bytes a text may have, and how many a name or a variable
abbrev pub most_bytes : ℕ
most_bytes = 1048576

abbrev pub longest_name : ℕ
longest_name = 64

-- how many arguments a declared name or a further symbol may have
abbrev pub most_arguments : ℕ
most_arguments = 8

-- how many parameters a predicate may have
abbrev pub most_parameters : ℕ
most_parameters = 16

-- how many symbols and how many predicates may be declared
abbrev pub most_symbols : ℕ
most_symbols = 4096

abbrev pub most_predicates : ℕ
most_predicates = 1024

-- the greatest index of a further symbol: that of 64 bits
abbrev pub greatest_index : ℕ
greatest_index = 18446744073709551615

-- how many moves `win` may speak of
abbrev pub most_moves : ℕ
most_moves = 1000

-- how many nestings may stand within one another
abbrev pub deepest_nesting : ℕ
deepest_nesting = 200

-- how many `&`, `|` and variables in quantifiers' lists a statement may have
abbrev pub most_joints : ℕ
most_joints = 1000
