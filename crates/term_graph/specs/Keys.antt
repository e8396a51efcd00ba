-- When two keys are equal, and what stands under a key.
use Rattle.std.specs.Prelude.{◌&&◌, nat_eq, ℕ, Bool, false, List, Option}
use Rattle.std.specs.Cmp.Lexicographic.{pointwise}
use Rattle.std.specs.Map.{lookup}
use Rattle.tree_model.specs.declared.tree.Symbol.{Symbol}
use Rattle.tree_model.specs.declared.tree.Symbol.TheVariants as symbols
use Rattle.term_graph.specs.declared.key.Sign.{Sign}
use Rattle.term_graph.specs.declared.key.Sign.TheVariants.{Named, Further}
use Rattle.term_graph.specs.declared.key.Key.{Key}

-- the symbol as a part of a key
abbrev pub sign_of : Symbol → Sign
sign_of (symbols.Named place) = Named place
sign_of (symbols.Further index) = Further index

abbrev pub is_same_sign : Sign → Sign → Bool
is_same_sign (Named m) (Named n) = nat_eq m n
is_same_sign (Named m) (Further n) = false
is_same_sign (Further m) (Named n) = false
is_same_sign (Further m) (Further n) = nat_eq m n

-- whether the key has this symbol and these roots
abbrev pub is_key_of : Sign → List ℕ → Key → Bool
is_key_of sign keys k = is_same_sign sign k.sign && pointwise nat_eq keys k.args.items

abbrev pub is_same_key : Key → Key → Bool
is_same_key a b = is_key_of a.sign a.args.items b

-- what stands under the symbol with these roots
abbrev pub shared_at : List (Key × ℕ) → Symbol → List ℕ → Option ℕ
shared_at entries symbol keys = lookup (is_key_of (sign_of symbol) keys) entries
