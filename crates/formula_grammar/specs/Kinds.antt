-- Why a word, or the end, has a fault of each kind that looks at declarations or limits.
use Rattle.std.specs.Prelude.{◌≡◌, ◌≢◌, ℕ, ◌≤◌, ◌<◌, ◌⊎◌, true, false, List, [], ◌∷◌, length, Option, Some, None}
use Rattle.tree_model.specs.declared.kind.Kind.{Kind}
use Rattle.tree_model.specs.declared.kind.Kind.TheVariants as kind
use Rattle.formula_ast.specs.Tokens.{Stream, end, bad, token, Word}
use Rattle.formula_grammar.specs.declared.fault.Fault.{Fault}
use Rattle.formula_grammar.specs.declared.fault.FaultKind.{FaultKind}
use Rattle.formula_grammar.specs.declared.fault.FaultKind.TheVariants.{Unknown, Twice, Loose, Arity, Sort, Limit}
use Rattle.formula_grammar.specs.Limits.{longest_name, most_arguments, most_parameters, most_symbols, most_predicates, greatest_index, most_moves, deepest_nesting, most_joints}
use Rattle.formula_grammar.specs.Written.{Text, named, further}
use Rattle.formula_grammar.specs.Words.{word_of}
use Rattle.formula_grammar.specs.Machine.{Stack, Role, opens, declares, has_arity, declares_predicate, has_parameter, joins, binds, stands, heads, begins_atom, opens_arguments, no_arguments, separates, closes, compares, stands_alone, plays, counts, Move, refused, goes, step, at_end}
use Rattle.formula_grammar.specs.Checks.{Environment, declared, arity_in, count_of, is_among, value_of, index_of, update, update_all, rank}
use Rattle.formula_grammar.specs.Begins.{BeginsWith}

-- the name is declared as this
abbrev pub IsA : Kind → Environment → Text → Type 0
IsA kind E f = (n : ℕ) × (declared E.signature f ≡ Some (kind, n))

abbrev pub IsLong : Text → Type 0
IsLong text = longest_name < length text

-- for each kind, what is wrong with a word in a role
abbrev pub Why : FaultKind → Environment → Role → Type 0
-- a name that is used is not declared
Why Unknown E (heads (named f)) = declared E.signature f ≡ None
Why Unknown E (begins_atom f) = declared E.signature f ≡ None
Why Unknown E (plays p) = declared E.signature p ≡ None
-- a name that is being declared is declared, or a parameter stands earlier in its list
Why Twice E (declares f) = declared E.signature f ≢ None
Why Twice E (declares_predicate p) = declared E.signature p ≢ None
Why Twice E (has_parameter x xs) = is_among x xs ≡ true
-- a variable is not bound where it has to be
Why Loose E (stands x c) = (c.closed ≡ true) × (is_among x c.bound ≡ false)
-- a name has another number of arguments
Why Arity E (plays p) = (n : ℕ) × (declared E.signature p ≡ Some (kind.Pred, n)) × (n ≢ 2)
Why Arity E (opens_arguments (named f)) = arity_in (declared E.signature f) ≡ 0
Why Arity E (no_arguments (named f)) = 0 < arity_in (declared E.signature f)
Why Arity E (separates (named f) n) = arity_in (declared E.signature f) ≤ n
Why Arity E (closes (named f) n) = n < arity_in (declared E.signature f)
-- a predicate stands as a symbol, or a symbol as a predicate
Why Sort E (heads (named f)) = IsA kind.Pred E f
Why Sort E (compares f) = IsA kind.Pred E f
Why Sort E (stands_alone f) = IsA kind.Symbol E f
Why Sort E (plays p) = IsA kind.Symbol E p
-- a limit is passed
Why Limit E (opens n) = deepest_nesting < n
Why Limit E (declares f) = IsLong f ⊎ (most_symbols ≤ count_of kind.Symbol E.signature)
Why Limit E (has_arity f digits) = most_arguments < value_of digits
Why Limit E (declares_predicate p) = IsLong p ⊎ (most_predicates ≤ count_of kind.Pred E.signature)
Why Limit E (has_parameter x xs) = IsLong x ⊎ (most_parameters ≤ length xs)
Why Limit E joins = most_joints ≤ E.joints
Why Limit E (binds x) = IsLong x ⊎ (most_joints ≤ E.joints)
Why Limit E (stands x c) = IsLong x
Why Limit E (heads (named f)) = IsLong f
Why Limit E (heads (further i)) = greatest_index < index_of i
Why Limit E (begins_atom f) = IsLong f
Why Limit E (separates (further i) n) = most_arguments ≤ n
Why Limit E (plays p) = IsLong p
Why Limit E (counts digits) = most_moves < value_of digits
Why kind E role = ⊥

-- something of this kind is wrong with a word in these roles, one after another
abbrev pub Finds : FaultKind → Environment → List Role → Type 0
Finds kind E [] = ⊥
Finds kind E (role ∷ roles) = Why kind E role ⊎ Finds kind (update E role) roles

-- and this kind is the first of those that are
pub record IsFirstOf (kind : FaultKind) (E : Environment) (roles : List Role) : Type 0 where
  pub found : Finds kind E roles
  pub first : (other : FaultKind) → Finds other E roles → rank kind ≤ rank other

-- what is declared and what is expected behind words, whatever is wrong with them
abbrev pub behind_move : (Environment → Stack → Option (Environment × Stack)) → Environment → Move → Option (Environment × Stack)
behind_move later E refused = None
behind_move later E (goes roles s) = later (update_all E roles) s

abbrev pub behind_words : Environment → Stack → List Word → Option (Environment × Stack)
behind_words E s [] = Some (E, s)
behind_words E s (w ∷ ws) = behind_move (λ F u. behind_words F u ws) E (step s w)

-- the place and the roles of the next token, or of the end
abbrev pub offset_of : Stream → ℕ
offset_of (end at) = at
offset_of (bad at) = at
offset_of (token t more) = t.from

abbrev pub move_roles : Move → Option (List Role)
move_roles refused = None
move_roles (goes roles s) = Some roles

abbrev pub next_roles : List ℕ → Stack → Stream → Option (List Role)
next_roles bytes s (end at) = at_end s
next_roles bytes s (bad at) = None
next_roles bytes s (token t more) = move_roles (step s (word_of bytes t))

-- The fault stands at the token, or the end, that comes behind these words, and it is the first kind of what is wrong with
-- it.
pub record StandsBehind (E : Environment) (s : Stack) (bytes : List ℕ) (tokens : Stream) (fault : Fault) : Type 0 where
  pub before : List Word
  pub next : Stream
  pub tokens_are : BeginsWith bytes tokens before next
  pub environment : Environment
  pub expected : Stack
  pub reached : behind_words E s before ≡ Some (environment, expected)
  pub roles : List Role
  pub roles_are : next_roles bytes expected next ≡ Some roles
  pub kind : IsFirstOf fault.kind environment roles
  pub offset : fault.offset ≡ offset_of next
