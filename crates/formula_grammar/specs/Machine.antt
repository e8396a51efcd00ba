-- The stack machine of the grammar: what may still come, as a list of symbols, and how a word changes it. It looks one
-- word ahead and never goes back. A symbol knows where it stands, and each word has its roles there. There are two tables:
-- what comes in place of a symbol behind a word, and which symbols may be left out.
use Rattle.std.specs.Prelude.{ℕ, suc, nat_le, Bool, true, false, List, [], ◌∷◌, ◌++◌, length, Option, Some, None, if◌then◌else◌}
use Rattle.std.specs.Option.{option_map}
use Rattle.formula_ast.specs.declared.token.TokenKind.{TokenKind}
use Rattle.formula_ast.specs.declared.token.TokenKind.TheVariants as k
use Rattle.formula_ast.specs.Tokens.{Word}
use Rattle.formula_grammar.specs.Written.{Text, Head, named, further, Joint, and, or, imp, iff}
use Rattle.formula_grammar.specs.Words.{same, sign}
use Rattle.formula_grammar.specs.Grammar.{strength, right, Manner, declares_symbols, defines_predicate, asks, FileGrammar, opening}

-- Where a formula or a term stands: within how many nestings, which variables are bound there, and whether no other
-- may stand there.
pub record Place : Type 0 where
  pub depth : ℕ
  pub bound : List Text
  pub closed : Bool

abbrev pub deeper : Place → Place
deeper c = record c { depth = suc c.depth }

abbrev pub binding : Text → Place → Place
binding x c = record c { bound = c.bound ++ x ∷ [] }

-- the outermost place of a formula whose variables are free, and of one that may use these alone
abbrev pub open_place : Place
open_place = record { depth = 0; bound = []; closed = false }

abbrev pub closed_place : List Text → Place
closed_place xs = record { depth = 0; bound = xs; closed = true }

-- what a word is where it stands
pub data Role : Type 0 where
  -- it begins a formula's statement
  begins : Role
  -- it opens this nesting
  opens : ℕ → Role
  -- a symbol of this name is declared, and has as many arguments as the digits say
  declares : Text → Role
  has_arity : Text → Text → Role
  -- a predicate of this name is being declared, has this parameter behind these, and is declared with so many
  declares_predicate : Text → Role
  has_parameter : Text → List Text → Role
  ends_predicate : Text → ℕ → Role
  -- it is `&` or `|`, or a variable in a quantifier's list
  joins : Role
  binds : Text → Role
  -- it is a variable that stands as a term
  stands : Text → Place → Role
  -- it heads a term, or is a name that begins an atom
  heads : Head → Role
  begins_atom : Text → Role
  -- it opens the head's arguments, or does not and stands where they would begin
  opens_arguments : Head → Role
  no_arguments : Head → Role
  -- it is a comma behind so many arguments, or ends them
  separates : Head → ℕ → Role
  closes : Head → ℕ → Role
  -- it compares what the name heads, or stands behind it and does not
  compares : Text → Role
  stands_alone : Text → Role
  -- it is the first argument of `win`, or the second
  plays : Text → Role
  counts : Text → Role

-- what is expected: a rule of the grammar, and what the words before it settled
pub data Symbol : Type 0 where
  -- a word of this kind, which has these roles
  one : TokenKind → (Text → List Role) → Symbol
  statements : FileGrammar → Symbol
  -- a name with its number of arguments, and more of them
  declaration : Symbol
  declarations : Symbol
  -- the name of a predicate; then its parameters, of which some are read; and its body
  predicate_name : Symbol
  header : Text → Symbol
  parameter : Text → List Text → Symbol
  more_parameters : Text → List Text → Symbol
  definition : Text → List Text → Symbol
  -- a formula of at least this level, and more that a joint joins to it
  operand : ℕ → Place → Symbol
  tail : Joint → Place → Symbol
  -- the first variable of a quantifier, and more of them with the body
  bound_variable : Place → Symbol
  more_variables : Place → Symbol
  -- behind the arguments of a name that begins an atom
  name_tail : Text → Place → Symbol
  comparison : Place → Symbol
  term : Place → Symbol
  -- the arguments, and those behind so many
  arguments : Head → Place → Symbol
  more_arguments : Head → ℕ → Place → Symbol

abbrev pub Stack : Type 0
Stack = List Symbol

-- the roles of a word, and what is expected in place of the symbol that took it
abbrev pub Turn : Type 0
Turn = List Role × Stack

-- a word of this kind, and one that is a parenthesis
abbrev pub plain : TokenKind → Symbol
plain kind = one kind (λ text. [])

abbrev pub opening_paren : Place → Symbol
opening_paren c = one k.LeftParen (λ text. opens (suc c.depth) ∷ [])

-- ---- the tails of a formula: what may be joined to it, the strongest joint first

abbrev pub tails_among : List Joint → ℕ → Place → Stack
tails_among [] n c = []
tails_among (j ∷ js) n c = if nat_le n (strength j) then tail j c ∷ tails_among js n c else tails_among js n c

abbrev pub tails : ℕ → Place → Stack
tails = tails_among (and ∷ or ∷ imp ∷ iff ∷ [])

-- the roles of a joint's sign, the place of its right side, and whether another of its kind may follow this one
abbrev pub sign_roles : Joint → Place → List Role
sign_roles and c = joins ∷ []
sign_roles or c = joins ∷ []
sign_roles imp c = opens (suc c.depth) ∷ []
sign_roles iff c = []

abbrev pub right_place : Joint → Place → Place
right_place imp c = deeper c
right_place j c = c

abbrev pub again : Joint → Place → Stack
again and c = tail and c ∷ []
again or c = tail or c ∷ []
again imp c = []
again iff c = []

-- ---- the first table: the turn at a word, by its kind and its text

-- how a formula begins in which nothing is joined
abbrev pub unary_row : Place → TokenKind → Text → Option Turn
unary_row c k.Tilde t = Some (opens (suc c.depth) ∷ [], operand 5 (deeper c) ∷ [])
unary_row c k.«Exists» t = Some (opens (suc c.depth) ∷ [], bound_variable (deeper c) ∷ [])
unary_row c k.Forall t = Some (opens (suc c.depth) ∷ [], bound_variable (deeper c) ∷ [])
unary_row c k.LeftParen t = Some (opens (suc c.depth) ∷ [], operand 1 (deeper c) ∷ plain k.RightParen ∷ [])
unary_row c k.«True» t = Some ([], [])
unary_row c k.«False» t = Some ([], [])
unary_row c k.Finite t = Some ([], opening_paren c ∷ term (deeper c) ∷ plain k.RightParen ∷ [])
unary_row c k.Win t =
    Some (
      [],
      opening_paren c ∷ one k.Name (λ p. plays p ∷ []) ∷ plain k.Comma ∷ one k.Number (λ n. counts n ∷ []) ∷ plain k.Comma
          ∷ term (deeper c) ∷ plain k.RightParen ∷ [],
    )
unary_row c k.Name t = Some (begins_atom t ∷ [], arguments (named t) c ∷ name_tail t c ∷ [])
unary_row c k.Variable t = Some (stands t c ∷ [], comparison c ∷ [])
unary_row c k.Further t = Some (heads (further t) ∷ [], arguments (further t) c ∷ comparison c ∷ [])
unary_row c kind t = None

abbrev pub term_row : Place → TokenKind → Text → Option Turn
term_row c k.Variable t = Some (stands t c ∷ [], [])
term_row c k.Name t = Some (heads (named t) ∷ [], arguments (named t) c ∷ [])
term_row c k.Further t = Some (heads (further t) ∷ [], arguments (further t) c ∷ [])
term_row c kind t = None

-- the sign of a comparison, with these roles
abbrev pub comparison_row : List Role → Place → TokenKind → Option Turn
comparison_row rs c k.Equal = Some (rs, term c ∷ [])
comparison_row rs c k.Differ = Some (rs, term c ∷ [])
comparison_row rs c kind = None

abbrev pub variables_row : Place → TokenKind → Text → Option Turn
variables_row c k.Variable t = Some (binds t ∷ [], more_variables (binding t c) ∷ [])
variables_row c k.Colon t = Some ([], operand 5 c ∷ [])
variables_row c kind t = None

-- the body of a predicate and its end
abbrev pub defined : Text → List Text → Stack
defined p xs = operand 1 (closed_place xs) ∷ one k.Stop (λ text. ends_predicate p (length xs) ∷ []) ∷ []

abbrev pub header_row : Text → TokenKind → Option Turn
header_row p k.LeftParen = Some ([], parameter p [] ∷ [])
header_row p k.Define = Some ([], defined p [])
header_row p kind = None

abbrev pub parameters_row : Text → List Text → TokenKind → Option Turn
parameters_row p xs k.Comma = Some ([], parameter p xs ∷ [])
parameters_row p xs k.RightParen = Some ([], definition p xs ∷ [])
parameters_row p xs kind = None

-- what a statement's first word begins
abbrev pub opened : FileGrammar → Manner → Turn
opened G declares_symbols = ([], declaration ∷ declarations ∷ plain k.Stop ∷ statements G ∷ [])
opened G defines_predicate = (begins ∷ [], predicate_name ∷ statements G ∷ [])
opened G asks = (begins ∷ [], operand 1 open_place ∷ plain k.Stop ∷ statements G ∷ [])

-- words of one kind alone
abbrev pub only : TokenKind → TokenKind → Turn → Option Turn
only kind asked turn = if same kind asked then Some turn else None

-- and then these symbols besides
abbrev pub followed_by : Stack → Turn → Turn
followed_by s turn = (turn.0, turn.1 ++ s)

abbrev pub row : Symbol → Word → Option Turn
row (one kind roles) w = only w.kind kind (roles w.text, [])
row (statements G) w = option_map (λ manner. opened G manner) (opening G w)
row declaration w = only w.kind k.Name (declares w.text ∷ [], plain k.Slash ∷ one k.Number (λ n. has_arity w.text n ∷ []) ∷ [])
row declarations w = only w.kind k.Comma ([], declaration ∷ declarations ∷ [])
row predicate_name w = only w.kind k.Name (declares_predicate w.text ∷ [], header w.text ∷ [])
row (header p) w = header_row p w.kind
row (parameter p xs) w = only w.kind k.Variable (has_parameter w.text xs ∷ [], more_parameters p (xs ++ w.text ∷ []) ∷ [])
row (more_parameters p xs) w = parameters_row p xs w.kind
row (definition p xs) w = only w.kind k.Define ([], defined p xs)
row (operand n c) w = option_map (λ turn. followed_by (tails n c) turn) (unary_row c w.kind w.text)
row (tail j c) w = only w.kind (sign j) (sign_roles j c, operand (right j) (right_place j c) ∷ again j c)
row (bound_variable c) w = only w.kind k.Variable (binds w.text ∷ [], more_variables (binding w.text c) ∷ [])
row (more_variables c) w = variables_row c w.kind w.text
row (name_tail p c) w = comparison_row (compares p ∷ []) c w.kind
row (comparison c) w = comparison_row [] c w.kind
row (term c) w = term_row c w.kind w.text
row (arguments h c) w =
    only w.kind k.LeftParen (opens_arguments h ∷ opens (suc c.depth) ∷ [], term (deeper c) ∷ more_arguments h 1 (deeper c) ∷ plain k.RightParen ∷ [])
row (more_arguments h n c) w = only w.kind k.Comma (separates h n ∷ [], term c ∷ more_arguments h (suc n) c ∷ [])

-- ---- the second table: which symbols may be left out, and the roles that the next word, or the end, then has besides

abbrev pub empty : Symbol → Option (List Role)
empty (statements G) = Some []
empty declarations = Some []
empty (tail j c) = Some []
empty (name_tail p c) = Some (stands_alone p ∷ [])
empty (arguments h c) = Some (no_arguments h ∷ [])
empty (more_arguments h n c) = Some (closes h n ∷ [])
empty x = None

-- ---- the machine

-- no word may come here that is this one, or it has these roles and then these symbols are expected
pub data Move : Type 0 where
  refused : Move
  goes : List Role → Stack → Move

-- the symbol takes the word, or else it is passed over
abbrev pub turned : Option Turn → Stack → Move → Move
turned None s other = other
turned (Some turn) s other = goes turn.0 (turn.1 ++ s)

abbrev pub passed : Option (List Role) → Move → Move
passed None later = refused
passed (Some rs) refused = refused
passed (Some rs) (goes more s) = goes (rs ++ more) s

abbrev pub step : Stack → Word → Move
step [] w = refused
step (x ∷ s) w = turned (row x w) s (passed (empty x) (step s w))

-- the roles of the end of the input, where it may stand
abbrev pub passed_end : Option (List Role) → Option (List Role) → Option (List Role)
passed_end None later = None
passed_end (Some rs) None = None
passed_end (Some rs) (Some more) = Some (rs ++ more)

abbrev pub at_end : Stack → Option (List Role)
at_end [] = Some []
at_end (x ∷ s) = passed_end (empty x) (at_end s)
