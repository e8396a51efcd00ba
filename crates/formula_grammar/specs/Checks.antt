-- What is wrong with a word that the grammar allows: the faults that look at declarations, and the limits.
use Rattle.std.specs.Prelude.{ℕ, suc, ◌+◌, ◌-◌, ◌*◌, Bool, true, false, not, ◌&&◌, List, [], ◌∷◌, ◌++◌, length, drop, Option, Some, None, option_and_then, if◌then◌else◌, nat_lt, nat_le, nat_eq}
use Rattle.std.specs.Str.{bytes_eq}
use Rattle.std.specs.List.{list_any}
use Rattle.tree_model.specs.declared.kind.Kind.{Kind}
use Rattle.tree_model.specs.declared.kind.Kind.TheVariants as kind
use Rattle.tree_model.specs.Signatures.{Signature, Entry, declared_at}
use Rattle.signature.specs.Names.{place_of}
use Rattle.formula_grammar.specs.declared.fault.FaultKind.{FaultKind}
use Rattle.formula_grammar.specs.declared.fault.FaultKind.TheVariants.{Byte, Ended, Syntax, Unknown, Twice, Loose, Arity, Sort, Limit}
use Rattle.formula_grammar.specs.Limits.{longest_name, most_arguments, most_parameters, most_symbols, most_predicates, greatest_index, most_moves, deepest_nesting, most_joints}
use Rattle.formula_grammar.specs.Written.{Text, named, further}
use Rattle.formula_grammar.specs.Machine.{Role, begins, opens, declares, has_arity, declares_predicate, has_parameter, ends_predicate, joins, binds, stands, heads, begins_atom, opens_arguments, no_arguments, separates, closes, compares, stands_alone, plays, counts}

-- what the words so far have declared, and how many `&`, `|` and variables in quantifiers' lists the statement has so far
pub record Environment : Type 0 where
  pub signature : Signature
  pub joints : ℕ

-- what is declared before the first word, where these names are
abbrev pub start : Signature → Environment
start σ = record { signature = σ; joints = 0 }

-- the value of digits that stand behind others with the value n
abbrev pub value_from : ℕ → List ℕ → ℕ
value_from n [] = n
value_from n (digit ∷ digits) = value_from (n * 10 + (digit - 48)) digits

-- the value of a number, given its digits
abbrev pub value_of : List ℕ → ℕ
value_of digits = value_from 0 digits

-- the index of a further symbol: the digits stand behind `$`
abbrev pub index_of : Text → ℕ
index_of text = value_of (drop 1 text)

abbrev pub entry_of : Text → Kind → ℕ → Entry
entry_of name kind arity = record { name = name; kind = kind; arity = arity }

-- what a name is declared as, if it is
abbrev pub declared : Signature → Text → Option (Kind × ℕ)
declared σ f = option_and_then {T = ℕ} {U = Kind × ℕ} (λ place. declared_at σ place) (place_of σ f)

abbrev pub is_declared : Option (Kind × ℕ) → Bool
is_declared None = false
is_declared (Some entry) = true

abbrev pub is_kind : Kind → Kind → Bool
is_kind kind.Symbol kind.Symbol = true
is_kind kind.Pred kind.Pred = true
is_kind x y = false

abbrev pub is_declared_as : Kind → Option (Kind × ℕ) → Bool
is_declared_as kind None = false
is_declared_as kind (Some (other, n)) = is_kind kind other

-- the number of arguments that a name is declared with
abbrev pub arity_in : Option (Kind × ℕ) → ℕ
arity_in None = 0
arity_in (Some (kind, n)) = n

-- how many names of this kind are declared
abbrev pub count_of : Kind → Signature → ℕ
count_of kind [] = 0
count_of kind (entry ∷ σ) = if is_kind kind entry.kind then suc (count_of kind σ) else count_of kind σ

abbrev pub is_long : Text → Bool
is_long text = nat_lt longest_name (length text)

abbrev pub is_among : Text → List Text → Bool
is_among x xs = list_any (λ y. bytes_eq y x) xs

-- the first of these that holds
abbrev pub first_of : List (Bool × FaultKind) → Option FaultKind
first_of [] = None
first_of ((holds, kind) ∷ more) = if holds then Some kind else first_of more

-- what may be wrong with a word in this role: each test with the kind of fault that it finds
abbrev pub tests : Environment → Role → List (Bool × FaultKind)
tests E begins = []
tests E (opens n) = (nat_lt deepest_nesting n, Limit) ∷ []
tests E (declares f) =
    (is_declared (declared E.signature f), Twice) ∷ (is_long f, Limit)
    ∷ (nat_le most_symbols (count_of kind.Symbol E.signature), Limit) ∷ []
tests E (has_arity f digits) = (nat_lt most_arguments (value_of digits), Limit) ∷ []
tests E (declares_predicate p) =
    (is_declared (declared E.signature p), Twice) ∷ (is_long p, Limit)
    ∷ (nat_le most_predicates (count_of kind.Pred E.signature), Limit) ∷ []
tests E (has_parameter x xs) = (is_among x xs, Twice) ∷ (is_long x, Limit) ∷ (nat_le most_parameters (length xs), Limit) ∷ []
tests E (ends_predicate p n) = []
tests E joins = (nat_le most_joints E.joints, Limit) ∷ []
tests E (binds x) = (is_long x, Limit) ∷ (nat_le most_joints E.joints, Limit) ∷ []
tests E (stands x c) = (c.closed && not (is_among x c.bound), Loose) ∷ (is_long x, Limit) ∷ []
tests E (heads (named f)) =
    (not (is_declared (declared E.signature f)), Unknown) ∷ (is_declared_as kind.Pred (declared E.signature f), Sort)
    ∷ (is_long f, Limit) ∷ []
tests E (begins_atom f) = (not (is_declared (declared E.signature f)), Unknown) ∷ (is_long f, Limit) ∷ []
tests E (heads (further text)) = (nat_lt greatest_index (index_of text), Limit) ∷ []
tests E (opens_arguments (named f)) = (nat_eq (arity_in (declared E.signature f)) 0, Arity) ∷ []
tests E (opens_arguments (further i)) = []
tests E (no_arguments (named f)) = (nat_lt 0 (arity_in (declared E.signature f)), Arity) ∷ []
tests E (no_arguments (further i)) = []
tests E (separates (named f) n) = (nat_le (arity_in (declared E.signature f)) n, Arity) ∷ []
tests E (separates (further i) n) = (nat_le most_arguments n, Limit) ∷ []
tests E (closes (named f) n) = (nat_lt n (arity_in (declared E.signature f)), Arity) ∷ []
tests E (closes (further i) n) = []
tests E (compares f) = (is_declared_as kind.Pred (declared E.signature f), Sort) ∷ []
tests E (stands_alone f) = (is_declared_as kind.Symbol (declared E.signature f), Sort) ∷ []
tests E (plays p) =
    (not (is_declared (declared E.signature p)), Unknown)
    ∷ (is_declared_as kind.Pred (declared E.signature p) && not (nat_eq (arity_in (declared E.signature p)) 2), Arity)
    ∷ (is_declared_as kind.Symbol (declared E.signature p), Sort) ∷ (is_long p, Limit) ∷ []
tests E (counts digits) = (nat_lt most_moves (value_of digits), Limit) ∷ []

-- what is wrong with it
abbrev pub check : Environment → Role → Option FaultKind
check E role = first_of (tests E role)

-- what a word in this role leaves
abbrev pub update : Environment → Role → Environment
update E begins = record E { joints = 0 }
update E (has_arity f digits) = record E { signature = E.signature ++ entry_of f kind.Symbol (value_of digits) ∷ [] }
update E (ends_predicate p n) = record E { signature = E.signature ++ entry_of p kind.Pred n ∷ [] }
update E joins = record E { joints = suc E.joints }
update E (binds x) = record E { joints = suc E.joints }
update E role = E

abbrev pub update_all : Environment → List Role → Environment
update_all E [] = E
update_all E (role ∷ roles) = update_all (update E role) roles

-- the place of a kind in the order in which the kinds count at one word
abbrev pub rank : FaultKind → ℕ
rank Byte = 0
rank Ended = 1
rank Syntax = 2
rank Unknown = 3
rank Twice = 4
rank Loose = 5
rank Arity = 6
rank Sort = 7
rank Limit = 8

-- the one of two that counts
abbrev pub sooner : Option FaultKind → Option FaultKind → Option FaultKind
sooner None y = y
sooner (Some x) None = Some x
sooner (Some x) (Some y) = if nat_le (rank x) (rank y) then Some x else Some y

-- what is wrong with a word in these roles, one after another, where this is wrong with it already
abbrev pub check_all : Environment → Option FaultKind → List Role → Option FaultKind
check_all E wrong [] = wrong
check_all E wrong (role ∷ roles) = check_all (update E role) (sooner wrong (check E role)) roles
