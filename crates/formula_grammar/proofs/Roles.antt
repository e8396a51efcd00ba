-- When nothing is wrong with a word in a role.
use Rattle.std.proofs.Common.{◌≡◌, ℕ, ◌≤◌, ◌<◌, Bool, true, false, not, ◌&&◌, List, [], ◌∷◌, length, Option, Some, None, is_none, nat_eq, refl, sym, ◌∙◌, ap, arith}
use Rattle.std.proofs.lemmas.Bool.{leb-false, lt-leb, ltb-false, le-ltb}
use Rattle.tree_model.specs.declared.kind.Kind.{Kind}
use Rattle.tree_model.specs.declared.kind.Kind.TheVariants as kind
use Rattle.formula_grammar.specs.declared.fault.FaultKind.{FaultKind}
use Rattle.formula_grammar.specs.Limits.{most_arguments, most_parameters, most_symbols, most_predicates, greatest_index, most_moves, deepest_nesting, most_joints}
use Rattle.formula_grammar.specs.Written.{named, further}
use Rattle.formula_grammar.specs.Machine.{Role, begins, opens, declares, has_arity, declares_predicate, has_parameter, ends_predicate, joins, binds, stands, heads, begins_atom, opens_arguments, no_arguments, separates, closes, compares, stands_alone, plays, counts}
use Rattle.formula_grammar.specs.Checks.{Environment, declared, is_declared, is_declared_as, arity_in, count_of, is_among, first_of, tests, update, value_of, index_of}
use Rattle.formula_grammar.specs.Within.{IsShort}
use Rattle.formula_grammar.proofs.Run.{Course, in_role, is_fine, passes, passes_role}

-- what has to hold at a role
abbrev pub Allowed : Environment → Role → Type 0
Allowed E begins = Unit {0}
Allowed E (opens n) = n ≤ deepest_nesting
Allowed E (declares f) = (declared E.signature f ≡ None) × IsShort f × (count_of kind.Symbol E.signature < most_symbols)
Allowed E (has_arity f digits) = value_of digits ≤ most_arguments
Allowed E (declares_predicate p) = (declared E.signature p ≡ None) × IsShort p × (count_of kind.Pred E.signature < most_predicates)
Allowed E (has_parameter x xs) = (is_among x xs ≡ false) × IsShort x × (length xs < most_parameters)
Allowed E (ends_predicate p n) = Unit {0}
Allowed E joins = E.joints < most_joints
Allowed E (binds x) = IsShort x × (E.joints < most_joints)
Allowed E (stands x c) = (c.closed ≡ true → is_among x c.bound ≡ true) × IsShort x
Allowed E (heads (named f)) = (is_declared (declared E.signature f) ≡ true) × (is_declared_as kind.Pred (declared E.signature f) ≡ false) × IsShort f
Allowed E (begins_atom f) = (is_declared (declared E.signature f) ≡ true) × IsShort f
Allowed E (heads (further text)) = index_of text ≤ greatest_index
Allowed E (opens_arguments (named f)) = 1 ≤ arity_in (declared E.signature f)
Allowed E (opens_arguments (further i)) = Unit {0}
Allowed E (no_arguments (named f)) = arity_in (declared E.signature f) ≤ 0
Allowed E (no_arguments (further i)) = Unit {0}
Allowed E (separates (named f) n) = n < arity_in (declared E.signature f)
Allowed E (separates (further i) n) = n < most_arguments
Allowed E (closes (named f) n) = arity_in (declared E.signature f) ≤ n
Allowed E (closes (further i) n) = Unit {0}
Allowed E (compares f) = is_declared_as kind.Pred (declared E.signature f) ≡ false
Allowed E (stands_alone f) = is_declared_as kind.Symbol (declared E.signature f) ≡ false
Allowed E (plays p) = (declared E.signature p ≡ Some (kind.Pred, 2)) × IsShort p
Allowed E (counts digits) = value_of digits ≤ most_moves

-- ---- the first of several

-- none of these holds
abbrev AreFalse : List (Bool × FaultKind) → Type 0
AreFalse [] = Unit {0}
AreFalse ((holds, kind) ∷ more) = (holds ≡ false) × AreFalse more

all_false : (tests : List (Bool × FaultKind)) → is_none (first_of tests) ≡ true → AreFalse tests
all_false [] e = tt
all_false ((true, kind) ∷ more) e = absurd (cc e)
all_false ((false, kind) ∷ more) e = (refl, all_false more e)

none_holds : (tests : List (Bool × FaultKind)) → AreFalse tests → is_none (first_of tests) ≡ true
none_holds [] h = refl
none_holds ((holds, kind) ∷ more) h = rw h.0 (none_holds more h.1)

-- ---- single tests

not_false : (b : Bool) → not b ≡ false → b ≡ true
not_false true e = refl
not_false false e = absurd (cc e)

unless : (a b : Bool) → (a && not b) ≡ false → a ≡ true → b ≡ true
unless true true e h = refl
unless true false e h = absurd (cc e)
unless false b e h = absurd (cc h)

as_unless : (a b : Bool) → (a ≡ true → b ≡ true) → (a && not b) ≡ false
as_unless true b h = rw (h refl) refl
as_unless false b h = refl

undeclared : (o : Option (Kind × ℕ)) → is_declared o ≡ false → o ≡ None
undeclared None e = refl
undeclared (Some x) e = absurd (cc e)

zero_arity : (n : ℕ) → nat_eq n 0 ≡ false → 1 ≤ n
zero_arity n e = grind arith

some_arity : (n : ℕ) → 1 ≤ n → nat_eq n 0 ≡ false
some_arity n e = grind arith

-- the name of a game
is_game : (o : Option (Kind × ℕ)) → not (is_declared o) ≡ false → (is_declared_as kind.Pred o && not (nat_eq (arity_in o) 2)) ≡ false
    → is_declared_as kind.Symbol o ≡ false → o ≡ Some (kind.Pred, 2)
is_game None a b e = absurd (cc a)
is_game (Some (kind.Symbol, n)) a b e = absurd (cc e)
is_game (Some (kind.Pred, n)) a b e =
    let h : n ≡ 2 = grind (arith, unless true (nat_eq n 2) b refl) in ap (λ n. Some (kind.Pred, n)) h

and_true : (a b : Bool) → (a && b) ≡ true → (a ≡ true) × (b ≡ true)
and_true true b e = (refl, e)
and_true false b e = absurd (cc e)

is_undeclared : (o : Option (Kind × ℕ)) → o ≡ None → is_declared o ≡ false
is_undeclared o e = rw e refl

game_declared : (o : Option (Kind × ℕ)) → o ≡ Some (kind.Pred, 2) → not (is_declared o) ≡ false
game_declared o e = rw e refl

game_fits : (o : Option (Kind × ℕ)) → o ≡ Some (kind.Pred, 2) → (is_declared_as kind.Pred o && not (nat_eq (arity_in o) 2)) ≡ false
game_fits o e = rw e refl

game_sort : (o : Option (Kind × ℕ)) → o ≡ Some (kind.Pred, 2) → is_declared_as kind.Symbol o ≡ false
game_sort o e = rw e refl

allowed_tests : (E : Environment) (r : Role) → AreFalse (tests E r) → Allowed E r
allowed_tests E begins h = tt
allowed_tests E (opens n) h = ltb-false 200 n h.0
allowed_tests E (declares f) h = (undeclared (declared E.signature f) h.0, ltb-false 64 (length f) h.1.0, leb-false 4096 (count_of kind.Symbol E.signature) h.1.1.0)
allowed_tests E (has_arity f digits) h = ltb-false 8 (value_of digits) h.0
allowed_tests E (declares_predicate p) h = (undeclared (declared E.signature p) h.0, ltb-false 64 (length p) h.1.0, leb-false 1024 (count_of kind.Pred E.signature) h.1.1.0)
allowed_tests E (has_parameter x xs) h = (h.0, ltb-false 64 (length x) h.1.0, leb-false 16 (length xs) h.1.1.0)
allowed_tests E (ends_predicate p n) h = tt
allowed_tests E joins h = leb-false 1000 E.joints h.0
allowed_tests E (binds x) h = (ltb-false 64 (length x) h.0, leb-false 1000 E.joints h.1.0)
allowed_tests E (stands x c) h = (unless c.closed (is_among x c.bound) h.0, ltb-false 64 (length x) h.1.0)
allowed_tests E (heads (named f)) h = (not_false (is_declared (declared E.signature f)) h.0, h.1.0, ltb-false 64 (length f) h.1.1.0)
allowed_tests E (begins_atom f) h = (not_false (is_declared (declared E.signature f)) h.0, ltb-false 64 (length f) h.1.0)
allowed_tests E (heads (further text)) h = ltb-false 18446744073709551615 (index_of text) h.0
allowed_tests E (opens_arguments (named f)) h = zero_arity (arity_in (declared E.signature f)) h.0
allowed_tests E (opens_arguments (further i)) h = tt
allowed_tests E (no_arguments (named f)) h = ltb-false 0 (arity_in (declared E.signature f)) h.0
allowed_tests E (no_arguments (further i)) h = tt
allowed_tests E (separates (named f) n) h = leb-false (arity_in (declared E.signature f)) n h.0
allowed_tests E (separates (further i) n) h = leb-false 8 n h.0
allowed_tests E (closes (named f) n) h = ltb-false n (arity_in (declared E.signature f)) h.0
allowed_tests E (closes (further i) n) h = tt
allowed_tests E (compares f) h = h.0
allowed_tests E (stands_alone f) h = h.0
allowed_tests E (plays p) h = (is_game (declared E.signature p) h.0 h.1.0 h.1.1.0, ltb-false 64 (length p) h.1.1.1.0)
allowed_tests E (counts digits) h = ltb-false 1000 (value_of digits) h.0

granted_tests : (E : Environment) (r : Role) → Allowed E r → AreFalse (tests E r)
granted_tests E begins h = tt
granted_tests E (opens n) h = (le-ltb 200 n h, tt)
granted_tests E (declares f) h = (is_undeclared (declared E.signature f) h.0, (le-ltb 64 (length f) h.1, (lt-leb 4096 (count_of kind.Symbol E.signature) h.2, tt)))
granted_tests E (has_arity f digits) h = (le-ltb 8 (value_of digits) h, tt)
granted_tests E (declares_predicate p) h = (is_undeclared (declared E.signature p) h.0, (le-ltb 64 (length p) h.1, (lt-leb 1024 (count_of kind.Pred E.signature) h.2, tt)))
granted_tests E (has_parameter x xs) h = (h.0, (le-ltb 64 (length x) h.1, (lt-leb 16 (length xs) h.2, tt)))
granted_tests E (ends_predicate p n) h = tt
granted_tests E joins h = (lt-leb 1000 E.joints h, tt)
granted_tests E (binds x) h = (le-ltb 64 (length x) h.0, (lt-leb 1000 E.joints h.1, tt))
granted_tests E (stands x c) h = (as_unless c.closed (is_among x c.bound) h.0, (le-ltb 64 (length x) h.1, tt))
granted_tests E (heads (named f)) h = (ap (λ b. not b) h.0, (h.1, (le-ltb 64 (length f) h.2, tt)))
granted_tests E (begins_atom f) h = (ap (λ b. not b) h.0, (le-ltb 64 (length f) h.1, tt))
granted_tests E (heads (further text)) h = (le-ltb 18446744073709551615 (index_of text) h, tt)
granted_tests E (opens_arguments (named f)) h = (some_arity (arity_in (declared E.signature f)) h, tt)
granted_tests E (opens_arguments (further i)) h = tt
granted_tests E (no_arguments (named f)) h = (le-ltb 0 (arity_in (declared E.signature f)) h, tt)
granted_tests E (no_arguments (further i)) h = tt
granted_tests E (separates (named f) n) h = (lt-leb (arity_in (declared E.signature f)) n h, tt)
granted_tests E (separates (further i) n) h = (lt-leb 8 n h, tt)
granted_tests E (closes (named f) n) h = (le-ltb n (arity_in (declared E.signature f)) h, tt)
granted_tests E (closes (further i) n) h = tt
granted_tests E (compares f) h = (h, tt)
granted_tests E (stands_alone f) h = (h, tt)
granted_tests E (plays p) h = (game_declared (declared E.signature p) h.0, (game_fits (declared E.signature p) h.0, (game_sort (declared E.signature p) h.0, (le-ltb 64 (length p) h.1, tt))))
granted_tests E (counts digits) h = (le-ltb 1000 (value_of digits) h, tt)

fine_tests : (E : Environment) (r : Role) → is_fine E r ≡ is_none (first_of (tests E r))
unfolding is_fine
fine_tests E r = refl

-- a word in this role is passed exactly where that holds
pub allowed : (r : Role) (o : Course) (E : Environment) → passes E (in_role r o) ≡ true → Allowed E r × (passes (update E r) o ≡ true)
allowed r o E e =
    let h = and_true (is_fine E r) (passes (update E r) o) (sym (passes_role E r o) ∙ e) in
    (allowed_tests E r (all_false (tests E r) (sym (fine_tests E r) ∙ h.0)), h.1)

pub granted : (r : Role) (o : Course) (E : Environment) → Allowed E r → passes (update E r) o ≡ true → passes E (in_role r o) ≡ true
granted r o E a e =
    let h : is_fine E r ≡ true = fine_tests E r ∙ none_holds (tests E r) (granted_tests E r a) in
    passes_role E r o ∙ ap (λ b. b && passes (update E r) o) h ∙ e
