-- The tests of a role find what is wrong with a word in it, the first kind first.
use Rattle.std.proofs.Common.{◌≡◌, ◌≢◌, ℕ, ◌≤◌, ◌⊎◌, inl, inr, Bool, true, false, not, ◌&&◌, List, [], ◌∷◌, length, Option, Some, None, nat_le, nat_eq, refl, ap, subst, arith, if◌then◌else◌}
use Rattle.std.proofs.lemmas.Bool.{leb-true, leb-false, le-leb, ltb-true, lt-ltb}
use Rattle.tree_model.specs.declared.kind.Kind.{Kind}
use Rattle.tree_model.specs.declared.kind.Kind.TheVariants as kind
use Rattle.formula_grammar.specs.declared.fault.FaultKind.{FaultKind}
use Rattle.formula_grammar.specs.declared.fault.FaultKind.TheVariants.{Byte, Unknown, Twice, Loose, Arity, Sort, Limit}
use Rattle.formula_grammar.specs.Limits.{longest_name, most_arguments, most_parameters, most_symbols, most_predicates, greatest_index, most_moves, deepest_nesting, most_joints}
use Rattle.formula_grammar.specs.Written.{named, further}
use Rattle.formula_grammar.specs.Machine.{Role, begins, opens, declares, has_arity, declares_predicate, has_parameter, ends_predicate, joins, binds, stands, heads, begins_atom, opens_arguments, no_arguments, separates, closes, compares, stands_alone, plays, counts}
use Rattle.formula_grammar.specs.Checks.{Environment, declared, is_declared, is_declared_as, arity_in, count_of, is_among, value_of, index_of, tests, first_of, check, check_all, update, rank, sooner}
use Rattle.formula_grammar.specs.Kinds.{Why, Finds, IsFirstOf}

-- one of the tests has this kind, and holds
abbrev Holds : FaultKind → List (Bool × FaultKind) → Type 0
Holds kind [] = ⊥
Holds kind ((holds, found) ∷ more) = ((holds ≡ true) × (found ≡ kind)) ⊎ Holds kind more

-- ---- what a test means

yes : (b : Bool) → not b ≡ true → b ≡ false
yes true e = absurd (cc e)
yes false e = refl

undeclared : (o : Option (Kind × ℕ)) → not (is_declared o) ≡ true → o ≡ None
undeclared None e = refl
undeclared (Some x) e = absurd (cc e)

not_none : (x : Kind × ℕ) → Some x ≡ None → ⊥
not_none x e = cc e

declared_some : (o : Option (Kind × ℕ)) → is_declared o ≡ true → o ≢ None
declared_some None e = absurd (cc e)
declared_some (Some x) e = not_none x

as_symbol : (o : Option (Kind × ℕ)) → is_declared_as kind.Symbol o ≡ true → (n : ℕ) × (o ≡ Some (kind.Symbol, n))
as_symbol None e = absurd (cc e)
as_symbol (Some (kind.Symbol, n)) e = (n, refl)
as_symbol (Some (kind.Pred, n)) e = absurd (cc e)

as_predicate : (o : Option (Kind × ℕ)) → is_declared_as kind.Pred o ≡ true → (n : ℕ) × (o ≡ Some (kind.Pred, n))
as_predicate None e = absurd (cc e)
as_predicate (Some (kind.Pred, n)) e = (n, refl)
as_predicate (Some (kind.Symbol, n)) e = absurd (cc e)

both : (a b : Bool) → (a && b) ≡ true → (a ≡ true) × (b ≡ true)
both true b e = (refl, e)
both false b e = absurd (cc e)

both_hold : (a b : Bool) → a ≡ true → b ≡ true → (a && b) ≡ true
both_hold a b e h = rw (e, h) refl

not_two : (n : ℕ) → not (nat_eq n 2) ≡ true → n ≢ 2
not_two n e = λ h. let x : not (nat_eq n 2) ≡ false = ap (λ m. not (nat_eq m 2)) h in absurd (cc (x, e))

is_zero : (n : ℕ) → nat_eq n 0 ≡ true → n ≡ 0
is_zero n e = grind arith

game_arity : (o : Option (Kind × ℕ)) → (is_declared_as kind.Pred o && not (nat_eq (arity_in o) 2)) ≡ true
    → (n : ℕ) × (o ≡ Some (kind.Pred, n)) × (n ≢ 2)
game_arity None e = absurd (cc e)
game_arity (Some (kind.Pred, n)) e = (n, refl, not_two n e)
game_arity (Some (kind.Symbol, n)) e = absurd (cc e)

module _ (E : Environment) (role : Role) where
  by_kind : {found kind : FaultKind} → found ≡ kind → Why found E role → Why kind E role
  by_kind e = subst (λ k. Why k E role) e

-- a test that holds says what is wrong
tells : (E : Environment) (role : Role) (kind : FaultKind) → Holds kind (tests E role) → Why kind E role
tells E begins k h = absurd h
tells E (opens n) k (inl h) = by_kind E (opens n) h.1 (ltb-true deepest_nesting n h.0)
tells E (opens n) k (inr h) = absurd h
tells E (declares f) k (inl h) = by_kind E (declares f) h.1 (declared_some (declared E.signature f) h.0)
tells E (declares f) k (inr (inl h)) = by_kind E (declares f) h.1 (inl (ltb-true longest_name (length f) h.0))
tells E (declares f) k (inr (inr (inl h))) = by_kind E (declares f) h.1 (inr (leb-true most_symbols (count_of kind.Symbol E.signature) h.0))
tells E (declares f) k (inr (inr (inr h))) = absurd h
tells E (has_arity f digits) k (inl h) = by_kind E (has_arity f digits) h.1 (ltb-true most_arguments (value_of digits) h.0)
tells E (has_arity f digits) k (inr h) = absurd h
tells E (declares_predicate p) k (inl h) = by_kind E (declares_predicate p) h.1 (declared_some (declared E.signature p) h.0)
tells E (declares_predicate p) k (inr (inl h)) = by_kind E (declares_predicate p) h.1 (inl (ltb-true longest_name (length p) h.0))
tells E (declares_predicate p) k (inr (inr (inl h))) = by_kind E (declares_predicate p) h.1 (inr (leb-true most_predicates (count_of kind.Pred E.signature) h.0))
tells E (declares_predicate p) k (inr (inr (inr h))) = absurd h
tells E (has_parameter x xs) k (inl h) = by_kind E (has_parameter x xs) h.1 h.0
tells E (has_parameter x xs) k (inr (inl h)) = by_kind E (has_parameter x xs) h.1 (inl (ltb-true longest_name (length x) h.0))
tells E (has_parameter x xs) k (inr (inr (inl h))) = by_kind E (has_parameter x xs) h.1 (inr (leb-true most_parameters (length xs) h.0))
tells E (has_parameter x xs) k (inr (inr (inr h))) = absurd h
tells E (ends_predicate p n) k h = absurd h
tells E joins k (inl h) = by_kind E joins h.1 (leb-true most_joints E.joints h.0)
tells E joins k (inr h) = absurd h
tells E (binds x) k (inl h) = by_kind E (binds x) h.1 (inl (ltb-true longest_name (length x) h.0))
tells E (binds x) k (inr (inl h)) = by_kind E (binds x) h.1 (inr (leb-true most_joints E.joints h.0))
tells E (binds x) k (inr (inr h)) = absurd h
tells E (stands x c) k (inl h) =
    let a = both c.closed (not (is_among x c.bound)) h.0 in by_kind E (stands x c) h.1 (a.0, yes (is_among x c.bound) a.1)
tells E (stands x c) k (inr (inl h)) = by_kind E (stands x c) h.1 (ltb-true longest_name (length x) h.0)
tells E (stands x c) k (inr (inr h)) = absurd h
tells E (heads (named f)) k (inl h) = by_kind E (heads (named f)) h.1 (undeclared (declared E.signature f) h.0)
tells E (heads (named f)) k (inr (inl h)) = by_kind E (heads (named f)) h.1 (as_predicate (declared E.signature f) h.0)
tells E (heads (named f)) k (inr (inr (inl h))) = by_kind E (heads (named f)) h.1 (ltb-true longest_name (length f) h.0)
tells E (heads (named f)) k (inr (inr (inr h))) = absurd h
tells E (heads (further i)) k (inl h) = by_kind E (heads (further i)) h.1 (ltb-true greatest_index (index_of i) h.0)
tells E (heads (further i)) k (inr h) = absurd h
tells E (begins_atom f) k (inl h) = by_kind E (begins_atom f) h.1 (undeclared (declared E.signature f) h.0)
tells E (begins_atom f) k (inr (inl h)) = by_kind E (begins_atom f) h.1 (ltb-true longest_name (length f) h.0)
tells E (begins_atom f) k (inr (inr h)) = absurd h
tells E (opens_arguments (named f)) k (inl h) = by_kind E (opens_arguments (named f)) h.1 (is_zero (arity_in (declared E.signature f)) h.0)
tells E (opens_arguments (named f)) k (inr h) = absurd h
tells E (opens_arguments (further i)) k h = absurd h
tells E (no_arguments (named f)) k (inl h) = by_kind E (no_arguments (named f)) h.1 (ltb-true 0 (arity_in (declared E.signature f)) h.0)
tells E (no_arguments (named f)) k (inr h) = absurd h
tells E (no_arguments (further i)) k h = absurd h
tells E (separates (named f) n) k (inl h) = by_kind E (separates (named f) n) h.1 (leb-true (arity_in (declared E.signature f)) n h.0)
tells E (separates (named f) n) k (inr h) = absurd h
tells E (separates (further i) n) k (inl h) = by_kind E (separates (further i) n) h.1 (leb-true most_arguments n h.0)
tells E (separates (further i) n) k (inr h) = absurd h
tells E (closes (named f) n) k (inl h) = by_kind E (closes (named f) n) h.1 (ltb-true n (arity_in (declared E.signature f)) h.0)
tells E (closes (named f) n) k (inr h) = absurd h
tells E (closes (further i) n) k h = absurd h
tells E (compares f) k (inl h) = by_kind E (compares f) h.1 (as_predicate (declared E.signature f) h.0)
tells E (compares f) k (inr h) = absurd h
tells E (stands_alone f) k (inl h) = by_kind E (stands_alone f) h.1 (as_symbol (declared E.signature f) h.0)
tells E (stands_alone f) k (inr h) = absurd h
tells E (plays p) k (inl h) = by_kind E (plays p) h.1 (undeclared (declared E.signature p) h.0)
tells E (plays p) k (inr (inl h)) = by_kind E (plays p) h.1 (game_arity (declared E.signature p) h.0)
tells E (plays p) k (inr (inr (inl h))) = by_kind E (plays p) h.1 (as_symbol (declared E.signature p) h.0)
tells E (plays p) k (inr (inr (inr (inl h)))) = by_kind E (plays p) h.1 (ltb-true longest_name (length p) h.0)
tells E (plays p) k (inr (inr (inr (inr h)))) = absurd h
tells E (counts digits) k (inl h) = by_kind E (counts digits) h.1 (ltb-true most_moves (value_of digits) h.0)
tells E (counts digits) k (inr h) = absurd h

-- ---- and the other way

is_undeclared : (o : Option (Kind × ℕ)) → o ≡ None → not (is_declared o) ≡ true
is_undeclared o e = rw e refl

is_some_declared : (o : Option (Kind × ℕ)) → o ≢ None → is_declared o ≡ true
is_some_declared None h = absurd (h refl)
is_some_declared (Some x) h = refl

is_as : (o : Option (Kind × ℕ)) (n : ℕ) → o ≡ Some (kind.Symbol, n) → is_declared_as kind.Symbol o ≡ true
is_as o n e = rw e refl

is_as_predicate : (o : Option (Kind × ℕ)) (n : ℕ) → o ≡ Some (kind.Pred, n) → is_declared_as kind.Pred o ≡ true
is_as_predicate o n e = rw e refl

is_not_two : (n : ℕ) → n ≢ 2 → not (nat_eq n 2) ≡ true
is_not_two n h = step (nat_eq n 2) refl
  where
    step : (b : Bool) → nat_eq n 2 ≡ b → not b ≡ true
    step true e = absurd (h (grind arith))
    step false e = refl

is_game_arity : (o : Option (Kind × ℕ)) (n : ℕ) → o ≡ Some (kind.Pred, n) → n ≢ 2 → (is_declared_as kind.Pred o && not (nat_eq (arity_in o) 2)) ≡ true
is_game_arity o n e h = rw e (is_not_two n h)

zero_is : (n : ℕ) → n ≡ 0 → nat_eq n 0 ≡ true
zero_is n e = rw e refl

-- what is wrong is found by a test
pub finds : (E : Environment) (role : Role) (kind : FaultKind) → Why kind E role → Holds kind (tests E role)
finds E (heads (named f)) Unknown h = inl (is_undeclared (declared E.signature f) h, refl)
finds E (begins_atom f) Unknown h = inl (is_undeclared (declared E.signature f) h, refl)
finds E (plays p) Unknown h = inl (is_undeclared (declared E.signature p) h, refl)
finds E (declares f) Twice h = inl (is_some_declared (declared E.signature f) h, refl)
finds E (declares_predicate p) Twice h = inl (is_some_declared (declared E.signature p) h, refl)
finds E (has_parameter x xs) Twice h = inl (h, refl)
finds E (stands x c) Loose h = inl (both_hold c.closed (not (is_among x c.bound)) h.0 (ap (λ b. not b) h.1), refl)
finds E (plays p) Arity h = inr (inl (is_game_arity (declared E.signature p) h.0 h.1 h.2, refl))
finds E (opens_arguments (named f)) Arity h = inl (zero_is (arity_in (declared E.signature f)) h, refl)
finds E (no_arguments (named f)) Arity h = inl (lt-ltb 0 (arity_in (declared E.signature f)) h, refl)
finds E (separates (named f) n) Arity h = inl (le-leb (arity_in (declared E.signature f)) n h, refl)
finds E (closes (named f) n) Arity h = inl (lt-ltb n (arity_in (declared E.signature f)) h, refl)
finds E (heads (named f)) Sort h = inr (inl (is_as_predicate (declared E.signature f) h.0 h.1, refl))
finds E (compares f) Sort h = inl (is_as_predicate (declared E.signature f) h.0 h.1, refl)
finds E (stands_alone f) Sort h = inl (is_as (declared E.signature f) h.0 h.1, refl)
finds E (plays p) Sort h = inr (inr (inl (is_as (declared E.signature p) h.0 h.1, refl)))
finds E (opens n) Limit h = inl (lt-ltb deepest_nesting n h, refl)
finds E (declares f) Limit (inl h) = inr (inl (lt-ltb longest_name (length f) h, refl))
finds E (declares f) Limit (inr h) = inr (inr (inl (le-leb most_symbols (count_of kind.Symbol E.signature) h, refl)))
finds E (has_arity f digits) Limit h = inl (lt-ltb most_arguments (value_of digits) h, refl)
finds E (declares_predicate p) Limit (inl h) = inr (inl (lt-ltb longest_name (length p) h, refl))
finds E (declares_predicate p) Limit (inr h) = inr (inr (inl (le-leb most_predicates (count_of kind.Pred E.signature) h, refl)))
finds E (has_parameter x xs) Limit (inl h) = inr (inl (lt-ltb longest_name (length x) h, refl))
finds E (has_parameter x xs) Limit (inr h) = inr (inr (inl (le-leb most_parameters (length xs) h, refl)))
finds E joins Limit h = inl (le-leb most_joints E.joints h, refl)
finds E (binds x) Limit (inl h) = inl (lt-ltb longest_name (length x) h, refl)
finds E (binds x) Limit (inr h) = inr (inl (le-leb most_joints E.joints h, refl))
finds E (stands x c) Limit h = inr (inl (lt-ltb longest_name (length x) h, refl))
finds E (heads (named f)) Limit h = inr (inr (inl (lt-ltb longest_name (length f) h, refl)))
finds E (heads (further i)) Limit h = inl (lt-ltb greatest_index (index_of i) h, refl)
finds E (begins_atom f) Limit h = inr (inl (lt-ltb longest_name (length f) h, refl))
finds E (separates (further i) n) Limit h = inl (le-leb most_arguments n h, refl)
finds E (plays p) Limit h = inr (inr (inr (inl (lt-ltb longest_name (length p) h, refl))))
finds E (counts digits) Limit h = inl (lt-ltb most_moves (value_of digits) h, refl)
finds E begins Byte h = absurd h
finds E (ends_predicate p n) Byte h = absurd h
finds E (opens_arguments (further i)) Byte h = absurd h
finds E (no_arguments (further i)) Byte h = absurd h
finds E (closes (further i) n) Byte h = absurd h
finds E role kind h = absurd h

-- ---- the first of several

-- the kinds of the tests count one after another
abbrev AreAtLeast : ℕ → List (Bool × FaultKind) → Type 0
AreAtLeast n [] = Unit {0}
AreAtLeast n ((holds, kind) ∷ more) = (n ≤ rank kind) × AreAtLeast (rank kind) more

in_order : (E : Environment) (role : Role) → AreAtLeast 0 (tests E role)
in_order E begins = tt
in_order E (opens n) = (omega arith, tt)
in_order E (declares f) = (omega arith, (omega arith, (omega arith, tt)))
in_order E (has_arity f digits) = (omega arith, tt)
in_order E (declares_predicate p) = (omega arith, (omega arith, (omega arith, tt)))
in_order E (has_parameter x xs) = (omega arith, (omega arith, (omega arith, tt)))
in_order E (ends_predicate p n) = tt
in_order E joins = (omega arith, tt)
in_order E (binds x) = (omega arith, (omega arith, tt))
in_order E (stands x c) = (omega arith, (omega arith, tt))
in_order E (heads (named f)) = (omega arith, (omega arith, (omega arith, tt)))
in_order E (heads (further i)) = (omega arith, tt)
in_order E (begins_atom f) = (omega arith, (omega arith, tt))
in_order E (opens_arguments (named f)) = (omega arith, tt)
in_order E (opens_arguments (further i)) = tt
in_order E (no_arguments (named f)) = (omega arith, tt)
in_order E (no_arguments (further i)) = tt
in_order E (separates (named f) n) = (omega arith, tt)
in_order E (separates (further i) n) = (omega arith, tt)
in_order E (closes (named f) n) = (omega arith, tt)
in_order E (closes (further i) n) = tt
in_order E (compares f) = (omega arith, tt)
in_order E (stands_alone f) = (omega arith, tt)
in_order E (plays p) = (omega arith, (omega arith, (omega arith, (omega arith, tt))))
in_order E (counts digits) = (omega arith, tt)

-- something is found that counts at this rank or before it
abbrev IsBy : ℕ → Option FaultKind → Type 0
IsBy n None = ⊥
IsBy n (Some kind) = rank kind ≤ n

-- a later test has a later kind
later_kind : (n : ℕ) (kind : FaultKind) (ts : List (Bool × FaultKind)) → AreAtLeast n ts → Holds kind ts → n ≤ rank kind
later_kind n kind [] a h = absurd h
later_kind n kind ((b, i) ∷ ts) a (inl h) = subst (λ k. n ≤ rank k) h.1 a.0
later_kind n kind ((b, i) ∷ ts) a (inr h) = let x = later_kind (rank i) kind ts a.1 h in let y : n ≤ rank i = a.0 in omega arith

first_by : (n : ℕ) (kind : FaultKind) (ts : List (Bool × FaultKind)) → AreAtLeast n ts → Holds kind ts → IsBy (rank kind) (first_of ts)
first_by n kind [] a h = absurd h
first_by n kind ((true, i) ∷ ts) a (inl h) = subst (λ k. rank i ≤ rank k) h.1 (omega arith)
first_by n kind ((true, i) ∷ ts) a (inr h) = later_kind (rank i) kind ts a.1 h
first_by n kind ((false, i) ∷ ts) a (inl h) = absurd (cc h.0)
first_by n kind ((false, i) ∷ ts) a (inr h) = first_by (rank i) kind ts a.1 h

some_same : {x y : FaultKind} → Some x ≡ Some y → x ≡ y
some_same e = cc e

first_holds : (kind : FaultKind) (ts : List (Bool × FaultKind)) → first_of ts ≡ Some kind → Holds kind ts
first_holds kind [] e = absurd (cc e)
first_holds kind ((true, i) ∷ ts) e = inl (refl, some_same e)
first_holds kind ((false, i) ∷ ts) e = inr (first_holds kind ts e)

-- ---- of several roles

picked_first : (n : ℕ) (x y : FaultKind) (b : Bool) → nat_le (rank x) (rank y) ≡ b → rank x ≤ n → IsBy n (if b then Some x else Some y)
picked_first n x y true e h = h
picked_first n x y false e h = let l = leb-false (rank x) (rank y) e in omega arith

picked_other : (n : ℕ) (x y : FaultKind) (b : Bool) → nat_le (rank x) (rank y) ≡ b → rank y ≤ n → IsBy n (if b then Some x else Some y)
picked_other n x y true e h = let l = leb-true (rank x) (rank y) e in omega arith
picked_other n x y false e h = h

sooner_first : (n : ℕ) (x y : Option FaultKind) → IsBy n x → IsBy n (sooner x y)
sooner_first n None y h = absurd h
sooner_first n (Some x) None h = h
sooner_first n (Some x) (Some y) h = picked_first n x y (nat_le (rank x) (rank y)) refl h

sooner_other : (n : ℕ) (x y : Option FaultKind) → IsBy n y → IsBy n (sooner x y)
sooner_other n None y h = h
sooner_other n (Some x) None h = absurd h
sooner_other n (Some x) (Some y) h = picked_other n x y (nat_le (rank x) (rank y)) refl h

kept_by : (n : ℕ) (E : Environment) (wrong : Option FaultKind) (roles : List Role) → IsBy n wrong → IsBy n (check_all E wrong roles)
kept_by n E wrong [] h = h
kept_by n E wrong (r ∷ rs) h = kept_by n (update E r) (sooner wrong (check E r)) rs (sooner_first n wrong (check E r) h)

found_by : (kind : FaultKind) (E : Environment) (wrong : Option FaultKind) (roles : List Role) → Finds kind E roles
    → IsBy (rank kind) (check_all E wrong roles)
found_by kind E wrong [] h = absurd h
found_by kind E wrong (r ∷ rs) (inl h) =
    kept_by (rank kind) (update E r) (sooner wrong (check E r)) rs
    (sooner_other (rank kind) wrong (check E r) (first_by 0 kind (tests E r) (in_order E r) (finds E r kind h)))
found_by kind E wrong (r ∷ rs) (inr h) = found_by kind (update E r) (sooner wrong (check E r)) rs h

picked : (kind x y : FaultKind) (b : Bool) → (if b then Some x else Some y) ≡ Some kind → (Some x ≡ Some kind) ⊎ (Some y ≡ Some kind)
picked kind x y true e = inl e
picked kind x y false e = inr e

sooner_either : (kind : FaultKind) (x y : Option FaultKind) → sooner x y ≡ Some kind → (x ≡ Some kind) ⊎ (y ≡ Some kind)
sooner_either kind None y e = inr e
sooner_either kind (Some x) None e = inl e
sooner_either kind (Some x) (Some y) e = picked kind x y (nat_le (rank x) (rank y)) e

either_found : (kind : FaultKind) (E : Environment) (wrong : Option FaultKind) (r : Role) (rs : List Role)
    → (sooner wrong (check E r) ≡ Some kind) ⊎ Finds kind (update E r) rs → (wrong ≡ Some kind) ⊎ Finds kind E (r ∷ rs)
either_found kind E wrong r rs (inr h) = inr (inr h)
either_found kind E wrong r rs (inl h) = by_side (sooner_either kind wrong (check E r) h)
  where
    by_side : (wrong ≡ Some kind) ⊎ (check E r ≡ Some kind) → (wrong ≡ Some kind) ⊎ Finds kind E (r ∷ rs)
    by_side (inl e) = inl e
    by_side (inr e) = inr (inl (tells E r kind (first_holds kind (tests E r) e)))

found : (kind : FaultKind) (E : Environment) (wrong : Option FaultKind) (roles : List Role) → check_all E wrong roles ≡ Some kind
    → (wrong ≡ Some kind) ⊎ Finds kind E roles
found kind E wrong [] e = inl e
found kind E wrong (r ∷ rs) e = either_found kind E wrong r rs (found kind (update E r) (sooner wrong (check E r)) rs e)

none_found : (kind : FaultKind) (E : Environment) (roles : List Role) → (None ≡ Some kind) ⊎ Finds kind E roles → Finds kind E roles
none_found kind E roles (inl e) = absurd (cc e)
none_found kind E roles (inr h) = h

-- what is wrong with a word is the first kind of what there is
pub first_kind : (kind : FaultKind) (E : Environment) (roles : List Role) → check_all E None roles ≡ Some kind → IsFirstOf kind E roles
first_kind kind E roles e = record {
  found = none_found kind E roles (found kind E None roles e);
  first = λ other h. subst (λ o. IsBy (rank other) o) e (found_by other E None roles h);
}
