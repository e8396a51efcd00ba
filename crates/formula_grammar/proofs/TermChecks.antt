-- What is checked at a term holds exactly where the term is lawful.
use Rattle.std.proofs.Common.{◌≡◌, ℕ, suc, ◌+◌, ◌≤◌, Bool, true, false, ◌&&◌, Option, Some, None, refl, sym, ap, subst, arith}
use Rattle.std.specs.Cmp.Derive.{both_true}
use Rattle.tree_model.specs.declared.kind.Kind.{Kind}
use Rattle.tree_model.specs.declared.kind.Kind.TheVariants as kind
use Rattle.tree_model.specs.Signatures.{Signature}
use Rattle.formula_grammar.specs.Written.{Head, named, further, WrittenTerm, variable, headed, WrittenTerms, no_terms, one_more}
use Rattle.formula_grammar.specs.Limits.{most_arguments, deepest_nesting}
use Rattle.formula_grammar.specs.Machine.{Place, deeper, opens, stands, heads, begins_atom, opens_arguments, no_arguments, separates, closes, compares}
use Rattle.formula_grammar.specs.Checks.{Environment, declared, is_declared, is_declared_as, arity_in}
use Rattle.formula_grammar.specs.Names.{count, TakesArguments, UsesSymbols, AllUseSymbols, has_bound, all_have_bound}
use Rattle.formula_grammar.specs.Within.{IsSmallHead, IsSmallTerm, AreSmallTerms, term_nesting, terms_nesting}
use Rattle.formula_grammar.proofs.Run.{Course, in_role, passes}
use Rattle.formula_grammar.proofs.WrittenRoles.{term_roles, arguments_roles, more_roles, left_roles}
use Rattle.formula_grammar.proofs.Roles.{Allowed, allowed, granted}

-- a term is lawful at its place, and so are arguments within a term at a place
abbrev pub TermFits : Signature → Place → WrittenTerm → Type 0
TermFits σ c t = UsesSymbols σ t × (c.closed ≡ true → has_bound c.bound t ≡ true) × IsSmallTerm t × (c.depth + term_nesting t ≤ deepest_nesting)

abbrev pub ArgumentsFit : Signature → Place → WrittenTerms → Type 0
ArgumentsFit σ c ts =
    AllUseSymbols σ ts × (c.closed ≡ true → all_have_bound c.bound ts ≡ true) × AreSmallTerms ts × (c.depth + terms_nesting ts ≤ deepest_nesting)

-- the head takes so many arguments, and may take them and more
abbrev pub Takes : Environment → Head → ℕ → Type 0
Takes E (named f) n = n ≡ arity_in (declared E.signature f)
Takes E (further i) n = n ≤ most_arguments

abbrev pub MayTake : Environment → Head → ℕ → Type 0
MayTake E (named f) n = n ≤ arity_in (declared E.signature f)
MayTake E (further i) n = n ≤ most_arguments

is_symbol : (o : Option (Kind × ℕ)) (n : ℕ) → is_declared o ≡ true → is_declared_as kind.Pred o ≡ false → n ≡ arity_in o → o ≡ Some (kind.Symbol, n)
is_symbol None n a b e = absurd (cc a)
is_symbol (Some (kind.Symbol, m)) n a b e = ap (λ x. Some (kind.Symbol, x)) (sym e)
is_symbol (Some (kind.Pred, m)) n a b e = absurd (cc b)

symbol_declared : (o : Option (Kind × ℕ)) (n : ℕ) → o ≡ Some (kind.Symbol, n) → is_declared o ≡ true
symbol_declared o n e = rw e refl

symbol_sort : (o : Option (Kind × ℕ)) (n : ℕ) → o ≡ Some (kind.Symbol, n) → is_declared_as kind.Pred o ≡ false
symbol_sort o n e = rw e refl

symbol_arity : (o : Option (Kind × ℕ)) (n : ℕ) → o ≡ Some (kind.Symbol, n) → n ≡ arity_in o
symbol_arity o n e = rw e refl

pub true_both : (a b : Bool) → (a && b) ≡ true → (a ≡ true) × (b ≡ true)
true_both true b e = (refl, e)
true_both false b e = absurd (cc e)

module _ (E : Environment) where
  takes_all : (h : Head) (n : ℕ) → MayTake E h n → Allowed E (closes h n) → Takes E h (n + 0)
  takes_all (named f) n a b = omega arith
  takes_all (further i) n a b = omega arith

  takes_none : (h : Head) → Allowed E (no_arguments h) → Takes E h 0
  takes_none (named f) a = omega arith
  takes_none (further i) a = omega arith

  may_begin : (h : Head) → Allowed E (opens_arguments h) → MayTake E h 1
  may_begin (named f) a = a
  may_begin (further i) a = omega arith

  may_go_on : (h : Head) (n : ℕ) → Allowed E (separates h n) → MayTake E h (suc n)
  may_go_on (named f) n a = omega arith
  may_go_on (further i) n a = omega arith

  -- a head that is allowed, with its arguments, is used as it is declared and within the limits
  head_fits : (h : Head) (n : ℕ) → Allowed E (heads h) → Takes E h n → TakesArguments E.signature h n × IsSmallHead h n
  head_fits (named f) n a b = (is_symbol (declared E.signature f) n a.0 a.1 b, a.2)
  head_fits (further i) n a b = (tt, (a, b))

  head_allowed : (h : Head) (n : ℕ) → TakesArguments E.signature h n → IsSmallHead h n → Allowed E (heads h) × Takes E h n
  head_allowed (named f) n a b =
      let x : Option (Kind × ℕ) = declared E.signature f in ((symbol_declared x n a, symbol_sort x n a, b), symbol_arity x n a)
  head_allowed (further i) n a b = (b.0, b.1)

  takes_same : (h : Head) (m n : ℕ) → m ≡ n → Takes E h m → Takes E h n
  takes_same h m n e a = subst (λ n. Takes E h n) e a

  more_fit : (c : Place) (t : WrittenTerm) (ts : WrittenTerms) → TermFits E.signature (deeper c) t → ArgumentsFit E.signature c ts
      → ArgumentsFit E.signature c (one_more t ts)
  more_fit c t ts a b = ((a.0, b.0), (λ x. both_true (a.1 x) (b.1 x)), (a.2, b.2), omega (arith, a.3, b.3))

  none_fit : (c : Place) → c.depth ≤ deepest_nesting → ArgumentsFit E.signature c no_terms
  none_fit c d = (tt, (λ x. refl), tt, omega arith)

  mutual
    pub term_allowed : (c : Place) (t : WrittenTerm) (o : Course) → c.depth ≤ deepest_nesting → passes E (term_roles c t o) ≡ true
        → TermFits E.signature c t × (passes E o ≡ true)
    term_allowed c (variable x) o d e =
        let a = allowed (stands x c) o E e in ((tt, a.0.0, a.0.1, omega arith), a.1)
    term_allowed c (headed h ts) o d e =
        let a = allowed (heads h) (arguments_roles h c ts o) E e in
        let b = arguments_allowed h c ts o d a.1 in
        let f = head_fits h (count ts) a.0 b.1 in
        (((f.0, b.0.0), b.0.1, (f.1, b.0.2), b.0.3), b.2)

    pub arguments_allowed : (h : Head) (c : Place) (ts : WrittenTerms) (o : Course) → c.depth ≤ deepest_nesting → passes E (arguments_roles h c ts o) ≡ true
        → ArgumentsFit E.signature c ts × Takes E h (count ts) × (passes E o ≡ true)
    arguments_allowed h c no_terms o d e =
        let a = allowed (no_arguments h) o E e in (none_fit c d, takes_none h a.0, a.1)
    arguments_allowed h c (one_more t ts) o d e =
        let more : Course = more_roles h 1 (deeper c) ts o in
        let a = allowed (opens_arguments h) (in_role (opens (suc c.depth)) (term_roles (deeper c) t more)) E e in
        let b = allowed (opens (suc c.depth)) (term_roles (deeper c) t more) E a.1 in
        let x = term_allowed (deeper c) t more b.0 b.1 in
        let y = more_allowed h 1 c ts o b.0 (may_begin h a.0) x.1 in
        (more_fit c t ts x.0 y.0, takes_same h (1 + count ts) (suc (count ts)) (omega arith) y.1, y.2)

    pub more_allowed : (h : Head) (n : ℕ) (c : Place) (ts : WrittenTerms) (o : Course) → suc c.depth ≤ deepest_nesting → MayTake E h n
        → passes E (more_roles h n (deeper c) ts o) ≡ true → ArgumentsFit E.signature c ts × Takes E h (n + count ts) × (passes E o ≡ true)
    more_allowed h n c no_terms o d m e =
        let a = allowed (closes h n) o E e in (none_fit c (omega arith), takes_all h n m a.0, a.1)
    more_allowed h n c (one_more t ts) o d m e =
        let more : Course = more_roles h (suc n) (deeper c) ts o in
        let a = allowed (separates h n) (term_roles (deeper c) t more) E e in
        let x = term_allowed (deeper c) t more d a.1 in
        let y = more_allowed h (suc n) c ts o d (may_go_on h n a.0) x.1 in
        (more_fit c t ts x.0 y.0, takes_same h (suc n + count ts) (n + suc (count ts)) (omega arith) y.1, y.2)

  -- ---- and the other way

  is_all : (h : Head) (n : ℕ) → Takes E h (n + 0) → Allowed E (closes h n)
  is_all (named f) n a = omega arith
  is_all (further i) n a = tt

  is_none : (h : Head) → Takes E h 0 → Allowed E (no_arguments h)
  is_none (named f) a = omega arith
  is_none (further i) a = tt

  some_begin : (h : Head) (n : ℕ) → Takes E h (suc n) → Allowed E (opens_arguments h)
  some_begin (named f) n a = omega arith
  some_begin (further i) n a = tt

  some_go_on : (h : Head) (n m : ℕ) → Takes E h (n + suc m) → Allowed E (separates h n)
  some_go_on (named f) n m a = omega arith
  some_go_on (further i) n m a = omega arith

  first_fits : (c : Place) (t : WrittenTerm) (ts : WrittenTerms) → ArgumentsFit E.signature c (one_more t ts) → TermFits E.signature (deeper c) t
  first_fits c t ts a = (a.0.0, (λ x. (true_both (has_bound c.bound t) (all_have_bound c.bound ts) (a.1 x)).0), a.2.0, omega (arith, a.3))

  others_fit : (c : Place) (t : WrittenTerm) (ts : WrittenTerms) → ArgumentsFit E.signature c (one_more t ts) → ArgumentsFit E.signature c ts
  others_fit c t ts a = (a.0.1, (λ x. (true_both (has_bound c.bound t) (all_have_bound c.bound ts) (a.1 x)).1), a.2.1, omega (arith, a.3))

  mutual
    pub term_granted : (c : Place) (t : WrittenTerm) (o : Course) → TermFits E.signature c t → passes E o ≡ true → passes E (term_roles c t o) ≡ true
    term_granted c (variable x) o a e = granted (stands x c) o E (a.1, a.2) e
    term_granted c (headed h ts) o a e =
        let f = head_allowed h (count ts) a.0.0 a.2.0 in
        granted (heads h) (arguments_roles h c ts o) E f.0 (arguments_granted h c ts o f.1 (a.0.1, a.1, a.2.1, a.3) e)

    pub arguments_granted : (h : Head) (c : Place) (ts : WrittenTerms) (o : Course) → Takes E h (count ts) → ArgumentsFit E.signature c ts
        → passes E o ≡ true → passes E (arguments_roles h c ts o) ≡ true
    arguments_granted h c no_terms o n a e = granted (no_arguments h) o E (is_none h n) e
    arguments_granted h c (one_more t ts) o n a e =
        let more : Course = more_roles h 1 (deeper c) ts o in
        let d : suc c.depth ≤ deepest_nesting = omega (arith, a.3) in
        granted (opens_arguments h) (in_role (opens (suc c.depth)) (term_roles (deeper c) t more)) E (some_begin h (count ts) n)
        (granted (opens (suc c.depth)) (term_roles (deeper c) t more) E d
        (term_granted (deeper c) t more (first_fits c t ts a)
        (more_granted h 1 c ts o (takes_same h (suc (count ts)) (1 + count ts) (omega arith) n) (others_fit c t ts a) e)))

    pub more_granted : (h : Head) (n : ℕ) (c : Place) (ts : WrittenTerms) (o : Course) → Takes E h (n + count ts) → ArgumentsFit E.signature c ts
        → passes E o ≡ true → passes E (more_roles h n (deeper c) ts o) ≡ true
    more_granted h n c no_terms o m a e = granted (closes h n) o E (is_all h n m) e
    more_granted h n c (one_more t ts) o m a e =
        let more : Course = more_roles h (suc n) (deeper c) ts o in
        granted (separates h n) (term_roles (deeper c) t more) E (some_go_on h n (count ts) m)
        (term_granted (deeper c) t more (first_fits c t ts a)
        (more_granted h (suc n) c ts o (takes_same h (n + suc (count ts)) (suc n + count ts) (omega arith) m) (others_fit c t ts a) e))

  -- ---- the left side of a comparison

  pub left_allowed : (c : Place) (t : WrittenTerm) (o : Course) → c.depth ≤ deepest_nesting → passes E (left_roles c t o) ≡ true
      → TermFits E.signature c t × (passes E o ≡ true)
  left_allowed c (variable x) o d e = term_allowed c (variable x) o d e
  left_allowed c (headed (further i) ts) o d e = term_allowed c (headed (further i) ts) o d e
  left_allowed c (headed (named f) ts) o d e =
      let a = allowed (begins_atom f) (arguments_roles (named f) c ts (in_role (compares f) o)) E e in
      let b = arguments_allowed (named f) c ts (in_role (compares f) o) d a.1 in
      let x = allowed (compares f) o E b.2 in
      (((is_symbol (declared E.signature f) (count ts) a.0.0 x.0 b.1, b.0.0), b.0.1, (a.0.1, b.0.2), b.0.3), x.1)

  pub left_granted : (c : Place) (t : WrittenTerm) (o : Course) → TermFits E.signature c t → passes E o ≡ true → passes E (left_roles c t o) ≡ true
  left_granted c (variable x) o a e = term_granted c (variable x) o a e
  left_granted c (headed (further i) ts) o a e = term_granted c (headed (further i) ts) o a e
  left_granted c (headed (named f) ts) o a e =
      let h = head_allowed (named f) (count ts) a.0.0 a.2.0 in
      granted (begins_atom f) (arguments_roles (named f) c ts (in_role (compares f) o)) E (h.0.0, h.0.2)
      (arguments_granted (named f) c ts (in_role (compares f) o) h.1 (a.0.1, a.1, a.2.1, a.3) (granted (compares f) o E h.0.1 e))
