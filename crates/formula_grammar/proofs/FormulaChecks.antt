-- Nothing is wrong with the words of a formula exactly where it uses names as they are declared and is within the limits.
use Rattle.std.proofs.Common.{◌≡◌, ℕ, suc, ◌+◌, ◌≤◌, ◌<◌, true, false, List, [], ◌∷◌, ◌++◌, length, All, Option, Some, None, refl, sym, ◌∙◌, ap, subst, arith, append_assoc, append-nil}
use Rattle.std.specs.Cmp.Derive.{both_true}
use Rattle.std.proofs.lemmas.List.Elements.{All-nil, All-cons, All-head, All-tail}
use Rattle.tree_model.specs.declared.kind.Kind.{Kind}
use Rattle.tree_model.specs.declared.kind.Kind.TheVariants as kind
use Rattle.tree_model.specs.Signatures.{Signature}
use Rattle.formula_grammar.specs.Limits.{deepest_nesting, most_joints}
use Rattle.formula_grammar.specs.Written.{Text, named, WrittenTerm, WrittenTerms, Joint, and, or, imp, iff, WrittenFormula, truth, finite, win, compared, call, no, group, joined, quantified}
use Rattle.formula_grammar.specs.Machine.{Place, deeper, binding, opens, joins, binds, begins_atom, stands_alone, plays, counts, sign_roles, right_place}
use Rattle.formula_grammar.specs.Checks.{Environment, declared, is_declared, is_declared_as, arity_in}
use Rattle.formula_grammar.specs.Names.{count, UsesNames, is_bound, has_bound}
use Rattle.formula_grammar.specs.Within.{IsShort, IsSmall, nesting, joints, right_nesting, joint_weight}
use Rattle.formula_grammar.proofs.Run.{Course, in_role, in_roles, passes}
use Rattle.formula_grammar.proofs.WrittenRoles.{term_roles, arguments_roles, variables_roles, bind_all, formula_roles}
use Rattle.formula_grammar.proofs.Roles.{allowed, granted}
use Rattle.formula_grammar.proofs.TermChecks.{term_allowed, term_granted, arguments_allowed, arguments_granted, left_allowed, left_granted, true_both}

-- the place with these variables bound
abbrev pub placed : Place → List Text → Place
placed c xs = record c { bound = xs }

bind_is : (xs : List Text) (c : Place) → bind_all xs c ≡ placed c (c.bound ++ xs)
bind_is [] c = ap (λ ys. placed c ys) (sym (append-nil c.bound))
bind_is (x ∷ xs) c = bind_is xs (binding x c) ∙ ap (λ ys. placed c ys) (append_assoc c.bound (x ∷ []) xs)

is_predicate : (o : Option (Kind × ℕ)) (n : ℕ) → is_declared o ≡ true → is_declared_as kind.Symbol o ≡ false → n ≡ arity_in o → o ≡ Some (kind.Pred, n)
is_predicate None n a b e = absurd (cc a)
is_predicate (Some (kind.Pred, m)) n a b e = ap (λ x. Some (kind.Pred, x)) (sym e)
is_predicate (Some (kind.Symbol, m)) n a b e = absurd (cc b)

predicate_declared : (o : Option (Kind × ℕ)) (n : ℕ) → o ≡ Some (kind.Pred, n) → is_declared o ≡ true
predicate_declared o n e = rw e refl

predicate_sort : (o : Option (Kind × ℕ)) (n : ℕ) → o ≡ Some (kind.Pred, n) → is_declared_as kind.Symbol o ≡ false
predicate_sort o n e = rw e refl

predicate_arity : (o : Option (Kind × ℕ)) (n : ℕ) → o ≡ Some (kind.Pred, n) → n ≡ arity_in o
predicate_arity o n e = rw e refl

module _ (σ : Signature) where
  -- these names are declared, and the statement has so many `&`, `|` and variables in quantifiers' lists so far
  abbrev pub at_joints : ℕ → Environment
  at_joints j = record { signature = σ; joints = j }

  -- a formula is lawful at its place, of which only this counts: how deep it is, and whether these are all variables
  abbrev Fits : ℕ → Place → ℕ → ℕ → ℕ → WrittenFormula → Type 0
  Fits depth c nests j more f =
      UsesNames σ f × (c.closed ≡ true → is_bound c.bound f ≡ true) × IsSmall f × (depth + nests ≤ deepest_nesting) × (j + more ≤ most_joints)

  abbrev pub FormulaFits : Place → ℕ → WrittenFormula → Type 0
  FormulaFits c j f = Fits c.depth c (nesting f) j (joints f) f

  moved : (o : Course) (m n : ℕ) → m ≡ n → passes (at_joints m) o ≡ true → passes (at_joints n) o ≡ true
  moved o m n e h = subst (λ n. passes (at_joints n) o ≡ true) e h

  bound_allowed : (xs : List Text) (o : Course) (j : ℕ) → j ≤ most_joints → passes (at_joints j) (variables_roles xs o) ≡ true
      → All IsShort xs × (j + length xs ≤ most_joints) × (passes (at_joints (j + length xs)) o ≡ true)
  bound_allowed [] o j n e = (All-nil IsShort, omega arith, moved o j (j + 0) (omega arith) e)
  bound_allowed (x ∷ xs) o j n e =
      let a = allowed (binds x) (variables_roles xs o) (at_joints j) e in
      let b = bound_allowed xs o (suc j) (omega (arith, a.0.1)) a.1 in
      (All-cons IsShort x xs a.0.0 b.0, omega (arith, b.1), moved o (suc j + length xs) (j + suc (length xs)) (omega arith) b.2)

  bound_granted : (xs : List Text) (o : Course) (j : ℕ) → All IsShort xs → j + length xs ≤ most_joints → passes (at_joints (j + length xs)) o ≡ true
      → passes (at_joints j) (variables_roles xs o) ≡ true
  bound_granted [] o j a n e = moved o (j + 0) j (omega arith) e
  bound_granted (x ∷ xs) o j a n e =
      let fewer : j < most_joints = omega (arith, n) in
      granted (binds x) (variables_roles xs o) (at_joints j) (All-head IsShort x xs a, fewer)
      (bound_granted xs o (suc j) (All-tail IsShort x xs a) (omega (arith, n)) (moved o (j + suc (length xs)) (suc j + length xs) (omega arith) e))

  abbrev BodyAllowed : WrittenFormula → Type 0
  BodyAllowed f = (c : Place) (o : Course) (j : ℕ) → c.depth ≤ deepest_nesting → j ≤ most_joints → passes (at_joints j) (formula_roles c f o) ≡ true
      → FormulaFits c j f × (passes (at_joints (j + joints f)) o ≡ true)

  abbrev BodyGranted : WrittenFormula → Type 0
  BodyGranted f = (c : Place) (o : Course) (j : ℕ) → FormulaFits c j f → passes (at_joints (j + joints f)) o ≡ true
      → passes (at_joints j) (formula_roles c f o) ≡ true

  -- ---- a quantifier's variables and body, in a nesting

  behind_allowed : (f : WrittenFormula) → BodyAllowed f → (xs : List Text) (c : Place) (o : Course) (j : ℕ) → c.depth ≤ deepest_nesting → j ≤ most_joints
      → passes (at_joints j) (in_role (opens (suc c.depth)) (variables_roles xs (formula_roles (bind_all xs (deeper c)) f o))) ≡ true
      → UsesNames σ f × (c.closed ≡ true → is_bound (c.bound ++ xs) f ≡ true) × (All IsShort xs × IsSmall f)
      × (c.depth + suc (nesting f) ≤ deepest_nesting) × (j + (length xs + joints f) ≤ most_joints)
      × (passes (at_joints (j + (length xs + joints f))) o ≡ true)
  behind_allowed f ih xs c o j d n e =
      let a = allowed (opens (suc c.depth)) (variables_roles xs (formula_roles (bind_all xs (deeper c)) f o)) (at_joints j) e in
      let b = bound_allowed xs (formula_roles (bind_all xs (deeper c)) f o) j n a.1 in
      let place : bind_all xs (deeper c) ≡ placed (deeper c) (c.bound ++ xs) = bind_is xs (deeper c) in
      let h = ih (placed (deeper c) (c.bound ++ xs)) o (j + length xs) a.0 b.1
      (subst (λ x. passes (at_joints (j + length xs)) (formula_roles x f o) ≡ true) place b.2) in (
        h.0.0,
        h.0.1,
        (b.0, h.0.2),
        omega (arith, h.0.3),
        omega (arith, h.0.4),
        moved o (j + length xs + joints f) (j + (length xs + joints f)) (omega arith) h.1,
      )

  behind_granted : (f : WrittenFormula) → BodyGranted f → (xs : List Text) (c : Place) (o : Course) (j : ℕ) → UsesNames σ f
      → (c.closed ≡ true → is_bound (c.bound ++ xs) f ≡ true) → All IsShort xs → IsSmall f → c.depth + suc (nesting f) ≤ deepest_nesting
      → j + (length xs + joints f) ≤ most_joints → passes (at_joints (j + (length xs + joints f))) o ≡ true
      → passes (at_joints j) (in_role (opens (suc c.depth)) (variables_roles xs (formula_roles (bind_all xs (deeper c)) f o))) ≡ true
  behind_granted f ih xs c o j u b short small deep few e =
      let d : suc c.depth ≤ deepest_nesting = omega arith in
      let place : bind_all xs (deeper c) ≡ placed (deeper c) (c.bound ++ xs) = bind_is xs (deeper c) in
      let inner : passes (at_joints (j + length xs)) (formula_roles (placed (deeper c) (c.bound ++ xs)) f o) ≡ true =
      ih (placed (deeper c) (c.bound ++ xs)) o (j + length xs) (u, b, small, omega arith, omega arith)
      (moved o (j + (length xs + joints f)) (j + length xs + joints f) (omega arith) e) in
      granted (opens (suc c.depth)) (variables_roles xs (formula_roles (bind_all xs (deeper c)) f o)) (at_joints j) d
      (bound_granted xs (formula_roles (bind_all xs (deeper c)) f o) j short (omega arith)
      (subst (λ x. passes (at_joints (j + length xs)) (formula_roles x f o) ≡ true) (sym place) inner))

  -- ---- a formula one nesting deeper

  deeper_allowed : (f : WrittenFormula) → BodyAllowed f → BodyAllowed (no f)
  deeper_allowed f ih c o j d n e =
      let a = allowed (opens (suc c.depth)) (formula_roles (deeper c) f o) (at_joints j) e in
      let h = ih (deeper c) o j a.0 n a.1 in
      ((h.0.0, h.0.1, h.0.2, omega (arith, h.0.3), h.0.4), h.1)

  deeper_granted : (f : WrittenFormula) → BodyGranted f → BodyGranted (no f)
  deeper_granted f ih c o j a e =
      let d : suc c.depth ≤ deepest_nesting = omega (arith, a.3) in
      granted (opens (suc c.depth)) (formula_roles (deeper c) f o) (at_joints j) d
      (ih (deeper c) o j (a.0, a.1, a.2, omega (arith, a.3), a.4) e)

  -- ---- a joint

  sign_allowed : (i : Joint) (c : Place) (o : Course) (j : ℕ) → c.depth ≤ deepest_nesting → j ≤ most_joints
      → passes (at_joints j) (in_roles (sign_roles i c) o) ≡ true
      → ((right_place i c).depth ≤ deepest_nesting) × (j + joint_weight i ≤ most_joints) × (passes (at_joints (j + joint_weight i)) o ≡ true)
  sign_allowed and c o j d n e = let a = allowed joins o (at_joints j) e in (d, omega (arith, a.0), moved o (suc j) (j + 1) (omega arith) a.1)
  sign_allowed or c o j d n e = let a = allowed joins o (at_joints j) e in (d, omega (arith, a.0), moved o (suc j) (j + 1) (omega arith) a.1)
  sign_allowed imp c o j d n e =
      let a = allowed (opens (suc c.depth)) o (at_joints j) e in (a.0, omega arith, moved o j (j + 0) (omega arith) a.1)
  sign_allowed iff c o j d n e = (d, omega arith, moved o j (j + 0) (omega arith) e)

  sign_granted : (i : Joint) (c : Place) (o : Course) (j : ℕ) → c.depth + right_nesting i ≤ deepest_nesting → j + joint_weight i ≤ most_joints
      → passes (at_joints (j + joint_weight i)) o ≡ true → passes (at_joints j) (in_roles (sign_roles i c) o) ≡ true
  sign_granted and c o j d n e =
      let fewer : j < most_joints = omega arith in granted joins o (at_joints j) fewer (moved o (j + 1) (suc j) (omega arith) e)
  sign_granted or c o j d n e =
      let fewer : j < most_joints = omega arith in granted joins o (at_joints j) fewer (moved o (j + 1) (suc j) (omega arith) e)
  sign_granted imp c o j d n e =
      let deep : suc c.depth ≤ deepest_nesting = omega arith in granted (opens (suc c.depth)) o (at_joints j) deep (moved o (j + 0) j (omega arith) e)
  sign_granted iff c o j d n e = moved o (j + 0) j (omega arith) e

  -- the right side of a joint, seen from the joint's place
  right_fits : (i : Joint) (c : Place) (j : ℕ) (g : WrittenFormula) → FormulaFits (right_place i c) j g → Fits c.depth c (right_nesting i + nesting g) j (joints g) g
  right_fits and c j g a = (a.0, a.1, a.2, omega (arith, a.3), a.4)
  right_fits or c j g a = (a.0, a.1, a.2, omega (arith, a.3), a.4)
  right_fits imp c j g a = (a.0, a.1, a.2, omega (arith, a.3), a.4)
  right_fits iff c j g a = (a.0, a.1, a.2, omega (arith, a.3), a.4)

  fits_right : (i : Joint) (c : Place) (j : ℕ) (g : WrittenFormula) → Fits c.depth c (right_nesting i + nesting g) j (joints g) g → FormulaFits (right_place i c) j g
  fits_right and c j g a = (a.0, a.1, a.2, omega (arith, a.3), a.4)
  fits_right or c j g a = (a.0, a.1, a.2, omega (arith, a.3), a.4)
  fits_right imp c j g a = (a.0, a.1, a.2, omega (arith, a.3), a.4)
  fits_right iff c j g a = (a.0, a.1, a.2, omega (arith, a.3), a.4)

  joined_allowed : (i : Joint) (f g : WrittenFormula) → BodyAllowed f → BodyAllowed g → BodyAllowed (joined i f g)
  joined_allowed i f g ihf ihg c o j d n e =
      let a = ihf c (in_roles (sign_roles i c) (formula_roles (right_place i c) g o)) j d n e in
      let b = sign_allowed i c (formula_roles (right_place i c) g o) (j + joints f) d a.0.4 a.1 in
      let h = ihg (right_place i c) o (j + joints f + joint_weight i) b.0 b.1 b.2 in
      let r = right_fits i c (j + joints f + joint_weight i) g h.0 in (
        ((a.0.0, r.0), (λ x. both_true (a.0.1 x) (r.1 x)), (a.0.2, r.2), omega (arith, a.0.3, r.3), omega (arith, r.4)),
        moved o (j + joints f + joint_weight i + joints g) (j + (joints f + (joint_weight i + joints g))) (omega arith) h.1,
      )

  joined_granted : (i : Joint) (f g : WrittenFormula) → BodyGranted f → BodyGranted g → BodyGranted (joined i f g)
  joined_granted i f g ihf ihg c o j a e =
      let b = λ (x : c.closed ≡ true). true_both (is_bound c.bound f) (is_bound c.bound g) (a.1 x) in
      ihf c (in_roles (sign_roles i c) (formula_roles (right_place i c) g o)) j (a.0.0, (λ x. (b x).0), a.2.0, omega (arith, a.3), omega (arith, a.4))
      (sign_granted i c (formula_roles (right_place i c) g o) (j + joints f) (omega (arith, a.3)) (omega (arith, a.4))
      (ihg (right_place i c) o (j + joints f + joint_weight i)
      (fits_right i c (j + joints f + joint_weight i) g (a.0.1, (λ x. (b x).1), a.2.1, omega (arith, a.3), omega (arith, a.4)))
      (moved o (j + (joints f + (joint_weight i + joints g))) (j + joints f + joint_weight i + joints g) (omega arith) e)))

  -- ---- atoms

  win_allowed : (p digits : Text) (t : WrittenTerm) → BodyAllowed (win p digits t)
  win_allowed p digits t c o j d n e =
      let third : Course = term_roles (deeper c) t o in
      let a = allowed (opens (suc c.depth)) (in_role (plays p) (in_role (counts digits) third)) (at_joints j) e in
      let x = allowed (plays p) (in_role (counts digits) third) (at_joints j) a.1 in
      let y = allowed (counts digits) third (at_joints j) x.1 in
      let b = term_allowed (at_joints j) (deeper c) t o a.0 y.1 in
      (((x.0.0, b.0.0), b.0.1, (x.0.1, y.0, b.0.2), omega (arith, b.0.3), omega arith), moved o j (j + 0) (omega arith) b.1)

  win_granted : (p digits : Text) (t : WrittenTerm) → BodyGranted (win p digits t)
  win_granted p digits t c o j a e =
      let third : Course = term_roles (deeper c) t o in
      let d : suc c.depth ≤ deepest_nesting = omega (arith, a.3) in
      granted (opens (suc c.depth)) (in_role (plays p) (in_role (counts digits) third)) (at_joints j) d
      (granted (plays p) (in_role (counts digits) third) (at_joints j) (a.0.0, a.2.0)
      (granted (counts digits) third (at_joints j) a.2.1
      (term_granted (at_joints j) (deeper c) t o (a.0.1, a.1, a.2.2, omega (arith, a.3)) (moved o (j + 0) j (omega arith) e))))

  call_allowed : (p : Text) (ts : WrittenTerms) → BodyAllowed (call p ts)
  call_allowed p ts c o j d n e =
      let a = allowed (begins_atom p) (arguments_roles (named p) c ts (in_role (stands_alone p) o)) (at_joints j) e in
      let b = arguments_allowed (at_joints j) (named p) c ts (in_role (stands_alone p) o) d a.1 in
      let x = allowed (stands_alone p) o (at_joints j) b.2 in (
        ((is_predicate (declared σ p) (count ts) a.0.0 x.0 b.1, b.0.0), b.0.1, (a.0.1, b.0.2), b.0.3, omega arith),
        moved o j (j + 0) (omega arith) x.1,
      )

  call_granted : (p : Text) (ts : WrittenTerms) → BodyGranted (call p ts)
  call_granted p ts c o j a e =
      let x : Option (Kind × ℕ) = declared σ p in
      granted (begins_atom p) (arguments_roles (named p) c ts (in_role (stands_alone p) o)) (at_joints j)
      (predicate_declared x (count ts) a.0.0, a.2.0)
      (arguments_granted (at_joints j) (named p) c ts (in_role (stands_alone p) o) (predicate_arity x (count ts) a.0.0) (a.0.1, a.1, a.2.1, a.3)
      (granted (stands_alone p) o (at_joints j) (predicate_sort x (count ts) a.0.0) (moved o (j + 0) j (omega arith) e)))

  -- ---- formulas

  pub formula_allowed : (f : WrittenFormula) → BodyAllowed f
  formula_allowed (truth b) = λ c o j d n e. ((tt, (λ x. refl), tt, omega arith, omega arith), moved o j (j + 0) (omega arith) e)
  formula_allowed (finite t) = λ c o j d n e.
      let a = allowed (opens (suc c.depth)) (term_roles (deeper c) t o) (at_joints j) e in
      let b = term_allowed (at_joints j) (deeper c) t o a.0 a.1 in
      ((b.0.0, b.0.1, b.0.2, omega (arith, b.0.3), omega arith), moved o j (j + 0) (omega arith) b.1)
  formula_allowed (win p digits t) = win_allowed p digits t
  formula_allowed (compared r t u) = λ c o j d n e.
      let a = left_allowed (at_joints j) c t (term_roles c u o) d e in
      let b = term_allowed (at_joints j) c u o d a.1 in (
        ((a.0.0, b.0.0), (λ x. both_true (a.0.1 x) (b.0.1 x)), (a.0.2, b.0.2), omega (arith, a.0.3, b.0.3), omega arith),
        moved o j (j + 0) (omega arith) b.1,
      )
  formula_allowed (call p ts) = call_allowed p ts
  formula_allowed (no f) = deeper_allowed f (formula_allowed f)
  formula_allowed (group f) = deeper_allowed f (formula_allowed f)
  formula_allowed (joined i f g) = joined_allowed i f g (formula_allowed f) (formula_allowed g)
  formula_allowed (quantified q x xs f) = λ c o j d n e.
      let a = behind_allowed f (formula_allowed f) (x ∷ xs) c o j d n e in ((a.0, a.1, a.2, a.3, a.4), a.5)

  pub formula_granted : (f : WrittenFormula) → BodyGranted f
  formula_granted (truth b) = λ c o j a e. moved o (j + 0) j (omega arith) e
  formula_granted (finite t) = λ c o j a e.
      let d : suc c.depth ≤ deepest_nesting = omega (arith, a.3) in
      granted (opens (suc c.depth)) (term_roles (deeper c) t o) (at_joints j) d
      (term_granted (at_joints j) (deeper c) t o (a.0, a.1, a.2, omega (arith, a.3)) (moved o (j + 0) j (omega arith) e))
  formula_granted (win p digits t) = win_granted p digits t
  formula_granted (compared r t u) = λ c o j a e.
      let b = λ (x : c.closed ≡ true). true_both (has_bound c.bound t) (has_bound c.bound u) (a.1 x) in
      left_granted (at_joints j) c t (term_roles c u o) (a.0.0, (λ x. (b x).0), a.2.0, omega (arith, a.3))
      (term_granted (at_joints j) c u o (a.0.1, (λ x. (b x).1), a.2.1, omega (arith, a.3)) (moved o (j + 0) j (omega arith) e))
  formula_granted (call p ts) = call_granted p ts
  formula_granted (no f) = deeper_granted f (formula_granted f)
  formula_granted (group f) = deeper_granted f (formula_granted f)
  formula_granted (joined i f g) = joined_granted i f g (formula_granted f) (formula_granted g)
  formula_granted (quantified q x xs f) = λ c o j a e.
      behind_granted f (formula_granted f) (x ∷ xs) c o j a.0 a.1 a.2.0 a.2.1 a.3 a.4 e
