-- What is checked at the parameters of a predicate holds exactly where they are distinct, short and few.
use Rattle.std.proofs.Common.{◌≡◌, ℕ, zero, suc, ◌+◌, ◌≤◌, ◌<◌, Bool, true, false, ◌||◌, List, [], ◌∷◌, ◌++◌, length, All, Some, slice_get, bytes_eq, length-append, refl, sym, ◌∙◌, ap, subst, arith}
use Rattle.std.proofs.lemmas.List.Elements.{All-nil, All-cons, All-head, All-tail}
use Rattle.std.proofs.lemmas.List.Folds.{list_any-append}
use Rattle.std.proofs.lemmas.Slice.Eq.{bytes_eq-Decides}
use Rattle.formula_grammar.specs.Written.{Text}
use Rattle.formula_grammar.specs.Machine.{has_parameter}
use Rattle.formula_grammar.specs.Checks.{Environment, is_among}
use Rattle.formula_ast.specs.WellFormed.{AreDistinct}
use Rattle.formula_grammar.specs.Within.{IsShort}
use Rattle.formula_grammar.specs.Limits.{most_parameters}
use Rattle.formula_grammar.proofs.Run.{Course, passes}
use Rattle.formula_grammar.proofs.WrittenRoles.{parameters_roles}
use Rattle.formula_grammar.proofs.Roles.{allowed, granted}

-- each of these is none of those before it
abbrev AreNew : List Text → List Text → Type 0
AreNew before [] = Unit {0}
AreNew before (x ∷ xs) = (is_among x before ≡ false) × AreNew (before ++ x ∷ []) xs

among_more : (t : Text) (before : List Text) (x : Text) → is_among t (before ++ x ∷ []) ≡ (is_among t before || is_among t (x ∷ []))
among_more t before x = list_any-append (λ y. bytes_eq y t) before (x ∷ [])

or_false : (a b : Bool) → (a || b) ≡ false → (a ≡ false) × (b ≡ false)
or_false true b e = absurd (cc e)
or_false false b e = (refl, e)

false_or_false : (a b : Bool) → a ≡ false → b ≡ false → (a || b) ≡ false
false_or_false a b e h = rw (e, h) refl

-- none of them is one of those before
absent : (before xs : List Text) → AreNew before xs → (t : Text) (i : ℕ) → slice_get xs i ≡ Some t → is_among t before ≡ false
absent before [] n t i e = absurd (cc e)
absent before (x ∷ xs) n t zero e = let same : x ≡ t = cc e in subst (λ t. is_among t before ≡ false) same n.0
absent before (x ∷ xs) n t (suc i) e =
    (or_false (is_among t before) (is_among t (x ∷ [])) (sym (among_more t before x) ∙ absent (before ++ x ∷ []) xs n.1 t i e)).0

-- nor is it the one before it
not_first : (before xs : List Text) (x : Text) → AreNew (before ++ x ∷ []) xs → (t : Text) (i : ℕ) → slice_get xs i ≡ Some t → x ≡ t → ⊥
not_first before xs x n t i e same =
    let a = (or_false (is_among t before) (is_among t (x ∷ [])) (sym (among_more t before x) ∙ absent (before ++ x ∷ []) xs n t i e)).1 in
    let b = (or_false (bytes_eq x t) false a).0 in
    let c : bytes_eq x t ≡ true = (bytes_eq-Decides x t).1 same in
    cc (b, c)

distinct_new : (before xs : List Text) → AreNew before xs → AreDistinct xs
distinct_new before [] n t i j e h = absurd (cc e)
distinct_new before (x ∷ xs) n t zero zero e h = refl
distinct_new before (x ∷ xs) n t zero (suc j) e h = absurd (not_first before xs x n.1 t j h (cc e))
distinct_new before (x ∷ xs) n t (suc i) zero e h = absurd (not_first before xs x n.1 t i e (cc h))
distinct_new before (x ∷ xs) n t (suc i) (suc j) e h = ap (λ n. suc n) (distinct_new (before ++ x ∷ []) xs n.1 t i j e h)

no_suc : (n : ℕ) → 0 ≡ suc n → ⊥
no_suc n e = omega arith

new_distinct : (before xs : List Text) → AreDistinct xs → ((t : Text) (i : ℕ) → slice_get xs i ≡ Some t → is_among t before ≡ false) → AreNew before xs
new_distinct before [] d n = tt
new_distinct before (x ∷ xs) d n =
    let other : (t : Text) (i : ℕ) → slice_get xs i ≡ Some t → (b : Bool) → bytes_eq x t ≡ b → b ≡ false =
    λ t i e. elim [ true ↦ λ h. let same : x ≡ t = (bytes_eq-Decides x t).0 h in absurd (no_suc i (d t 0 (suc i) (ap (λ y. Some y) same) e)) | false ↦ λ h. refl ] in (
      n x 0 refl,
      new_distinct (before ++ x ∷ []) xs (λ t i j e h. let a : suc i ≡ suc j = d t (suc i) (suc j) e h in omega arith)
          (λ t i e. among_more t before x
          ∙ false_or_false (is_among t before) (is_among t (x ∷ [])) (n t (suc i) e) (false_or_false (bytes_eq x t) false (other t i e (bytes_eq x t) refl) refl)),
    )

module _ (E : Environment) (o : Course) where
  list_allowed : (before xs : List Text) → length before ≤ most_parameters → passes E (parameters_roles before xs o) ≡ true
      → AreNew before xs × All IsShort xs × (length before + length xs ≤ most_parameters) × (passes E o ≡ true)
  list_allowed before [] n e = (tt, All-nil IsShort, omega arith, e)
  list_allowed before (x ∷ xs) n e =
      let a = allowed (has_parameter x before) (parameters_roles (before ++ x ∷ []) xs o) E e in
      let longer : length (before ++ x ∷ []) ≡ suc (length before) = grind (arith, length-append) in
      let b = list_allowed (before ++ x ∷ []) xs (omega (arith, longer, a.0.2)) a.1 in
      ((a.0.0, b.0), All-cons IsShort x xs a.0.1 b.1, omega (arith, longer, b.2), b.3)

  list_granted : (before xs : List Text) → AreNew before xs → All IsShort xs → length before + length xs ≤ most_parameters → passes E o ≡ true
      → passes E (parameters_roles before xs o) ≡ true
  list_granted before [] a b n e = e
  list_granted before (x ∷ xs) a b n e =
      let longer : length (before ++ x ∷ []) ≡ suc (length before) = grind (arith, length-append) in
      let fewer : length before < most_parameters = omega (arith, n) in
      granted (has_parameter x before) (parameters_roles (before ++ x ∷ []) xs o) E (a.0, All-head IsShort x xs b, fewer)
      (list_granted (before ++ x ∷ []) xs a.1 (All-tail IsShort x xs b) (omega (arith, longer, n)) e)

  pub parameters_allowed : (xs : List Text) → passes E (parameters_roles [] xs o) ≡ true
      → AreDistinct xs × All IsShort xs × (length xs ≤ most_parameters) × (passes E o ≡ true)
  parameters_allowed xs e = let a = list_allowed [] xs (omega arith) e in (distinct_new [] xs a.0, a.1, omega (arith, a.2), a.3)

  pub parameters_granted : (xs : List Text) → AreDistinct xs → All IsShort xs → length xs ≤ most_parameters → passes E o ≡ true
      → passes E (parameters_roles [] xs o) ≡ true
  parameters_granted xs d a n e = list_granted [] xs (new_distinct [] xs d (λ t i e. refl)) a (omega (arith, n)) e
