-- When simple formulas are equal.
use Rattle.std.proofs.Common.{◌≡◌, ℕ, zero, suc, Bool, true, false, List, [], ◌∷◌, ◌++◌, sym, ap, subst, ◌∙◌, ◌⊎◌, inl, inr, arith}
use Rattle.std.specs.Prelude.{◌↔◌, IsTrue, All, Contains}
use Rattle.std.proofs.lemmas.List.Elements.{Contains-push, Contains-push_cases, Contains-append_left}
use Rattle.lists.specs.Distinct.{IsDistinct}
use Rattle.formula_ast.specs.declared.formula.Formula.{Formula}
use Rattle.formula_ast.specs.declared.formula.Formula.TheVariants as v
use Rattle.formula_ast.specs.declared.term.Term.{Term}
use Rattle.formula_ast.specs.declared.term.Terms.{Terms}
use Rattle.formula_ast.specs.declared.term.Term.TheOpen.{Term-F}
use Rattle.formula_ast.specs.declared.term.Term.TheOpen as layer
use Rattle.formula_ast.specs.declared.term.Term.TheViews.{out-Term}
use Rattle.formula_ast.specs.Forms.{Form, form_of, equal, differ, finite, no, and, exists}
use Rattle.explicit_form.specs.Pieces.{disjuncts_of}
use Rattle.explicit_form.specs.Shaped.{LayerIsVariable, IsVariable, LayerIsFlat, IsFlat, IsSimple}
use Rattle.explicit_form.proofs.Arms.{form_and, form_or, form_exists, form_no, form_equal, form_differ, form_finite}
use Rattle.explicit_form.proofs.Layers.{one_disjunct}
use Rattle.explicit_form.proofs.Truth.{along, it_is, with_first, without_first}
use Rattle.explicit_form.proofs.Walking.{all_both, all_one, distinct_more}

flat_by : (l : Term-F Term Terms) → LayerIsVariable l → LayerIsFlat l
flat_by (layer.Var x) h = tt
flat_by (layer.App s ts) h = absurd h

pub variable_flat : (t : Term) → IsVariable t → IsFlat t
variable_flat t h = flat_by (out-Term t) h

-- ---- equal forms

and_same : (a b c d : Form) → ((a ≡ c) × (b ≡ d)) ↔ (and a b ≡ and c d)
and_same a b c d = (λ h. ap (λ x. and x b) h.0 ∙ ap (and c) h.1, λ e. ((cc e), (cc e)))

exists_same : (x y : ℕ) (a b : Form) → ((x ≡ y) × (a ≡ b)) ↔ (exists x a ≡ exists y b)
exists_same x y a b = (λ h. ap (λ z. exists z a) h.0 ∙ ap (exists y) h.1, λ e. ((cc e), (cc e)))

no_same : (a b : Form) → (a ≡ b) ↔ (no a ≡ no b)
no_same a b = (λ h. ap no h, λ e. cc e)

equal_same : (t s u r : Term) → ((t ≡ u) × (s ≡ r)) ↔ (equal t s ≡ equal u r)
equal_same t s u r = (λ h. ap (λ x. equal x s) h.0 ∙ ap (equal u) h.1, λ e. ((cc e), (cc e)))

differ_same : (t s u r : Term) → ((t ≡ u) × (s ≡ r)) ↔ (differ t s ≡ differ u r)
differ_same t s u r = (λ h. ap (λ x. differ x s) h.0 ∙ ap (differ u) h.1, λ e. ((cc e), (cc e)))

finite_same : (t u : Term) → (t ≡ u) ↔ (finite t ≡ finite u)
finite_same t u = (λ h. ap finite h, λ e. cc e)

-- what is equal to equal things
pub at_forms : (a b x y : Form) {P : Type 0} → a ≡ x → b ≡ y → P ↔ (x ≡ y) → P ↔ (a ≡ b)
at_forms a b x y left right same = (λ p. left ∙ same.0 p ∙ sym right, λ e. same.1 (sym left ∙ e ∙ right))

-- ---- equal formulas, by tests of their parts

-- a test of two forms, if both are simple
abbrev pub Tests : Bool → Form → Form → Type 0
Tests r a b = IsSimple a → IsSimple b → IsTrue r ↔ (a ≡ b)

abbrev pub TestsTerms : Bool → Term → Term → Type 0
TestsTerms r t s = IsFlat t → IsFlat s → IsTrue r ↔ (t ≡ s)

module _ (f g : Formula) where
  module _ (h k l m : Formula) (is : f ≡ v.And h k) (that : g ≡ v.And l m) where
    whole_and : ((form_of h ≡ form_of l) × (form_of k ≡ form_of m)) ↔ (form_of f ≡ form_of g)
    whole_and = at_forms (form_of f) (form_of g) (and (form_of h) (form_of k)) (and (form_of l) (form_of m)) (form_and f h k is) (form_and g l m that) (and_same (form_of h) (form_of k) (form_of l) (form_of m))

    pub same_and : (q r : Bool) → Tests q (form_of h) (form_of l) → Tests r (form_of k) (form_of m) → q ≡ true → Tests r (form_of f) (form_of g)
    same_and q r first second e left right =
        let one : IsSimple (form_of h) × IsSimple (form_of k) = subst IsSimple (form_and f h k is) left in
        let two : IsSimple (form_of l) × IsSimple (form_of m) = subst IsSimple (form_and g l m that) right in
        with_first r (second one.1 two.1) (it_is q (first one.0 two.0) e) whole_and

    pub differ_and : (q : Bool) → Tests q (form_of h) (form_of l) → q ≡ false → Tests q (form_of f) (form_of g)
    differ_and q first e left right =
        let one : IsSimple (form_of h) × IsSimple (form_of k) = subst IsSimple (form_and f h k is) left in
        let two : IsSimple (form_of l) × IsSimple (form_of m) = subst IsSimple (form_and g l m that) right in
        without_first q (first one.0 two.0) e whole_and

  module _ (x y : ℕ) (h k : Formula) (is : f ≡ v.Exists x h) (that : g ≡ v.Exists y k) where
    whole_exists : ((x ≡ y) × (form_of h ≡ form_of k)) ↔ (form_of f ≡ form_of g)
    whole_exists = at_forms (form_of f) (form_of g) (exists x (form_of h)) (exists y (form_of k)) (form_exists f x h is) (form_exists g y k that) (exists_same x y (form_of h) (form_of k))

    pub same_exists : (r : Bool) → Tests r (form_of h) (form_of k) → x ≡ y → Tests r (form_of f) (form_of g)
    same_exists r test e left right = with_first r (test (subst IsSimple (form_exists f x h is) left) (subst IsSimple (form_exists g y k that) right)) e whole_exists

    pub differ_exists : ¬ (x ≡ y) → ¬ (form_of f ≡ form_of g)
    differ_exists ne e = ne (whole_exists.1 e).0

  module _ (h k : Formula) (is : f ≡ v.Not h) (that : g ≡ v.Not k) where
    pub same_no : (r : Bool) → Tests r (form_of h) (form_of k) → Tests r (form_of f) (form_of g)
    same_no r test left right =
        along r (test (subst IsSimple (form_no f h is) left) (subst IsSimple (form_no g k that) right))
        (at_forms (form_of f) (form_of g) (no (form_of h)) (no (form_of k)) (form_no f h is) (form_no g k that) (no_same (form_of h) (form_of k)))

  module _ (t s u w : Term) where
    module _ (is : f ≡ v.Eq t s) (that : g ≡ v.Eq u w) where
      whole_equal : ((t ≡ u) × (s ≡ w)) ↔ (form_of f ≡ form_of g)
      whole_equal = at_forms (form_of f) (form_of g) (equal t s) (equal u w) (form_equal f t s is) (form_equal g u w that) (equal_same t s u w)

      pub same_equal : (q r : Bool) → TestsTerms q t u → TestsTerms r s w → q ≡ true → Tests r (form_of f) (form_of g)
      same_equal q r first second e left right =
          let one : IsVariable t × IsFlat s = subst IsSimple (form_equal f t s is) left in
          let two : IsVariable u × IsFlat w = subst IsSimple (form_equal g u w that) right in
          with_first r (second one.1 two.1) (it_is q (first (variable_flat t one.0) (variable_flat u two.0)) e) whole_equal

      pub differ_equal : (q : Bool) → TestsTerms q t u → q ≡ false → Tests q (form_of f) (form_of g)
      differ_equal q first e left right =
          let one : IsVariable t × IsFlat s = subst IsSimple (form_equal f t s is) left in
          let two : IsVariable u × IsFlat w = subst IsSimple (form_equal g u w that) right in
          without_first q (first (variable_flat t one.0) (variable_flat u two.0)) e whole_equal

    module _ (is : f ≡ v.Differ t s) (that : g ≡ v.Differ u w) where
      whole_differ : ((t ≡ u) × (s ≡ w)) ↔ (form_of f ≡ form_of g)
      whole_differ = at_forms (form_of f) (form_of g) (differ t s) (differ u w) (form_differ f t s is) (form_differ g u w that) (differ_same t s u w)

      pub same_differ : (q r : Bool) → TestsTerms q t u → TestsTerms r s w → q ≡ true → Tests r (form_of f) (form_of g)
      same_differ q r first second e left right =
          let one : IsVariable t × IsFlat s = subst IsSimple (form_differ f t s is) left in
          let two : IsVariable u × IsFlat w = subst IsSimple (form_differ g u w that) right in
          with_first r (second one.1 two.1) (it_is q (first (variable_flat t one.0) (variable_flat u two.0)) e) whole_differ

      pub differ_differ : (q : Bool) → TestsTerms q t u → q ≡ false → Tests q (form_of f) (form_of g)
      differ_differ q first e left right =
          let one : IsVariable t × IsFlat s = subst IsSimple (form_differ f t s is) left in
          let two : IsVariable u × IsFlat w = subst IsSimple (form_differ g u w that) right in
          without_first q (first (variable_flat t one.0) (variable_flat u two.0)) e whole_differ

  module _ (t u : Term) (is : f ≡ v.Finite t) (that : g ≡ v.Finite u) where
    pub same_finite : (r : Bool) → TestsTerms r t u → Tests r (form_of f) (form_of g)
    same_finite r test left right =
        along r (test (variable_flat t (subst IsSimple (form_finite f t is) left)) (variable_flat u (subst IsSimple (form_finite g u that) right)))
        (at_forms (form_of f) (form_of g) (finite t) (finite u) (form_finite f t is) (form_finite g u that) (finite_same t u))

-- ---- disjuncts

pub disjuncts_or : (f g h : Formula) → f ≡ v.Or g h → disjuncts_of (form_of f) ≡ disjuncts_of (form_of g) ++ form_of h ∷ []
disjuncts_or f g h is = ap disjuncts_of (form_or f g h is)

pub all_disjuncts : (P : Form → Type 0) (f g h : Formula) → f ≡ v.Or g h → (All P (disjuncts_of (form_of g)) × P (form_of h)) ↔ All P (disjuncts_of (form_of f))
all_disjuncts P f g h is =
    let both = all_both P (disjuncts_of (form_of g)) (form_of h ∷ []) in
    let one = all_one P (form_of h) in (
      λ x. subst (All P) (sym (disjuncts_or f g h is)) (both.1 (x.0, one.1 x.1)),
      λ all. let x = both.0 (subst (All P) (disjuncts_or f g h is) all) in (x.0, one.0 x.1),
    )

pub only_disjunct : (P : Form → Type 0) (f : Formula) → ((g h : Formula) → ¬ (f ≡ v.Or g h)) → P (form_of f) ↔ All P (disjuncts_of (form_of f))
only_disjunct P f none = subst (λ (l : List Form). P (form_of f) ↔ All P l) (sym (one_disjunct f none)) ((all_one P (form_of f)).1, (all_one P (form_of f)).0)

pub among_disjuncts : (f g h : Formula) (w : Form) → f ≡ v.Or g h → (Contains (disjuncts_of (form_of g)) w ⊎ (form_of h ≡ w)) ↔ Contains (disjuncts_of (form_of f)) w
among_disjuncts f g h w is =
    subst (λ (l : List Form). (Contains (disjuncts_of (form_of g)) w ⊎ (form_of h ≡ w)) ↔ Contains l w) (sym (disjuncts_or f g h is))
    (by, λ c. Contains-push_cases (disjuncts_of (form_of g)) (form_of h) w c)
  where
    by : Contains (disjuncts_of (form_of g)) w ⊎ (form_of h ≡ w) → Contains (disjuncts_of (form_of g) ++ form_of h ∷ []) w
    by (inl c) = Contains-append_left (disjuncts_of (form_of g)) (form_of h ∷ []) w c
    by (inr e) = subst (Contains (disjuncts_of (form_of g) ++ form_of h ∷ [])) e (Contains-push (disjuncts_of (form_of g)) (form_of h))

pub is_only : (f : Formula) (w : Form) → ((g h : Formula) → ¬ (f ≡ v.Or g h)) → (form_of f ≡ w) ↔ Contains (disjuncts_of (form_of f)) w
is_only f w none = subst (λ (l : List Form). (form_of f ≡ w) ↔ Contains l w) (sym (one_disjunct f none)) ((λ e. (0, omega arith, e)), by)
  where
    by : Contains (form_of f ∷ []) w → form_of f ≡ w
    by (zero, less, is) = is
    by (suc i, less, is) = absurd (omega (arith, less))

pub distinct_or : (f g h : Formula) → f ≡ v.Or g h → (IsDistinct (disjuncts_of (form_of g)) × (¬ Contains (disjuncts_of (form_of g)) (form_of h))) ↔ IsDistinct (disjuncts_of (form_of f))
distinct_or f g h is =
    let more = distinct_more (disjuncts_of (form_of g)) (form_of h) in (
      λ x. subst (λ (l : List Form). IsDistinct l) (sym (disjuncts_or f g h is)) (more.1 x),
      λ d. more.0 (subst (λ (l : List Form). IsDistinct l) (disjuncts_or f g h is) d),
    )

pub distinct_one : (f : Formula) → ((g h : Formula) → ¬ (f ≡ v.Or g h)) → IsDistinct (disjuncts_of (form_of f))
distinct_one f none = subst (λ (l : List Form). IsDistinct l) (sym (one_disjunct f none)) ((λ c. absurd (omega (arith, c.1))), tt)
