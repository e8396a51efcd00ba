-- The variables that quantifiers in front bind.
use Rattle.std.proofs.Common.{◌≡◌, ℕ, zero, suc, ◌<◌, ◌≤◌, Bool, true, false, cond, List, [], ◌∷◌, ◌++◌, sym, ap, subst, ◌∙◌, ◌⊎◌, inl, inr, arith, Some, None}
use Rattle.std.specs.Prelude.{All, Contains, ◌↔◌, nat_eq, IsTrue}
use Rattle.std.proofs.lemmas.Bool.{ne_eqb, eq-eqb}
use Rattle.std.proofs.lemmas.List.Elements.{All-nil, All-cons, All-head, All-tail, Contains-append_right, Contains-append_cases}
use Rattle.lists.specs.Distinct.{IsDistinct}
use Rattle.formula_ast.specs.declared.formula.Formula.{Formula}
use Rattle.formula_ast.specs.declared.formula.Formula.TheVariants as v
use Rattle.formula_ast.specs.Forms.{form_of}
use Rattle.explicit_form.specs.Pieces.{bound_of, first_met}
use Rattle.explicit_form.proofs.Arms.{form_exists}
use Rattle.explicit_form.proofs.Layers.{no_binding}
use Rattle.explicit_form.proofs.Truth.{holds_by, nope, along}

pub bound_exists : (f : Formula) (x : ℕ) (g : Formula) → f ≡ v.Exists x g → bound_of (form_of f) ≡ x ∷ bound_of (form_of g)
bound_exists f x g is = ap bound_of (form_exists f x g is)

-- ---- whether a variable is bound

pub bound_here : (f : Formula) (x : ℕ) (g : Formula) (w : ℕ) → f ≡ v.Exists x g → x ≡ w → IsTrue (nat_eq x w) ↔ Contains (bound_of (form_of f)) w
bound_here f x g w is same = holds_by (nat_eq x w) (subst (λ l. Contains l w) (sym (bound_exists f x g is)) (0, omega arith, same)) (eq-eqb x w same)

in_tail : (x w : ℕ) (xs : List ℕ) → ¬ (x ≡ w) → Contains xs w ↔ Contains (x ∷ xs) w
in_tail x w xs ne = (λ c. (suc c.0, omega (arith, c.1), c.2), by)
  where
    by : Contains (x ∷ xs) w → Contains xs w
    by (zero, less, is) = absurd (ne is)
    by (suc i, less, is) = (i, omega (arith, less), is)

pub bound_later : (f : Formula) (x : ℕ) (g : Formula) (w : ℕ) (r : Bool) → f ≡ v.Exists x g → ¬ (x ≡ w) → IsTrue r ↔ Contains (bound_of (form_of g)) w → IsTrue r ↔ Contains (bound_of (form_of f)) w
bound_later f x g w r is ne test =
    along r test (subst (λ l. Contains (bound_of (form_of g)) w ↔ Contains l w) (sym (bound_exists f x g is)) (in_tail x w (bound_of (form_of g)) ne))

pub bound_nowhere : (f : Formula) (w : ℕ) → ((x : ℕ) (g : Formula) → ¬ (f ≡ v.Exists x g)) → IsTrue false ↔ Contains (bound_of (form_of f)) w
bound_nowhere f w none = nope (λ c. by (subst (λ l. Contains l w) (no_binding f none) c))
  where
    by : ¬ Contains [] w
    by c = absurd (omega (arith, c.1))

-- ---- which of two comes first

pub met_second : (f : Formula) (x : ℕ) (g : Formula) (w u : ℕ) → f ≡ v.Exists x g → x ≡ u → Some false ≡ first_met (bound_of (form_of f)) w u
met_second f x g w u is same =
    sym (ap (λ l. first_met l w u) (bound_exists f x g is) ∙ ap (λ b. cond b (Some false) (cond (nat_eq x w) (Some true) (first_met (bound_of (form_of g)) w u))) (eq-eqb x u same))

pub met_first : (f : Formula) (x : ℕ) (g : Formula) (w u : ℕ) → f ≡ v.Exists x g → ¬ (x ≡ u) → x ≡ w → Some true ≡ first_met (bound_of (form_of f)) w u
met_first f x g w u is ne same =
    sym (ap (λ l. first_met l w u) (bound_exists f x g is)
    ∙ ap (λ b. cond b (Some false) (cond (nat_eq x w) (Some true) (first_met (bound_of (form_of g)) w u))) (ne_eqb x u ne)
    ∙ ap (λ b. cond b (Some true) (first_met (bound_of (form_of g)) w u)) (eq-eqb x w same))

pub met_later : (f : Formula) (x : ℕ) (g : Formula) (w u : ℕ) → f ≡ v.Exists x g → ¬ (x ≡ u) → ¬ (x ≡ w) → first_met (bound_of (form_of g)) w u ≡ first_met (bound_of (form_of f)) w u
met_later f x g w u is ne other =
    sym (ap (λ l. first_met l w u) (bound_exists f x g is)
    ∙ ap (λ b. cond b (Some false) (cond (nat_eq x w) (Some true) (first_met (bound_of (form_of g)) w u))) (ne_eqb x u ne)
    ∙ ap (λ b. cond b (Some true) (first_met (bound_of (form_of g)) w u)) (ne_eqb x w other))

pub met_nowhere : (f : Formula) (w u : ℕ) → ((x : ℕ) (g : Formula) → ¬ (f ≡ v.Exists x g)) → None ≡ first_met (bound_of (form_of f)) w u
met_nowhere f w u none = sym (ap (λ l. first_met l w u) (no_binding f none))

-- ---- what holds of each of them

module _ (P : ℕ → Type 0) where
  pub each_bound : (f : Formula) (x : ℕ) (g : Formula) → f ≡ v.Exists x g → (P x × All P (bound_of (form_of g))) ↔ All P (bound_of (form_of f))
  each_bound f x g is = subst (λ l. (P x × All P (bound_of (form_of g))) ↔ All P l) (sym (bound_exists f x g is))
      (λ both. All-cons P x (bound_of (form_of g)) both.0 both.1, λ all. (All-head P x (bound_of (form_of g)) all, All-tail P x (bound_of (form_of g)) all))

  pub none_bound : (f : Formula) → ((x : ℕ) (g : Formula) → ¬ (f ≡ v.Exists x g)) → All P (bound_of (form_of f))
  none_bound f none = subst (All P) (sym (no_binding f none)) (All-nil P)

-- distinct ones, that are new outside
abbrev pub AreNew : ℕ → List ℕ → List ℕ → Type 0
AreNew free outer xs = IsDistinct xs × All (λ x. (free ≤ x) × (¬ Contains outer x)) xs

pub new_exists : (free : ℕ) (outer : List ℕ) (f : Formula) (x : ℕ) (g : Formula) → f ≡ v.Exists x g
    → ((((free ≤ x) × (¬ Contains outer x)) × (¬ Contains (bound_of (form_of g)) x)) × AreNew free outer (bound_of (form_of g))) ↔ AreNew free outer (bound_of (form_of f))
new_exists free outer f x g is =
    subst (λ l. ((((free ≤ x) × (¬ Contains outer x)) × (¬ Contains (bound_of (form_of g)) x)) × AreNew free outer (bound_of (form_of g))) ↔ AreNew free outer l) (sym (bound_exists f x g is)) (
      λ h. ((h.0.1, h.1.0), All-cons (λ x. (free ≤ x) × (¬ Contains outer x)) x (bound_of (form_of g)) h.0.0 h.1.1),
      λ n. (
        (All-head (λ x. (free ≤ x) × (¬ Contains outer x)) x (bound_of (form_of g)) n.1, n.0.0),
        (n.0.1, All-tail (λ x. (free ≤ x) × (¬ Contains outer x)) x (bound_of (form_of g)) n.1),
      ),
    )

pub new_none : (free : ℕ) (outer : List ℕ) (f : Formula) → ((x : ℕ) (g : Formula) → ¬ (f ≡ v.Exists x g)) → AreNew free outer (bound_of (form_of f))
new_none free outer f none = subst (AreNew free outer) (sym (no_binding f none)) (tt, All-nil (λ x. (free ≤ x) × (¬ Contains outer x)))

-- ---- scopes

pub bound_right : (xs ys : List ℕ) (w : ℕ) → ¬ Contains xs w → Contains ys w ↔ Contains (xs ++ ys) w
bound_right xs ys w none = (λ c. Contains-append_right xs ys w c, λ c. by (Contains-append_cases xs ys w c))
  where
    by : Contains xs w ⊎ Contains ys w → Contains ys w
    by (inl c) = absurd (none c)
    by (inr c) = c

second : {P Q : Type 0} → ¬ P → P ⊎ Q → Q
second n (inl p) = absurd (n p)
second n (inr q) = q

pub not_free : {P : Type 0} (w free : ℕ) → ¬ (w < free) → P ↔ ((w < free) ⊎ P)
not_free w free n = (λ p. inr p, second n)
