-- The formulas that are written are over the signature, and their free variables are numbers of variables that nothing binds.
use Rattle.std.proofs.Common.{◌≡◌, ◌≢◌, ℕ, ◌<◌, ◌⊎◌, inl, inr, Bool, true, false, ◌||◌, List, [], ◌∷◌, ◌++◌, map, length, Some, bytes_eq, refl, sym, ◌∙◌, ap, subst}
use Rattle.std.proofs.lemmas.Slice.Eq.{bytes_eq-Decides}
use Rattle.tree_model.specs.declared.kind.Kind.TheVariants as kind
use Rattle.tree_model.specs.Signatures.{Signature, declared_at}
use Rattle.formula_ast.specs.declared.term.Term.{Term}
use Rattle.formula_ast.specs.Forms as form
use Rattle.formula_ast.specs.Forms.{Form}
use Rattle.formula_ast.specs.WellFormed.{FormOver, TermOver, IsFreeIn, OccursIn}
use Rattle.formula_grammar.specs.Written.{Text, WrittenTerms, Joint, and, or, imp, iff, Quantifier, exists, forall, Comparer, equals, differs, WrittenFormula, truth, finite, win, compared, call, no, group, joined, quantified}
use Rattle.formula_grammar.specs.Checks.{is_among}
use Rattle.formula_grammar.specs.Names.{count, UsesNames, has_bound, is_bound}
use Rattle.formula_grammar.specs.Within.{IsSmall}
use Rattle.formula_grammar.specs.Meaning.{variables_of, variables_in, number_in, place_in, truth_form, comparer_form, joint_form, quantifier_form, behind, AreTerms, Stands}
use Rattle.formula_grammar.proofs.Occurrences.{AreAmong, among_left, among_right, among_one, number_within}
use Rattle.formula_grammar.specs.WellFormedLaws.{HasFewArguments}
use Rattle.formula_grammar.proofs.FormedTerms.{StaysIn, IsNumberOf, declared_there, both_true, count_is, term_over, terms_over, in_term, in_terms}

module _ (σ : Signature) (names : List Text) where
  module _ (τ callable : Signature) (stays : StaysIn σ τ) (called : StaysIn σ callable) (few : HasFewArguments σ) where
    abbrev Over : Form → Type 0
    Over f = FormOver τ callable (length names) f

    -- a formula behind quantifiers for variables that are there
    over_behind : (quantifier : ℕ → Form → Form) → ((y : ℕ) (g : Form) → y < length names → Over g → Over (quantifier y g))
        → (xs : List Text) (g : Form) → AreAmong names xs → Over g → Over (behind quantifier (map (number_in names) xs) g)
    over_behind quantifier step [] g a o = o
    over_behind quantifier step (x ∷ xs) g a o =
        step (number_in names x) (behind quantifier (map (number_in names) xs) g) (number_within x names a.0) (over_behind quantifier step xs g a.1 o)

    called_there : (p : Text) (ws : WrittenTerms) (ts : List Term) → UsesNames σ (call p ws) → AreTerms σ names ws ts
        → declared_at callable (place_in σ p) ≡ Some (kind.Pred, length ts)
    called_there p ws ts u are =
        called (place_in σ p) (kind.Pred, length ts)
        (declared_there σ p (kind.Pred, count ws) u.0 ∙ ap (λ m. Some (kind.Pred, m)) (sym (count_is σ names ws ts are)))

    over_truth : (b : Bool) → Over (truth_form b)
    over_truth true = tt
    over_truth false = tt

    over_comparer : (r : Comparer) (t u : Term) → TermOver τ (length names) t → TermOver τ (length names) u → Over (comparer_form r t u)
    over_comparer equals t u a b = (a, b)
    over_comparer differs t u a b = (a, b)

    over_joint : (j : Joint) (g h : Form) → Over g → Over h → Over (joint_form j g h)
    over_joint and g h a b = (a, b)
    over_joint or g h a b = (a, b)
    over_joint imp g h a b = (a, b)
    over_joint iff g h a b = (a, b)

    over_quantifier : (q : Quantifier) (y : ℕ) (g : Form) → y < length names → Over g → Over (quantifier_form q y g)
    over_quantifier exists y g below o = (below, o)
    over_quantifier forall y g below o = (below, o)

    pub form_over : (w : WrittenFormula) (f : Form) → Stands σ names w f → UsesNames σ w → IsSmall w → AreAmong names (variables_in w) → Over f
    form_over (truth b) f e u s a = subst Over (sym e) (over_truth b)
    form_over (finite v) f (t, e, is) u s a = subst Over (sym e) (term_over σ names τ stays few v t is u s a)
    form_over (win p n v) f (t, e, is) u s a =
        subst Over (sym e)
        (called (place_in σ p) (kind.Pred, 2) (declared_there σ p (kind.Pred, 2) u.0), term_over σ names τ stays few v t is u.1 s.2 a)
    form_over (compared r v w) f (t, x, e, is, are) u s a =
        subst Over (sym e)
        (over_comparer r t x (term_over σ names τ stays few v t is u.0 s.0 (among_left names (variables_of v) (variables_of w) a))
        (term_over σ names τ stays few w x are u.1 s.1 (among_right names (variables_of v) (variables_of w) a)))
    form_over (call p ws) f (ts, e, are) u s a =
        subst Over (sym e) (called_there p ws ts u are, terms_over σ names τ stays few ws ts are u.1 s.1 a)
    form_over (no w) f (g, e, is) u s a = subst Over (sym e) (form_over w g is u s a)
    form_over (group w) f is u s a = form_over w f is u s a
    form_over (joined j v w) f (g, h, e, is, are) u s a =
        subst Over (sym e)
        (over_joint j g h (form_over v g is u.0 s.0 (among_left names (variables_in v) (variables_in w) a))
        (form_over w h are u.1 s.1 (among_right names (variables_in v) (variables_in w) a)))
    form_over (quantified q x xs w) f (g, e, is) u s a =
        subst Over (sym e)
        (over_behind (quantifier_form q) (over_quantifier q) (x ∷ xs) g (among_left names (x ∷ xs) (variables_in w) a)
        (form_over w g is u s.1 (among_right names (x ∷ xs) (variables_in w) a)))

  -- ---- free variables

  module _ (x : ℕ) where
    abbrev IsFree : Form → Type 0
    IsFree f = IsFreeIn x f

    -- what is free behind quantifiers is free in the formula, and none of their variables
    module _ (quantifier : ℕ → Form → Form) (free : (y : ℕ) (g : Form) → IsFree (quantifier y g) → (x ≢ y) × IsFree g) where
      free_behind : (ys : List Text) (g : Form) → IsFree (behind quantifier (map (number_in names) ys) g) → IsFree g
      free_behind [] g h = h
      free_behind (y ∷ ys) g h = free_behind ys g (free (number_in names y) (behind quantifier (map (number_in names) ys) g) h).1

      none_of_them : (ys : List Text) (g : Form) → IsFree (behind quantifier (map (number_in names) ys) g)
          → (z : Text) → is_among z ys ≡ true → number_in names z ≡ x → ⊥
      none_of_them [] g h z a e = absurd (cc a)
      none_of_them (y ∷ ys) g h z a e = step (bytes_eq y z) refl a (λ a. none_of_them ys g inner.1 z a e)
        where
          inner : (x ≢ number_in names y) × IsFree (behind quantifier (map (number_in names) ys) g)
          inner = free (number_in names y) (behind quantifier (map (number_in names) ys) g) h

          step : (b : Bool) → bytes_eq y z ≡ b → (b || is_among z ys) ≡ true → (is_among z ys ≡ true → ⊥) → ⊥
          step true same a later = inner.0 (sym e ∙ ap (number_in names) (sym ((bytes_eq-Decides y z).0 same)))
          step false same a later = later a

      outside : (ys zs : List Text) (g : Form) → IsFree (behind quantifier (map (number_in names) ys) g) → IsNumberOf names (zs ++ ys) x → IsNumberOf names zs x
      outside ys zs g h (z, a, e) = step (among_one z zs ys a)
        where
          step : (is_among z zs ≡ true) ⊎ (is_among z ys ≡ true) → IsNumberOf names zs x
          step (inl b) = (z, b, e)
          step (inr b) = absurd (none_of_them ys g h z b e)

    one_of : {A B C : Type 0} → (A → C) → (B → C) → A ⊎ B → C
    one_of f g (inl a) = f a
    one_of f g (inr b) = g b

    none_free : (b : Bool) → IsFree (truth_form b) → ⊥
    none_free true h = h
    none_free false h = h

    free_compared : (r : Comparer) (t u : Term) → IsFree (comparer_form r t u) → OccursIn x t ⊎ OccursIn x u
    free_compared equals t u h = h
    free_compared differs t u h = h

    free_joined : (j : Joint) (g h : Form) → IsFree (joint_form j g h) → IsFree g ⊎ IsFree h
    free_joined and g h a = a
    free_joined or g h a = a
    free_joined imp g h a = a
    free_joined iff g h a = a

    free_quantified : (q : Quantifier) (y : ℕ) (g : Form) → IsFree (quantifier_form q y g) → (x ≢ y) × IsFree g
    free_quantified exists y g a = a
    free_quantified forall y g a = a

    pub in_form : (w : WrittenFormula) (f : Form) → Stands σ names w f → (zs : List Text) → is_bound zs w ≡ true → IsFree f → IsNumberOf names zs x
    in_form (truth c) f e zs b h = absurd (none_free c (subst IsFree e h))
    in_form (finite v) f (t, e, is) zs b h = in_term σ names zs x v t is b (subst IsFree e h)
    in_form (win p n v) f (t, e, is) zs b h = in_term σ names zs x v t is b (subst IsFree e h)
    in_form (compared r v w) f (t, u, e, is, are) zs b h =
        let c = both_true (has_bound zs v) (has_bound zs w) b in
        one_of (in_term σ names zs x v t is c.0) (in_term σ names zs x w u are c.1) (free_compared r t u (subst IsFree e h))
    in_form (call p ws) f (ts, e, are) zs b h =
        let o : IsFree (form.call (place_in σ p) ts) = subst IsFree e h in in_terms σ names zs x ws ts are b o.0 o.1 o.2 o.3
    in_form (no w) f (g, e, is) zs b h = in_form w g is zs b (subst IsFree e h)
    in_form (group w) f is zs b h = in_form w f is zs b h
    in_form (joined j v w) f (g, k, e, is, are) zs b h =
        let c = both_true (is_bound zs v) (is_bound zs w) b in
        one_of (in_form v g is zs c.0) (in_form w k are zs c.1) (free_joined j g k (subst IsFree e h))
    in_form (quantified q y ys w) f (g, e, is) zs b h =
        let o : IsFree (behind (quantifier_form q) (map (number_in names) (y ∷ ys)) g) = subst IsFree e h in
        outside (quantifier_form q) (free_quantified q) (y ∷ ys) zs g o
        (in_form w g is (zs ++ y ∷ ys) b (free_behind (quantifier_form q) (free_quantified q) (y ∷ ys) g o))
