-- The equations of contents, listed.
use Rattle.std.proofs.Common.{ℕ, zero, suc, ◌≡◌, ◌<◌, List, [], map, length, refl, sym, ap, ◌∙◌, subst, arith, inl, inr, Some, None}
use Rattle.std.specs.Prelude.{Contains}
use Rattle.std.proofs.lemmas.Bool.{cases_eq, cases_lt}
use Rattle.std.proofs.lemmas.List.{get_or_past}
use Rattle.std.proofs.lemmas.List.Elements.{Contains-append_left, Contains-append_right, Contains-append_cases}
use Rattle.tree_model.specs.declared.tree.Symbol.{Symbol}
use Rattle.tree_facts.proofs.Members.{contains_first, contains_cases}
use Rattle.flat_form.specs.declared.atom.Flat.{Flat}
use Rattle.flat_form.specs.declared.atom.Flat.TheVariants.{VarVar, VarTerm, Finite}
use Rattle.term_graph.specs.declared.bound.Bound.{Bound}
use Rattle.term_graph.specs.declared.bound.Bound.TheVariants.{Free, Variable, Term}
use Rattle.term_graph.specs.Contents.{Contents, binding_of, target, target_of, term_at}
use Rattle.settled_facts.specs.Settled.{name, IsFree, IsShaped, HasTermIn}
use Rattle.settled_facts.specs.Forms.{Equates, equation_by, equations_below, equations_of, EquationsAreThere}
use Rattle.settled_facts.proofs.Terms.{name_free, name_bound}

none : (a : Flat) → ¬ Contains [] a
none a = λ i. omega (arith, i.1)

module _ (c : Contents) (shaped : IsShaped c) where
  variable_moves : (v w : ℕ) → binding_of c.bindings v ≡ Variable w → ¬ (v ≡ name c v)
  variable_moves v w e = λ own.
      let stop : target_of c.bindings v ≡ None = subst (λ z. target_of c.bindings z ≡ None) (sym own) (shaped.forest.ends v) in
      let on : target_of c.bindings v ≡ Some w = ap target e in
      cc

  -- what is said of a variable is true
  equation_true : (v : ℕ) (b : Bound) → binding_of c.bindings v ≡ b → (atom : Flat) → Contains (equation_by c v b) atom → Equates c atom
  equation_true v Free e atom i = absurd (none atom i)
  equation_true v (Variable w) e atom i = elim (contains_cases (VarVar v (name c v)) atom [] i) [
    | inl f ↦
        let is : (name c v ≡ name c v) × (¬ (v ≡ name c v)) = (refl, variable_moves v w e) in
        subst (Equates c) f is
    | inr more ↦ absurd (none atom more)
  ]
  equation_true v (Term t) e atom i = elim (contains_cases (VarTerm v (term_at c.terms t).symbol (map (name c) (term_at c.terms t).args)) atom [] i) [
    | inl f ↦
        let is : HasTermIn c v (term_at c.terms t).symbol (map (name c) (term_at c.terms t).args) =
        record { term = t; bound = e; key = record { within = shaped.bound v t e; sign = refl; args = refl } } in
        subst (Equates c) f is
    | inr more ↦ absurd (none atom more)
  ]

  below_true : (n : ℕ) (atom : Flat) → Contains (equations_below c n) atom → Equates c atom
  below_true zero atom i = absurd (none atom i)
  below_true (suc n) atom i = elim (Contains-append_cases (equations_below c n) (equation_by c n (binding_of c.bindings n)) atom i) [
    | inl j ↦ below_true n atom j
    | inr j ↦ equation_true n (binding_of c.bindings n) refl atom j
  ]

  -- and what is said of one below n is listed
  below_all : (n v : ℕ) (atom : Flat) → v < n → Contains (equation_by c v (binding_of c.bindings v)) atom → Contains (equations_below c n) atom
  below_all zero v atom l i = absurd (omega (arith, l))
  below_all (suc n) v atom l i = elim (cases_eq v n) [
    | inl e ↦ Contains-append_right (equations_below c n) (equation_by c n (binding_of c.bindings n)) atom (subst (λ z. Contains (equation_by c z (binding_of c.bindings z)) atom) e i)
    | inr d ↦ Contains-append_left (equations_below c n) (equation_by c n (binding_of c.bindings n)) atom (below_all n v atom (omega (arith, l, d)) i)
  ]

  -- what is bound is below the count
  inside : (v : ℕ) → ¬ IsFree c v → v < length c.bindings
  inside v bound = elim (cases_lt v (length c.bindings)) [
    | inl l ↦ l
    | inr h ↦ absurd (bound (get_or_past c.bindings v Free h))
  ]

  said : (v : ℕ) (b : Bound) (atom : Flat) → binding_of c.bindings v ≡ b → ¬ IsFree c v → Contains (equation_by c v b) atom
      → Contains (equations_below c (length c.bindings)) atom
  said v b atom e bound i = below_all (length c.bindings) v atom (inside v bound) (subst (λ z. Contains (equation_by c v z) atom) (sym e) i)

  variable_said : (v : ℕ) (b : Bound) → binding_of c.bindings v ≡ b → ¬ (v ≡ name c v) → Contains (equations_below c (length c.bindings)) (VarVar v (name c v))
  variable_said v Free e apart = absurd (apart (sym (name_free c v e)))
  variable_said v (Variable w) e apart = said v (Variable w) (VarVar v (name c v)) e (λ f. cc) (contains_first (VarVar v (name c v)) [])
  variable_said v (Term t) e apart = absurd (apart (sym (name_bound c v t e)))

  term_said : (v : ℕ) (s : Symbol) (ys : List ℕ) → HasTermIn c v s ys → Contains (equations_below c (length c.bindings)) (VarTerm v s ys)
  term_said v s ys h =
      subst (λ (z : Symbol). Contains (equations_below c (length c.bindings)) (VarTerm v z ys)) h.key.sign
      (subst (λ (z : List ℕ). Contains (equations_below c (length c.bindings)) (VarTerm v (term_at c.terms h.term).symbol z)) h.key.args
      (said v (Term h.term) (VarTerm v (term_at c.terms h.term).symbol (map (name c) (term_at c.terms h.term).args)) h.bound (λ f. let g = h.bound in cc)
      (contains_first (VarTerm v (term_at c.terms h.term).symbol (map (name c) (term_at c.terms h.term).args)) [])))

  all_said : (atom : Flat) → Equates c atom → Contains (equations_below c (length c.bindings)) atom
  all_said (VarVar v r) (e, apart) =
      subst (λ z. Contains (equations_below c (length c.bindings)) (VarVar v z)) e (variable_said v (binding_of c.bindings v) refl (λ own. apart (own ∙ e)))
  all_said (VarTerm v s ys) h = term_said v s ys h
  all_said (Finite v) h = absurd h

pub equations_there : EquationsAreThere
unfolding equations_of
equations_there c shaped = record { each = below_true c shaped (length c.bindings); all = all_said c shaped }
