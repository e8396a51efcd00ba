-- Solutions of solved forms, and what it means that nothing is added.
use Rattle.std.proofs.Common.{ℕ, ◌≡◌, List, [], ◌∷◌, ◌++◌, length, refl, sym, ap, ◌∙◌, subst, arith, inl, inr, Some, None, cond, eqb}
use Rattle.std.specs.Prelude.{Option, Contains}
use Rattle.std.proofs.lemmas.Bool.Decides.{eqb_tells}
use Rattle.tree_model.specs.declared.tree.Symbol.{Symbol}
use Rattle.tree_model.specs.declared.tree.Symbol.TheVariants.{Named, Further}
use Rattle.tree_model.specs.Signatures.{Signature, TreeOver, Alike}
use Rattle.tree_model.specs.Trees.{at, IsFinite}
use Rattle.tree_model.specs.Valuations.{Valuation}
use Rattle.tree_model.proofs.Sameness.{finite_same}
use Rattle.tree_facts.specs.Equations.{equals_variable, equals_term, Solves, HasDistinctLefts}
use Rattle.tree_model.specs.OneNode.{constant, loop}
use Rattle.tree_facts.proofs.Existence.{has_solution}
use Rattle.tree_facts.proofs.Indexes.{constant_finite, loop_infinite}
use Rattle.tree_facts.proofs.Members.{contains_first}
use Rattle.tree_facts.proofs.Uniqueness.{solution_unique}
use Rattle.flat_form.specs.declared.atom.Flat.{Flat}
use Rattle.flat_form.specs.declared.atom.Flat.TheVariants.{VarVar, VarTerm, Finite}
use Rattle.flat_form.specs.Meanings.{AtomHolds, BasicHolds}
use Rattle.flat_form.specs.Fitting.{BasicFits}
use Rattle.flat_form.specs.Classes.{itself}
use Rattle.flat_form.specs.Solved.{IsOpen, IsSolved}
use Rattle.flat_form.specs.Added.{by_term, by_root, Adds}
use Rattle.flat_facts.specs.AddedLaws.{SolvedHasSolution, SolvedIsUnique, SolvedFormMeans, NothingAddedWhereImplied}
use Rattle.flat_facts.proofs.FiniteReached.{added_suffices}
use Rattle.flat_facts.proofs.Follows.{follows, added_follows}
use Rattle.flat_facts.proofs.Lists.{holds_in, all_hold, both_hold, equations_of, equation_fits, equations_hold, variable_stands, term_stands, open_parameter, parameter_open}
use Rattle.flat_facts.proofs.Shapes.{distinct_lefts, finite_open}

pub solved_lefts : (form : List Flat) → IsSolved form → HasDistinctLefts (equations_of form)
solved_lefts form solved = distinct_lefts form solved.ascending (λ u r w i. (solved.direct u r i).1 w)

pub solved_solution : SolvedHasSolution
solved_solution σ form e solved fits finite =
    let (d, solves, keeps) = has_solution σ (equations_of form) e (solved_lefts form solved) (equation_fits σ form fits) in
    let alike : (v : ℕ) → IsOpen form v → Alike (d v) (e v) = λ v bare. keeps v (open_parameter form v bare) in
    (d, all_hold d form (holds d solves alike), alike)
  where
    holds : (d : Valuation σ) → Solves d (equations_of form) → ((v : ℕ) → IsOpen form v → Alike (d v) (e v)) → (a : Flat) → Contains form a → AtomHolds d a
    holds d solves alike (VarVar u r) i = solves (equals_variable u r) (variable_stands form u r i)
    holds d solves alike (VarTerm u s xs) i = solves (equals_term u s xs) (term_stands form u s xs i)
    holds d solves alike (Finite u) i = finite_same (e u).graph (d u).graph (λ path. sym (alike u (finite_open form solved.ascending u i) path)) (finite u i)

pub solved_unique : SolvedIsUnique
solved_unique σ form d e solved d_holds e_holds alike =
    solution_unique σ (equations_of form) d e (solved_lefts form solved) (equations_hold d form d_holds) (equations_hold e form e_holds)
    (λ v parameter. alike v (parameter_open form v parameter))

pub solved_form_means : SolvedFormMeans
solved_form_means σ atoms form e adds = (
  λ holds. added_suffices σ [] atoms form e (λ u r i. absurd (omega (arith, i.1))) adds tt holds,
  λ holds. added_follows σ [] atoms form e adds holds,
)

-- the root of a tree is not both `$0` and `$1`
two_roots : (s : Symbol) (n : ℕ) → ◌≡◌ {A = Option (Symbol × ℕ)} (Some (Further 0, 0)) (Some (s, n)) → ¬ (◌≡◌ {A = Option (Symbol × ℕ)} (Some (Further 1, 0)) (Some (s, n)))
two_roots s n e = λ f. omega (arith, ap index (e ∙ sym f))
  where
    index : Option (Symbol × ℕ) → ℕ
    index None = 2
    index (Some (Further k, m)) = k
    index (Some (Named i, m)) = 2

module _ (σ : Signature) (base atoms : List Flat) (solved : IsSolved base) (fits : BasicFits σ base)
    (implied : (e : Valuation σ) → BasicHolds e base → BasicHolds e atoms) where
  -- t at v, and `$0` at all other variables
  abbrev probe : ℕ → TreeOver σ → Valuation σ
  probe v t u = cond (eqb u v) t (constant σ 0)

  probe_own : (v : ℕ) (t : TreeOver σ) → probe v t v ≡ t
  probe_own v t = elim (eqb_tells v v) [ inl h ↦ rw h.0 refl | inr h ↦ absurd (h.1 refl) ]

  probe_other : (v u : ℕ) (t : TreeOver σ) → ¬ (u ≡ v) → probe v t u ≡ constant σ 0
  probe_other v u t differ = elim (eqb_tells u v) [ inl h ↦ absurd (differ h.1) | inr h ↦ rw h.0 refl ]

  probe_finite : (v : ℕ) (t : TreeOver σ) → (Contains base (Finite v) → IsFinite t.graph) → (u : ℕ) → Contains base (Finite u) → IsFinite (probe v t u).graph
  probe_finite v t finite u i =
      let Q : ℕ → Type 0 = λ z. Contains base (Finite z) in
      elim (eqb_tells u v) [
        | inl h ↦ rw h.0 (finite (subst Q h.1 i))
        | inr h ↦ rw h.0 (constant_finite σ 0)
      ]

  -- a solution of the base in which v has the value t and all other roots are `$0`
  record Probed (v : ℕ) (t : TreeOver σ) : Type 0 where
    values : Valuation σ
    holds : BasicHolds values base
    own : IsOpen base v → Alike (values v) t
    other : (u : ℕ) → IsOpen base u → ¬ (u ≡ v) → Alike (values u) (constant σ 0)

  probed : (v : ℕ) (t : TreeOver σ) → (Contains base (Finite v) → IsFinite t.graph) → Probed v t
  probed v t finite =
      let (d, holds, keeps) = solved_solution σ base (probe v t) solved fits (probe_finite v t finite) in
      record {
        values = d;
        holds = holds;
        own = λ bare path. let P : TreeOver σ → Type 0 = λ z. at (d v).graph path ≡ at z.graph path in subst P (probe_own v t) (keeps v bare path);
        other = λ u bare differ path. let P : TreeOver σ → Type 0 = λ z. at (d u).graph path ≡ at z.graph path in subst P (probe_other v u t differ) (keeps u bare path);
      }

  holds_at : (v : ℕ) (t : TreeOver σ) (p : Probed v t) (a : Flat) → Adds base atoms a → AtomHolds p.values a
  holds_at v t p a adds = follows σ base atoms p.values (implied p.values p.holds) a adds

  constants : (v k : ℕ) → Probed v (constant σ k)
  constants v k = probed v (constant σ k) (λ i. constant_finite σ k)

  -- where the base implies the atoms, nothing is added
  pub nothing_added : (a : Flat) → ¬ Adds base atoms a
  nothing_added (Finite v) new =
      let p : Probed v (loop σ 0) = probed v (loop σ 0) (λ i. absurd (new.new v (itself v) i)) in
      loop_infinite σ 0 (finite_same (p.values v).graph (loop σ 0).graph (p.own new.bare) (holds_at v (loop σ 0) p (Finite v) new))
  nothing_added (VarTerm v s ys) new =
      let read : (k : ℕ) → ◌≡◌ {A = Option (Symbol × ℕ)} (Some (Further k, 0)) (Some (s, length ys)) =
      λ k. sym ((constants v k).own new.bare []) ∙ (holds_at v (constant σ k) (constants v k) (VarTerm v s ys) new).root in
      two_roots s (length ys) (read 0) (read 1)
  nothing_added (VarVar v h) new = elim new.head [
    | by_term c (s, xs, i) l ↦
        let read : (k : ℕ) → ◌≡◌ {A = Option (Symbol × ℕ)} (Some (Further k, 0)) (Some (s, length xs)) =
        λ k. sym ((constants v k).own new.bare []) ∙ holds_at v (constant σ k) (constants v k) (VarVar v h) new []
        ∙ (holds_in (constants v k).values base (VarTerm h s xs) (constants v k).holds i).root in
        two_roots s (length xs) (read 0) (read 1)
    | by_root none c o l ↦
        two_roots (Further 0) 0 refl (sym ((constants v 1).own new.bare []) ∙ holds_at v (constant σ 1) (constants v 1) (VarVar v h) new []
        ∙ (constants v 1).other h o (λ e. new.differ (sym e)) [])
  ]

pub nothing_where_implied : NothingAddedWhereImplied
nothing_where_implied σ base rest added solved fits adds = (
  λ none e holds. added_suffices σ base rest added e solved.direct adds holds (subst (λ z. BasicHolds e z) (sym none) tt),
  λ implied. empty added (λ a i. nothing_added σ base (base ++ rest) solved fits (λ e holds. both_hold e base rest holds (implied e holds)) a (adds.each a i)),
)
  where
    empty : (xs : List Flat) → ((a : Flat) → ¬ Contains xs a) → xs ≡ []
    empty [] none = refl
    empty (a ∷ xs) none = absurd (none a (contains_first a xs))
