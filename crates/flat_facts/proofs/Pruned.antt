-- What is pruned can be met again, by other values of the inner variables.
use Rattle.std.proofs.Common.{ℕ, ◌≡◌, ◌<◌, List, [], ◌∷◌, length, refl, sym, ap, ◌∙◌, subst, arith, inl, inr, ◌⊎◌, Bool, true, false, cond, eqb}
use Rattle.std.specs.Prelude.{slice_index, Contains}
use Rattle.std.proofs.lemmas.Bool.Decides.{eqb_tells}
use Rattle.classical.proofs.Stable.{◌>>=◌, either_way}
use Rattle.tree_model.specs.declared.tree.Symbol.{Symbol}
use Rattle.tree_model.specs.Signatures.{Signature, TreeOver, Alike}
use Rattle.tree_model.specs.Trees.{at, IsFinite}
use Rattle.tree_model.specs.Valuations.{Valuation}
use Rattle.tree_model.proofs.Sameness.{finite_same}
use Rattle.tree_model.proofs.Stability.{read_stable}
use Rattle.tree_facts.specs.Equations.{equals_variable, equals_term, Solves}
use Rattle.tree_model.specs.OneNode.{constant}
use Rattle.tree_facts.proofs.Equations.{at_past, within_or_past}
use Rattle.tree_facts.proofs.Existence.{has_solution}
use Rattle.tree_facts.proofs.Indexes.{constant_finite}
use Rattle.tree_facts.proofs.Members.{contains_first, contains_later, contains_cases}
use Rattle.flat_form.specs.declared.atom.Flat.{Flat}
use Rattle.flat_form.specs.declared.atom.Flat.TheVariants.{VarVar, VarTerm, Finite}
use Rattle.flat_form.specs.Meanings.{AtomHolds, BasicHolds, Extends}
use Rattle.flat_form.specs.Fitting.{BasicFits}
use Rattle.flat_form.specs.Solved.{IsOpen, HasTerm}
use Rattle.flat_form.specs.Parts.{Under, top, below, IsPruned}
use Rattle.flat_facts.specs.PartLaws.{IsLoose, PrunedFails}
use Rattle.flat_facts.proofs.Lists.{holds_in, all_hold, equations_of, equation_fits, variable_stands, term_stands, open_parameter}
use Rattle.flat_facts.proofs.Moved.{loose_lefts}
use Rattle.flat_facts.proofs.Shapes.{finite_open}

-- whether v has a finite atom
abbrev is_marked : List Flat → ℕ → Bool
is_marked [] v = false
is_marked (VarVar u r ∷ rest) v = is_marked rest v
is_marked (VarTerm u s xs ∷ rest) v = is_marked rest v
is_marked (Finite u ∷ rest) v = cond (eqb u v) true (is_marked rest v)

abbrev Tells : List Flat → ℕ → Bool → Type 0
Tells atoms v marked = ((marked ≡ true) × Contains atoms (Finite v)) ⊎ ((marked ≡ false) × (¬ Contains atoms (Finite v)))

finite_of : Flat → ℕ → ℕ
finite_of (VarVar u r) d = d
finite_of (VarTerm u s xs) d = d
finite_of (Finite u) d = u

also_tells : (a : Flat) (rest : List Flat) (v : ℕ) (marked : Bool) → ¬ (a ≡ Finite v) → Tells rest v marked → Tells (a ∷ rest) v marked
also_tells a rest v marked differ (inl h) = inl (h.0, contains_later a (Finite v) rest h.1)
also_tells a rest v marked differ (inr h) = inr (h.0, λ i. elim (contains_cases a (Finite v) rest i) [ inl e ↦ differ e | inr j ↦ h.1 j ])

variable_apart : (u r v : ℕ) → ¬ (VarVar u r ≡ Finite v)
variable_apart u r v = λ e. cc e

term_apart : (u v : ℕ) (s : Symbol) (xs : List ℕ) → ¬ (VarTerm u s xs ≡ Finite v)
term_apart u v s xs = λ e. cc e

finite_apart : (u v : ℕ) → ¬ (u ≡ v) → ¬ (Finite u ≡ Finite v)
unfolding finite_of
finite_apart u v differ = λ e. differ (ap (λ a. finite_of a 0) e)

mark_tells : (atoms : List Flat) (v : ℕ) → Tells atoms v (is_marked atoms v)
mark_tells [] v = inr (refl, λ i. omega (arith, i.1))
mark_tells (VarVar u r ∷ rest) v = also_tells (VarVar u r) rest v (is_marked rest v) (variable_apart u r v) (mark_tells rest v)
mark_tells (VarTerm u s xs ∷ rest) v = also_tells (VarTerm u s xs) rest v (is_marked rest v) (term_apart u v s xs) (mark_tells rest v)
mark_tells (Finite u ∷ rest) v = elim (eqb_tells u v) [
  | inl q ↦ inl (rw q.0 refl, subst (λ z. Contains (Finite u ∷ rest) (Finite z)) q.1 (contains_first (Finite u) rest))
  | inr q ↦ rw q.0 (also_tells (Finite u) rest v (is_marked rest v) (finite_apart u v q.1) (mark_tells rest v))
]

module _ {σ : Signature} (m : ℕ) (part pruned : List Flat) (x : Valuation σ) (loose : IsLoose part) (fits : BasicFits σ part)
    (cut : IsPruned m part pruned) (low : (u h : ℕ) → Contains part (VarVar u h) → u < m → h < m) (holds : BasicHolds x pruned) where
  held : (a : Flat) → Contains pruned a → AtomHolds x a
  held a i = holds_in x pruned a holds i

  -- x, but a finite tree where only the whole part asks for one
  abbrev start : Valuation σ
  start v = cond (is_marked part v) (cond (is_marked pruned v) (x v) (constant σ 0)) (x v)

  same_where : (v : ℕ) → Under m part v → start v ≡ x v
  same_where v up = elim (mark_tells part v) [
    | inr h ↦ rw h.0 refl
    | inl h ↦ elim (mark_tells pruned v) [
      | inl k ↦ rw (h.0, k.0) refl
      | inr k ↦ absurd (k.1 (cut.all (Finite v) h.1 up))
    ]
  ]

  start_finite : (v : ℕ) → Contains part (Finite v) → IsFinite (start v).graph
  start_finite v i = elim (mark_tells part v) [
    | inr h ↦ absurd (h.1 i)
    | inl h ↦ elim (mark_tells pruned v) [
      | inl k ↦ rw (h.0, k.0) (held (Finite v) k.1)
      | inr k ↦ rw (h.0, k.0) (constant_finite σ 0)
    ]
  ]

  -- a solution of the part's equations from there
  module _ (d : Valuation σ) (solves : Solves d (equations_of part)) (keeps : (v : ℕ) → IsOpen part v → Alike (d v) (start v)) where
    abbrev AlikeAt : List ℕ → ℕ → Type 0
    AlikeAt path v = at (d v).graph path ≡ at (x v).graph path

    abbrev IsPlain : ℕ → Type 0
    IsPlain v = (r : ℕ) → ¬ Contains part (VarVar v r)

    abbrev AlikeBelow : List ℕ → Type 0
    AlikeBelow [] = Unit {0}
    AlikeBelow (i ∷ path) = (v : ℕ) → Under m part v → IsPlain v → AlikeAt path v

    term_step : (path : List ℕ) → AlikeBelow path → (v : ℕ) → Under m part v → (s : Symbol) (xs : List ℕ) → Contains part (VarTerm v s xs)
        → AtomHolds d (VarTerm v s xs) → AtomHolds x (VarTerm v s xs) → AlikeAt path v
    term_step [] under v up s xs i new old = new.root ∙ sym old.root
    term_step (k ∷ path) under v up s xs i new old = elim (within_or_past k (length xs)) [
      | inl w ↦ new.child k w path ∙ under (slice_index xs k) (below s xs up i k w) (loose.plain v s xs i k w) ∙ sym (old.child k w path)
      | inr past ↦ at_past (d v).graph s (length xs) k path new.root past ∙ sym (at_past (x v).graph s (length xs) k path old.root past)
    ]

    stay_step : (path : List ℕ) → AlikeBelow path → (v : ℕ) → Under m part v → IsPlain v → AlikeAt path v
    stay_step path under v up plain = (read_stable _ _).holds (λ out. do
      t ← either_way (HasTerm part v)
      elim t [
        | inl (s, xs, i) ↦ out (term_step path under v up s xs i (solves (equals_term v s xs) (term_stands part v s xs i)) (held (VarTerm v s xs) (cut.all (VarTerm v s xs) i up)))
        | inr none ↦
            let P : TreeOver σ → Type 0 = λ z. at (d v).graph path ≡ at z.graph path in
            out (subst P (same_where v up) (keeps v (record { no_variable = plain; no_term = λ s xs i. none (s, xs, i) }) path))
      ])

    -- what the first m variables reach stays as it is
    stays : (path : List ℕ) (v : ℕ) → Under m part v → IsPlain v → AlikeAt path v
    stays [] = stay_step [] tt
    stays (k ∷ path) = stay_step (k ∷ path) (stays path)

    first_stay : Extends m x d
    first_stay v w path = (read_stable _ _).holds (λ out. do
      q ← either_way ((h : ℕ) × Contains part (VarVar v h))
      elim q [
        | inr none ↦ out (stays path v (top w) (λ r i. none (r, i)))
        | inl (h, i) ↦ out (solves (equals_variable v h) (variable_stands part v h i) path ∙ stays path h (top (low v h i w)) (λ r. loose.direct v h r i)
            ∙ sym (held (VarVar v h) (cut.all (VarVar v h) i w) path))
      ])

    all_again : (a : Flat) → Contains part a → AtomHolds d a
    all_again (VarVar u h) i = solves (equals_variable u h) (variable_stands part u h i)
    all_again (VarTerm u s xs) i = solves (equals_term u s xs) (term_stands part u s xs i)
    all_again (Finite u) i = finite_same (start u).graph (d u).graph (λ path. sym (keeps u (finite_open part loose.ascending u i) path)) (start_finite u i)

  -- values, as before below m, that meet the whole part
  again : (d : Valuation σ) × Extends m x d × BasicHolds d part
  again =
      let (d, solves, keeps) = has_solution σ (equations_of part) start (loose_lefts part loose) (equation_fits σ part fits) in
      let keeps_open : (v : ℕ) → IsOpen part v → Alike (d v) (start v) = λ v bare. keeps v (open_parameter part v bare) in
      (d, first_stay d solves keeps_open, all_hold d part (all_again d solves keeps_open))

pub pruned_fails : PrunedFails
pruned_fails σ m part pruned e loose fits cut low = (
  λ fails x like holds.
      let (d, same, all) = again m part pruned x loose fits cut low holds in
      fails d (λ v w path. same v w path ∙ like v w path) all,
  λ fails x like holds. fails x like (all_hold x pruned (λ a i. holds_in x part a holds (cut.from a i).0)),
)
