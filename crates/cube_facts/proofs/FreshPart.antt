-- A part that mentions a variable with a fresh value is false.
use Rattle.std.specs.Prelude.{Option, Some as Some', None, Contains}
use Rattle.std.proofs.Common.{ℕ, ◌≡◌, ◌<◌, List, [], ◌∷◌, length, sym, ap, ◌∙◌, subst, arith, inl, inr, ◌⊎◌}
use Rattle.classical.proofs.Stable.{◌>>=◌, either_way}
use Rattle.tree_model.specs.declared.tree.Symbol.{Symbol}
use Rattle.tree_model.specs.declared.tree.Symbol.TheVariants.{Further}
use Rattle.tree_model.specs.Signatures.{Signature}
use Rattle.tree_model.specs.Trees.{at, IsFinite}
use Rattle.tree_model.specs.Valuations.{Valuation}
use Rattle.tree_model.proofs.Sameness.{finite_same}
use Rattle.tree_facts.proofs.Members.{contains_first, contains_cases}
use Rattle.flat_form.specs.declared.atom.Flat.{Flat}
use Rattle.flat_form.specs.declared.atom.Flat.TheVariants.{VarVar, VarTerm, Finite}
use Rattle.flat_form.specs.Meanings.{AtomHolds, BasicHolds, Extends}
use Rattle.flat_form.specs.Parts.{variables_of, Under, top, below, IsPartOver}
use Rattle.flat_form.specs.Solved.{variable_of, IsOpen, HasTerm, IsDirect}
use Rattle.flat_facts.proofs.Lists.{holds_in}
use Rattle.cube_facts.proofs.Variables.{own_variable, argument_at}

-- d gives each idle variable a fresh value of its own, and solves the base
pub record IsFresh {σ : Signature} (m : ℕ) (base part : List Flat) (d : Valuation σ) (Idle : ℕ → Type 0) (index : ℕ → ℕ) : Type 0 where
  pub solves : BasicHolds d base
  pub low : (i : ℕ) → Idle i → i < m
  pub bare : (i : ℕ) → Idle i → IsOpen base i
  pub apart : (i j : ℕ) → Idle i → Idle j → index i ≡ index j → i ≡ j
  pub root : (i : ℕ) → Idle i → (n : ℕ) × (at (d i).graph [] ≡ Some' (Further (index i), n))
  pub endless : (i : ℕ) → Idle i → ¬ Contains base (Finite i) → ¬ IsFinite (d i).graph
  pub elsewhere : (i v : ℕ) → Idle i → v < m → IsOpen base v → ¬ Idle v → (path : List ℕ) (n : ℕ) → ¬ (at (d v).graph path ≡ Some' (Further (index i), n))
  pub not_in_base : (i u : ℕ) (xs : List ℕ) → Idle i → ¬ Contains base (VarTerm u (Further (index i)) xs)
  pub not_in_part : (i u : ℕ) (xs : List ℕ) → Idle i → ¬ Contains part (VarTerm u (Further (index i)) xs)

root_of : (s t : Symbol) (m n : ℕ) → ◌≡◌ {A = Option (Symbol × ℕ)} (Some' (s, m)) (Some' (t, n)) → s ≡ t
root_of s t m n e = ap symbol_of e
  where
    symbol_of : Option (Symbol × ℕ) → Symbol
    symbol_of None = t
    symbol_of (Some' p) = p.0

index_of : (k l : ℕ) → Further k ≡ Further l → k ≡ l
index_of k l e = cc e

module _ {σ : Signature} (m : ℕ) (base part : List Flat) (d x : Valuation σ) (Idle : ℕ → Type 0) (index : ℕ → ℕ)
    (direct : IsDirect base) (shape : IsPartOver m base part) (fresh : IsFresh m base part d Idle index)
    (beyond : Extends m d x) (holds : BasicHolds x part) where
  in_part : (a : Flat) → Contains part a → AtomHolds x a
  in_part a i = holds_in x part a holds i

  in_base : (a : Flat) → Contains base a → AtomHolds d a
  in_base a i = holds_in d base a fresh.solves i

  -- a term equation of the part that begins with the symbol of an idle variable
  wrong_root : (i w n : ℕ) (s : Symbol) (xs : List ℕ) → Idle i → Contains part (VarTerm w s xs) → ¬ (at (x w).graph [] ≡ Some' (Further (index i), n))
  wrong_root i w n s xs idle a = λ e.
      let same : s ≡ Further (index i) = root_of s (Further (index i)) (length xs) n (sym (in_part (VarTerm w s xs) a).root ∙ e) in
      fresh.not_in_part i w xs idle (subst (λ (z : Symbol). Contains part (VarTerm w z xs)) same a)

  -- nothing with a term equation in the part has a fresh symbol anywhere in its value
  no_fresh_below : {w : ℕ} → Under m part w → (s : Symbol) (xs : List ℕ) → Contains part (VarTerm w s xs)
      → (i : ℕ) → Idle i → (path : List ℕ) (n : ℕ) → ¬ (at (x w).graph path ≡ Some' (Further (index i), n))
  no_fresh_below (top {v = u} low) s xs a i idle path n = λ e. do
    c ← either_way (Idle u)
    elim c [
      | inl own ↦ let (k, r) = fresh.root u own in wrong_root u u k s xs own a (beyond u low [] ∙ r)
      | inr other ↦ fresh.elsewhere i u idle low (shape.left_open (VarTerm u s xs) a low) other path n (sym (beyond u low path) ∙ e)
    ]
  no_fresh_below (below {u} t ys up b j within) s xs a i idle path n = λ e.
      no_fresh_below up t ys b i idle (j ∷ path) n ((in_part (VarTerm u t ys) b).child j within path ∙ e)

  -- a variable below m that is not idle's own has another root
  term_root : (i h n : ℕ) → Idle i → HasTerm base h → ¬ (at (d h).graph [] ≡ Some' (Further (index i), n))
  term_root i h n idle (s, xs, a) = λ e.
      let same : s ≡ Further (index i) = root_of s (Further (index i)) (length xs) n (sym (in_base (VarTerm h s xs) a).root ∙ e) in
      fresh.not_in_base i h xs idle (subst (λ (z : Symbol). Contains base (VarTerm h z xs)) same a)

  open_root : (i h n : ℕ) → Idle i → ¬ (i ≡ h) → h < m → IsOpen base h → ¬ (at (d h).graph [] ≡ Some' (Further (index i), n))
  open_root i h n idle differ low bare = λ e. do
    c ← either_way (Idle h)
    elim c [
      | inl own ↦ let (k, r) = fresh.root h own in
          let same : index h ≡ index i = index_of (index h) (index i) (root_of (Further (index h)) (Further (index i)) k n (sym r ∙ e)) in
          differ (sym (fresh.apart h i own idle same))
      | inr other ↦ fresh.elsewhere i h idle low bare other [] n e
    ]

  other_root : (i h n : ℕ) → Idle i → ¬ (i ≡ h) → ((r : ℕ) → Contains base (VarVar h r) → ¬ (i ≡ r)) → h < m → ¬ (at (d h).graph [] ≡ Some' (Further (index i), n))
  other_root i h n idle differ aside low = λ e. do
    c ← either_way (HasTerm base h)
    elim c [
      | inl t ↦ term_root i h n idle t e
      | inr plain ↦ do
        v ← either_way ((r : ℕ) × Contains base (VarVar h r))
        elim v [
          | inr free ↦ open_root i h n idle differ low (record { no_variable = λ r a. free (r, a); no_term = λ s xs a. plain (s, xs, a) }) e
          | inl (r, a) ↦ let (smaller, last) = direct h r a in do
            t ← either_way (HasTerm base r)
            elim t [
              | inl y ↦ term_root i r n idle y (sym (in_base (VarVar h r) a []) ∙ e)
              | inr no_term ↦ open_root i r n idle (aside r a) (omega (arith, smaller, low)) (record { no_variable = last; no_term = λ s xs b. no_term (s, xs, b) })
                  (sym (in_base (VarVar h r) a []) ∙ e)
            ]
        ]
    ]

  left_idle : (u h : ℕ) → Contains part (VarVar u h) → ¬ Idle u
  left_idle u h a = λ own.
      let (low, lowh, differ, aside) = shape.equal u h a in
      let (k, r) = fresh.root u own in
      let read : at (d h).graph [] ≡ Some' (Further (index u), k) = sym (beyond h lowh []) ∙ sym (in_part (VarVar u h) a []) ∙ beyond u low [] ∙ r in
      other_root u h k own differ aside lowh read

  right_idle : (u h : ℕ) → Contains part (VarVar u h) → ¬ Idle h
  right_idle u h a = λ own.
      let (low, lowh, differ, aside) = shape.equal u h a in
      let (k, r) = fresh.root h own in
      let read : at (d u).graph [] ≡ Some' (Further (index h), k) = sym (beyond u low []) ∙ in_part (VarVar u h) a [] ∙ beyond h lowh [] ∙ r in
      do
        c ← either_way (Idle u)
        elim c [
          | inr other ↦ fresh.elsewhere h u own low (shape.left_open (VarVar u h) a low) other [] k read
          | inl idle_u ↦ let (j, q) = fresh.root u idle_u in
              let same : index u ≡ index h = index_of (index u) (index h) (root_of (Further (index u)) (Further (index h)) j k (sym q ∙ read)) in
              differ (fresh.apart u h idle_u own same)
        ]

  head_idle : (u : ℕ) (s : Symbol) (xs : List ℕ) → Contains part (VarTerm u s xs) → ¬ Idle u
  head_idle u s xs a = λ own. let (k, r) = fresh.root u own in wrong_root u u k s xs own a (beyond u (fresh.low u own) [] ∙ r)

  argument_idle : (u : ℕ) (s : Symbol) (xs : List ℕ) → Contains part (VarTerm u s xs) → (i : ℕ) → Contains xs i → ¬ Idle i
  argument_idle u s xs a i inside = λ idle.
      let (j, within, e) = argument_at xs i inside in
      let (k, r) = fresh.root i idle in
      no_fresh_below (shape.under (VarTerm u s xs) a) s xs a i idle (j ∷ []) k
      ((in_part (VarTerm u s xs) a).child j within []
      ∙ subst (λ (z : ℕ). at (x z).graph [] ≡ Some' (Further (index i), k)) (sym e) (beyond i (fresh.low i idle) [] ∙ r))

  mark_idle : (u : ℕ) → Contains part (Finite u) → ¬ Idle u
  mark_idle u a = λ own. fresh.endless u own (shape.unmarked u a) (finite_same (x u).graph (d u).graph (beyond u (fresh.low u own)) (in_part (Finite u) a))

  -- each atom of the part that mentions an idle variable is false
  mentioned : (a : Flat) → Contains part a → (i : ℕ) → Contains (variables_of a) i → ¬ Idle i
  mentioned (VarVar u h) a i o = elim (contains_cases u i (h ∷ []) o) [
    | inl e ↦ subst (λ (z : ℕ). ¬ Idle z) e (left_idle u h a)
    | inr more ↦ elim (contains_cases h i [] more) [
      | inl e ↦ subst (λ (z : ℕ). ¬ Idle z) e (right_idle u h a)
      | inr none ↦ absurd (omega (arith, none.1))
    ]
  ]
  mentioned (VarTerm u s xs) a i o = elim (contains_cases u i xs o) [
    | inl e ↦ subst (λ (z : ℕ). ¬ Idle z) e (head_idle u s xs a)
    | inr more ↦ argument_idle u s xs a i more
  ]
  mentioned (Finite u) a i o = elim (contains_cases u i [] o) [
    | inl e ↦ subst (λ (z : ℕ). ¬ Idle z) e (mark_idle u a)
    | inr none ↦ absurd (omega (arith, none.1))
  ]

  -- an atom behind the first m variables hangs on one before them
  top_equation : {w : ℕ} → Under m part w → (w < m) ⊎ ((u : ℕ) × (u < m) × HasTerm part u)
  top_equation (top low) = inl low
  top_equation (below {u} s xs up a i within) = elim (top_equation up) [ inl low ↦ inr (u, low, (s, xs, a)) | inr h ↦ inr h ]

-- the part has no values of the inner variables
pub fresh_part_fails : {σ : Signature} (m : ℕ) (base part : List Flat) (d : Valuation σ) (Idle : ℕ → Type 0) (index : ℕ → ℕ)
    → IsDirect base → IsPartOver m base part → IsFresh m base part d Idle index
    → (i : ℕ) (a : Flat) → Idle i → Contains part a → Contains (variables_of a) i
    → (x : Valuation σ) → Extends m d x → ¬ BasicHolds x part
fresh_part_fails m base part d Idle index direct shape fresh i a idle inside occurs x beyond =
    λ holds. mentioned m base part d x Idle index direct shape fresh beyond holds a inside i occurs idle

-- where every open variable has a fresh value, no part with an atom has such values
pub all_fresh_fails : {σ : Signature} (m : ℕ) (base part : List Flat) (d : Valuation σ) (index : ℕ → ℕ)
    → IsDirect base → IsPartOver m base part → IsFresh m base part d (λ v. (v < m) × IsOpen base v) index
    → (a : Flat) → Contains part a
    → (x : Valuation σ) → Extends m d x → ¬ BasicHolds x part
all_fresh_fails m base part d index direct shape fresh a inside x beyond = λ holds.
    let Idle : ℕ → Type 0 = λ v. (v < m) × IsOpen base v in
    elim (top_equation m base part d x Idle index direct shape fresh beyond holds (shape.under a inside)) [
      | inl low ↦ mentioned m base part d x Idle index direct shape fresh beyond holds a inside (variable_of a) (own_variable a) (low, shape.left_open a inside low)
      | inr (u, low, (s, xs, b)) ↦ mentioned m base part d x Idle index direct shape fresh beyond holds (VarTerm u s xs) b u (contains_first u xs) (low, shape.left_open (VarTerm u s xs) b low)
    ]
