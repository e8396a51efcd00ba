-- Fresh values can be had: for idle variables over any values of the others, and for all open variables at once.
use Rattle.std.specs.Prelude.{Some as Some', Contains, max}
use Rattle.std.proofs.Common.{ℕ, ◌≡◌, ◌<◌, ◌≤◌, ◌+◌, List, [], ◌∷◌, refl, sym, ap, ◌∙◌, subst, arith, inl, inr, ◌⊎◌, cond}
use Rattle.classical.proofs.Stable.{some}
use Rattle.tree_model.specs.declared.tree.Symbol.TheVariants.{Further}
use Rattle.tree_model.specs.Signatures.{Signature, TreeOver, Alike}
use Rattle.tree_model.specs.Trees.{at, IsFinite}
use Rattle.tree_model.specs.Valuations.{Valuation}
use Rattle.tree_model.proofs.Sameness.{finite_same}
use Rattle.tree_model.specs.OneNode.{constant, loop}
use Rattle.tree_facts.specs.Indexes.{above_index, above_indexes}
use Rattle.tree_facts.proofs.Indexes.{read_index_below, constant_finite, loop_infinite}
use Rattle.tree_facts.proofs.Members.{contains_first, contains_later, contains_cases}
use Rattle.flat_form.specs.declared.atom.Flat.{Flat}
use Rattle.flat_form.specs.declared.atom.Flat.TheVariants.{VarVar, VarTerm, Finite}
use Rattle.flat_form.specs.declared.cube.Part.{Part}
use Rattle.flat_form.specs.Fitting.{BasicFits}
use Rattle.flat_form.specs.Meanings.{AtomHolds, BasicHolds, Extends}
use Rattle.flat_form.specs.Parts.{variables_of, IsPartOver}
use Rattle.flat_form.specs.Solved.{variable_of, IsOpen, IsSolved}
use Rattle.flat_facts.proofs.Atoms.{atom_moves}
use Rattle.flat_facts.proofs.Lists.{all_hold}
use Rattle.flat_facts.proofs.Solutions.{solved_solution}
use Rattle.cube_facts.proofs.Variables.{stands_in, stands_tells}
use Rattle.cube_facts.proofs.FreshPart.{IsFresh, all_fresh_fails}

-- above each index in the atoms
abbrev pub height : Flat → ℕ
height (VarVar u r) = 0
height (VarTerm u s xs) = above_index s
height (Finite u) = 0

abbrev pub atoms_above : List Flat → ℕ
atoms_above [] = 0
atoms_above (a ∷ rest) = max (height a) (atoms_above rest)

height_below : (atoms : List Flat) (a : Flat) → Contains atoms a → height a ≤ atoms_above atoms
height_below [] a i = absurd (omega (arith, i.1))
height_below (b ∷ rest) a i = elim (contains_cases b a rest i) [
  | inl e ↦ let same : height b ≡ height a = ap height e in omega (arith, same)
  | inr more ↦ omega (arith, height_below rest a more)
]

pub index_below : (atoms : List Flat) (u k : ℕ) (xs : List ℕ) → Contains atoms (VarTerm u (Further k) xs) → k < atoms_above atoms
index_below atoms u k xs i = omega (arith, height_below atoms (VarTerm u (Further k) xs) i)

-- above each index in the parts
abbrev pub parts_above : List Part → ℕ
parts_above [] = 0
parts_above (part ∷ rest) = max (atoms_above part.basic) (parts_above rest)

-- the variables with a finite atom
abbrev marks : List Flat → List ℕ
marks [] = []
marks (VarVar u r ∷ rest) = marks rest
marks (VarTerm u s xs ∷ rest) = marks rest
marks (Finite u ∷ rest) = u ∷ marks rest

mark_in : (atoms : List Flat) (v : ℕ) → Contains atoms (Finite v) → Contains (marks atoms) v
mark_in [] v i = absurd (omega (arith, i.1))
mark_in (VarVar u r ∷ rest) v i = elim (contains_cases (VarVar u r) (Finite v) rest i) [ inl e ↦ absurd (cc e) | inr more ↦ mark_in rest v more ]
mark_in (VarTerm u s xs ∷ rest) v i = elim (contains_cases (VarTerm u s xs) (Finite v) rest i) [ inl e ↦ absurd (cc e) | inr more ↦ mark_in rest v more ]
mark_in (Finite u ∷ rest) v i = elim (contains_cases (Finite u) (Finite v) rest i) [
  | inl e ↦ subst (λ (z : ℕ). Contains (u ∷ marks rest) z) (ap variable_of e) (contains_first u (marks rest))
  | inr more ↦ contains_later u v (marks rest) (mark_in rest v more)
]

mark_from : (atoms : List Flat) (v : ℕ) → Contains (marks atoms) v → Contains atoms (Finite v)
mark_from [] v i = absurd (omega (arith, i.1))
mark_from (VarVar u r ∷ rest) v i = contains_later (VarVar u r) (Finite v) rest (mark_from rest v i)
mark_from (VarTerm u s xs ∷ rest) v i = contains_later (VarTerm u s xs) (Finite v) rest (mark_from rest v i)
mark_from (Finite u ∷ rest) v i = elim (contains_cases u v (marks rest) i) [
  | inl e ↦ subst (λ (z : ℕ). Contains (Finite u ∷ rest) (Finite z)) e (contains_first (Finite u) rest)
  | inr more ↦ contains_later (Finite u) (Finite v) rest (mark_from rest v more)
]

module _ (σ : Signature) (base : List Flat) (k : ℕ) where
  -- $(k+v), or its loop
  abbrev pub fresh_tree : ℕ → TreeOver σ
  fresh_tree v = cond (stands_in (marks base) v) (constant σ (k + v)) (loop σ (k + v))

  fresh_is : (v : ℕ) → (Contains base (Finite v) × (fresh_tree v ≡ constant σ (k + v))) ⊎ ((¬ Contains base (Finite v)) × (fresh_tree v ≡ loop σ (k + v)))
  fresh_is v = elim (stands_tells (marks base) v) [
    | inl h ↦ inl (mark_from base v h.1, rw h.0 refl)
    | inr h ↦ inr ((λ i. h.1 (mark_in base v i)), rw h.0 refl)
  ]

  abbrev HasRoot : ℕ → TreeOver σ → Type 0
  HasRoot v t = (n : ℕ) × (at t.graph [] ≡ Some' (Further (k + v), n))

  pub fresh_root : (v : ℕ) → (n : ℕ) × (at (fresh_tree v).graph [] ≡ Some' (Further (k + v), n))
  fresh_root v = elim (fresh_is v) [
    | inl h ↦ subst (HasRoot v) (sym h.1) (0, refl)
    | inr h ↦ subst (HasRoot v) (sym h.1) (1, refl)
  ]

  pub fresh_finite : (v : ℕ) → Contains base (Finite v) → IsFinite (fresh_tree v).graph
  fresh_finite v i = elim (fresh_is v) [
    | inl h ↦ subst (λ (t : TreeOver σ). IsFinite t.graph) (sym h.1) (constant_finite σ (k + v))
    | inr h ↦ absurd (h.0 i)
  ]

  pub fresh_endless : (v : ℕ) → ¬ Contains base (Finite v) → ¬ IsFinite (fresh_tree v).graph
  fresh_endless v none = elim (fresh_is v) [
    | inl h ↦ absurd (none h.0)
    | inr h ↦ subst (λ (t : TreeOver σ). ¬ IsFinite t.graph) (sym h.1) (loop_infinite σ (k + v))
  ]

-- idle variables, over values x of the others
module _ (σ : Signature) (m k : ℕ) (base : List Flat) (x : Valuation σ) (idle : List ℕ)
    (low : (v : ℕ) → Contains idle v → v < m) (bare : (v : ℕ) → Contains idle v → IsOpen base v)
    (apart : (a : Flat) → Contains base a → ¬ Contains idle (variable_of a) → (v : ℕ) → Contains (variables_of a) v → ¬ Contains idle v)
    (holds : (a : Flat) → Contains base a → ¬ Contains idle (variable_of a) → AtomHolds x a)
    (trees_low : (v : ℕ) → v < m → above_indexes (x v).graph.nodes ≤ k) (base_low : atoms_above base ≤ k) where
  abbrev pub renewed : Valuation σ
  renewed v = cond (stands_in idle v) (fresh_tree σ base k v) (x v)

  renewed_idle : (v : ℕ) → Contains idle v → renewed v ≡ fresh_tree σ base k v
  renewed_idle v i = elim (stands_tells idle v) [ inl h ↦ rw h.0 refl | inr h ↦ absurd (h.1 i) ]

  pub renewed_other : (v : ℕ) → ¬ Contains idle v → renewed v ≡ x v
  renewed_other v none = elim (stands_tells idle v) [ inl h ↦ absurd (none h.1) | inr h ↦ rw h.0 refl ]

  renewed_like : (v : ℕ) → ¬ Contains idle v → Alike (x v) (renewed v)
  renewed_like v none = subst (λ (t : TreeOver σ). Alike (x v) t) (sym (renewed_other v none)) (λ path. refl)

  idle_holds : (a : Flat) → Contains base a → Contains idle (variable_of a) → AtomHolds renewed a
  idle_holds (VarVar u r) i h = absurd ((bare u h).no_variable r i)
  idle_holds (VarTerm u s xs) i h = absurd ((bare u h).no_term s xs i)
  idle_holds (Finite u) i h = subst (λ (t : TreeOver σ). IsFinite t.graph) (sym (renewed_idle u h)) (fresh_finite σ base k u i)

  pub renewed_holds : BasicHolds renewed base
  renewed_holds = all_hold renewed base (λ a i. elim (stands_tells idle (variable_of a)) [
    | inl h ↦ idle_holds a i h.1
    | inr h ↦ atom_moves a x renewed (λ v o. renewed_like v (apart a i h.1 v o)) (holds a i h.1)
  ])

  not_read : (i v : ℕ) → v < m → ¬ Contains idle v → (path : List ℕ) (n : ℕ) → ¬ (at (renewed v).graph path ≡ Some' (Further (k + i), n))
  not_read i v w other path n = λ e.
      let here : at (x v).graph path ≡ Some' (Further (k + i), n) = renewed_like v other path ∙ e in
      read_index_below (x v).graph (k + i) (omega (arith, trees_low v w)) (some path (some n here))

  pub renewed_fresh : (part : List Flat) → atoms_above part ≤ k → IsFresh m base part renewed (Contains idle) (λ v. k + v)
  renewed_fresh part part_low = record {
    solves = renewed_holds;
    low = low;
    bare = bare;
    apart = λ i j a b e. omega (arith, e);
    root = λ i h. subst (λ (t : TreeOver σ). (n : ℕ) × (at t.graph [] ≡ Some' (Further (k + i), n))) (sym (renewed_idle i h)) (fresh_root σ base k i);
    endless = λ i h none. subst (λ (t : TreeOver σ). ¬ IsFinite t.graph) (sym (renewed_idle i h)) (fresh_endless σ base k i none);
    elsewhere = λ i v h w o other path n. not_read i v w other path n;
    not_in_base = λ i u xs h j. omega (arith, index_below base u (k + i) xs j, base_low);
    not_in_part = λ i u xs h j. omega (arith, index_below part u (k + i) xs j, part_low);
  }

-- all open variables
module _ (σ : Signature) (k : ℕ) (base : List Flat) (solved : IsSolved base) (fits : BasicFits σ base) (base_low : atoms_above base ≤ k) where
  pub record AllFresh (d : Valuation σ) : Type 0 where
    pub holds : BasicHolds d base
    pub like : (v : ℕ) → IsOpen base v → Alike (d v) (fresh_tree σ base k v)

  pub all_fresh : (d : Valuation σ) × AllFresh d
  all_fresh =
      let (d, holds, like) = solved_solution σ base (fresh_tree σ base k) solved fits (fresh_finite σ base k) in
      (d, record { holds = holds; like = like })

  module _ (m : ℕ) (d : Valuation σ) (is : AllFresh d) where
    pub all_fresh_is : (part : List Flat) → atoms_above part ≤ k → IsFresh m base part d (λ v. (v < m) × IsOpen base v) (λ v. k + v)
    all_fresh_is part part_low = record {
      solves = is.holds;
      low = λ i h. h.0;
      bare = λ i h. h.1;
      apart = λ i j a b e. omega (arith, e);
      root = λ i h. let (n, r) = fresh_root σ base k i in (n, is.like i h.1 [] ∙ r);
      endless = λ i h none finite. fresh_endless σ base k i none (finite_same (d i).graph (fresh_tree σ base k i).graph (is.like i h.1) finite);
      elsewhere = λ i v h w o other path n e. other (w, o);
      not_in_base = λ i u xs h j. omega (arith, index_below base u (k + i) xs j, base_low);
      not_in_part = λ i u xs h j. omega (arith, index_below part u (k + i) xs j, part_low);
    }

    -- so each part that has the shape of one, and an atom, fails
    pub every_part_fails : (part : List Flat) → atoms_above part ≤ k → IsPartOver m base part → (a : Flat) → Contains part a
        → (x : Valuation σ) → Extends m d x → ¬ BasicHolds x part
    every_part_fails part part_low shape a i = all_fresh_fails m base part d (λ v. k + v) solved.direct shape (all_fresh_is part part_low) a i
