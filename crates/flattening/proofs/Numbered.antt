-- The flattened formula is well numbered.
use Rattle.std.proofs.Common.{ℕ, ◌≡◌, ◌+◌, ◌<◌, ◌≤◌, List, [], ◌∷◌, length, map, refl, sym, subst, arith, inl, inr, ◌⊎◌, add-zero}
use Rattle.std.specs.Prelude.{All, slice_index}
use Rattle.std.proofs.lemmas.List.Elements.{All-nil, All-cons, All-head, All-tail, All-append, All-map, All-weaker}
use Rattle.tree_model.specs.Valuations.{update}
use Rattle.formula_ast.specs.Forms.{Form}
use Rattle.flat_form.specs.declared.atom.Flat.{Flat}
use Rattle.flat_form.specs.declared.atom.Flat.TheVariants.{VarVar, VarTerm, Finite}
use Rattle.flat_form.specs.declared.cube.Part.{Part}
use Rattle.flat_form.specs.declared.cube.Cube.{Cube}
use Rattle.flat_form.specs.Normals.{Norm, Norms, norm, none, also, join}
use Rattle.flat_form.specs.Numbering.{AtomOver, BasicOver, PartOver, IsWellNumbered, CubesOver, NormOver, NormsOver}
use Rattle.flattening.specs.declared.solved.Key.{Key}
use Rattle.flattening.specs.Plain.{PlainTerm, PlainTerms, variable, apply, no_terms, one_more, Plain, always, equal, finite, ask, no, and, exists, plain_of}
use Rattle.flattening.specs.Numbers.{rank_in}
use Rattle.flattening.specs.Tables.{cubes_at}
use Rattle.flattening.specs.Conditions.{HasFreeVariables, HasEntries, TermIsNarrow, TermsAreNarrow, IsNarrow}
use Rattle.flat_form.specs.Parts.{renumbered}
use Rattle.flattening.specs.Flattening.{alone, inside, wide, wides, applied, number, arguments, equations, deeper, equation, equality, equality_bound, whole, numbers, wholes, placed, denied_parts, denied, all_denied, bound_of, atoms_of, parts_of, flattened}
use Rattle.flattening.proofs.Values.{In, InSome, length_arguments}
use Rattle.flattening.proofs.Filled.{deep, deep_wides, number_below}
use Rattle.flattening.proofs.CubesMean.{length_map, placed_within}
use Rattle.flattening.proofs.Meaning.{Below, length_numbers, numbers_below, under}
use Rattle.flattening.proofs.Whole.{ranks_below}

-- the numbers of the variables are below k
abbrev TermBelow : (ℕ → ℕ) → ℕ → PlainTerm → Type 0
TermBelow m k t = (x : ℕ) → In x t → m x < k

abbrev TermsBelow : (ℕ → ℕ) → ℕ → PlainTerms → Type 0
TermsBelow m k ts = (x : ℕ) → InSome x ts → m x < k

arguments_over : (ts : PlainTerms) (m : ℕ → ℕ) (k all : ℕ) → k + applied ts ≤ all → TermsBelow m k ts → All (λ v. v < all) (arguments m k ts)
arguments_over no_terms m k all le below = All-nil (λ v. v < all)
arguments_over (one_more t ts) m k all le below =
    All-cons (λ v. v < all) (number m k t) (arguments m (k + alone t) ts) (omega (arith, number_below m k t (λ x i. below x (inl i))))
    (arguments_over ts m (k + alone t) all (omega arith) (λ x i. omega (arith, below x (inr i))))

mutual
  equations_over : (t : PlainTerm) (m : ℕ → ℕ) (u n all : ℕ) → u + alone t ≤ n → n + inside t ≤ all → TermBelow m n t → TermIsNarrow t → BasicOver all (equations m u n t)
  equations_over (variable v) m u n all own le below narrow = All-nil (AtomOver all)
  equations_over (apply s ts) m u n all own le below narrow =
      All-cons (AtomOver all) (VarTerm u s (arguments m n ts)) (deeper m n (n + applied ts) ts)
      (omega arith, arguments_over ts m n all (omega (arith, deep_wides ts)) below, omega (arith, length_arguments m n ts, narrow.0))
      (deeper_over ts m n (n + applied ts) all (omega arith) (omega (arith, deep_wides ts)) below narrow.1)

  deeper_over : (ts : PlainTerms) (m : ℕ → ℕ) (k n all : ℕ) → k + applied ts ≤ n → n + deep ts ≤ all → TermsBelow m k ts → TermsAreNarrow ts → BasicOver all (deeper m k n ts)
  deeper_over no_terms m k n all own le below narrow = All-nil (AtomOver all)
  deeper_over (one_more t ts) m k n all own le below narrow =
      All-append (AtomOver all) (equations m k n t) (deeper m (k + alone t) (n + inside t) ts)
      (equations_over t m k n all (omega arith) (omega arith) (λ x i. omega (arith, below x (inl i))) narrow.0)
      (deeper_over ts m (k + alone t) (n + inside t) all (omega arith) (omega arith) (λ x i. omega (arith, below x (inr i))) narrow.1)

equation_over : (t : PlainTerm) (m : ℕ → ℕ) (u n all : ℕ) → u < n → n + inside t ≤ all → TermBelow m n t → TermIsNarrow t → BasicOver all (equation m u n t)
equation_over (variable v) m u n all own le below narrow =
    All-cons (AtomOver all) (VarVar u (m v)) [] (omega arith, omega (arith, below v refl)) (All-nil (AtomOver all))
equation_over (apply s ts) m u n all own le below narrow = equations_over (apply s ts) m u n all (omega arith) le below narrow

equality_over : (t s : PlainTerm) (m : ℕ → ℕ) (n all : ℕ) → n + equality_bound t s ≤ all → ((x : ℕ) → In x t ⊎ In x s → m x < n) → TermIsNarrow t → TermIsNarrow s
    → BasicOver all (equality m n t s)
equality_over (variable u) s m n all le below first other = equation_over s m (m u) n all (below u (inl refl)) le (λ x i. below x (inr i)) other
equality_over (apply f ts) (variable v) m n all le below first other = equation_over (apply f ts) m (m v) n all (below v (inr refl)) le (λ x i. below x (inl i)) first
equality_over (apply f ts) (apply g us) m n all le below first other =
    All-append (AtomOver all) (equation m n (n + 1) (apply f ts)) (equation m n (n + 1 + wides ts) (apply g us))
    (equation_over (apply f ts) m n (n + 1) all (omega arith) (omega arith) (λ x i. omega (arith, below x (inl i))) first)
    (equation_over (apply g us) m n (n + 1 + wides ts) all (omega arith) (omega arith) (λ x i. omega (arith, below x (inr i))) other)

whole_over : (t : PlainTerm) (m : ℕ → ℕ) (n all : ℕ) → n + wide t ≤ all → TermBelow m n t → TermIsNarrow t → BasicOver all (whole m n t)
whole_over t m n all le below narrow = equations_over t m n (n + alone t) all (omega arith) (omega arith) (λ x i. omega (arith, below x i)) narrow

wholes_over : (ts : PlainTerms) (m : ℕ → ℕ) (n all : ℕ) → n + wides ts ≤ all → TermsBelow m n ts → TermsAreNarrow ts → BasicOver all (wholes m n ts)
wholes_over no_terms m n all le below narrow = All-nil (AtomOver all)
wholes_over (one_more t ts) m n all le below narrow =
    All-append (AtomOver all) (whole m n t) (wholes m (n + wide t) ts)
    (whole_over t m n all (omega arith) (λ x i. below x (inl i)) narrow.0)
    (wholes_over ts m (n + wide t) all (omega arith) (λ x i. omega (arith, below x (inr i))) narrow.1)

-- the atoms of a formula's conjunction
atoms_over : (f : Plain) (m : ℕ → ℕ) (n all : ℕ) → n + bound_of f ≤ all → Below m n f → IsNarrow f → BasicOver all (atoms_of m n f)
atoms_over always m n all le below narrow = All-nil (AtomOver all)
atoms_over (equal t s) m n all le below narrow = equality_over t s m n all le below narrow.0 narrow.1
atoms_over (finite t) m n all le below narrow =
    All-append (AtomOver all) (whole m n t) (Finite (number m n t) ∷ []) (whole_over t m n all le below narrow)
    (All-cons (AtomOver all) (Finite (number m n t)) [] (omega (arith, number_below m n t below)) (All-nil (AtomOver all)))
atoms_over (ask key ts) m n all le below narrow = wholes_over ts m n all le below narrow
atoms_over (no f) m n all le below narrow = All-nil (AtomOver all)
atoms_over (and f g) m n all le below narrow =
    All-append (AtomOver all) (atoms_of m n f) (atoms_of m (n + bound_of f) g)
    (atoms_over f m n all (omega arith) (λ x i. below x (inl i)) narrow.0)
    (atoms_over g m (n + bound_of f) all (omega arith) (λ x i. omega (arith, below x (inr i))) narrow.1)
atoms_over (exists x f) m n all le below narrow = atoms_over f (update m x n) (n + 1) all (omega arith) (under m n x f below) narrow

renumbered_over : (f : ℕ → ℕ) (n all : ℕ) → ((v : ℕ) → v < n → f v < all) → (atom : Flat) → AtomOver n atom → AtomOver all (renumbered f atom)
renumbered_over f n all within (VarVar u v) over = (within u over.0, within v over.1)
renumbered_over f n all within (VarTerm u s xs) over = (
  within u over.0,
  All-map (λ v. v < all) f xs (All-weaker (λ v. v < n) (λ v. f v < all) within xs over.1),
  omega (arith, length_map f xs, over.2),
)
renumbered_over f n all within (Finite u) over = within u over

basic_renumbered : (f : ℕ → ℕ) (n all : ℕ) → ((v : ℕ) → v < n → f v < all) → (basic : List Flat) → BasicOver n basic → BasicOver all (map (renumbered f) basic)
basic_renumbered f n all within basic over =
    All-map (AtomOver all) (renumbered f) basic (All-weaker (AtomOver n) (λ atom. AtomOver all (renumbered f atom)) (renumbered_over f n all within) basic over)

module _ (args : List ℕ) (scope : ℕ) (args_below : (v : ℕ) → v < length args → slice_index args v < scope) where
  parts_denied_over : (outer : ℕ) (parts : List Part) → All (PartOver (length args + outer)) parts → NormsOver (scope + outer) (denied_parts (placed args scope) parts)
  parts_denied_over outer [] over = tt
  parts_denied_over outer (part ∷ rest) over = (
    (
      basic_renumbered (placed args scope) (length args + outer + part.inner) (scope + outer + part.inner)
          (λ v w. omega (arith, placed_within args scope args_below (outer + part.inner) v (omega arith))) part.basic
          (All-head (PartOver (length args + outer)) part rest over),
      tt,
    ),
    parts_denied_over outer rest (All-tail (PartOver (length args + outer)) part rest over),
  )

  cube_denied_over : (cube : Cube) → cube.free ≡ length args → IsWellNumbered cube → NormOver scope (denied args scope cube)
  cube_denied_over cube free over = (
    basic_renumbered (placed args scope) (cube.free + cube.outer) (scope + cube.outer) (λ v w. placed_within args scope args_below cube.outer v (omega (arith, free))) cube.basic over.basic,
    parts_denied_over cube.outer cube.parts (subst (λ (n : ℕ). All (PartOver (n + cube.outer)) cube.parts) free over.parts),
  )

  cubes_denied_over : (cubes : List Cube) → CubesOver (length args) cubes → NormsOver scope (all_denied args scope cubes)
  cubes_denied_over [] over = tt
  cubes_denied_over (cube ∷ rest) over =
      let here = All-head (λ (cube : Cube). (cube.free ≡ length args) × IsWellNumbered cube) cube rest over in (
        cube_denied_over cube here.0 here.1,
        cubes_denied_over rest (All-tail (λ (cube : Cube). (cube.free ≡ length args) × IsWellNumbered cube) cube rest over),
      )

joined_over : (ps qs : Norms) (n : ℕ) → NormsOver n ps → NormsOver n qs → NormsOver n (join ps qs)
joined_over none qs n over more = more
joined_over (also p ps) qs n over more = (over.0, joined_over ps qs n over.1 more)

-- a negated conjunction that binds nothing and has no atoms
bare_over : (n : ℕ) (parts : Norms) → NormsOver n parts → NormOver n (norm 0 [] parts)
bare_over n parts over = (All-nil (AtomOver (n + 0)), rw add-zero over)

-- the parts of a formula's conjunction
parts_over : (table : List (Key × List Cube)) (f : Plain) (m : ℕ → ℕ) (n scope : ℕ) → n + bound_of f ≤ scope → Below m n f → IsNarrow f → HasEntries table f
    → NormsOver scope (parts_of (cubes_at table) m n scope f)
parts_over table always m n scope le below narrow has = tt
parts_over table (equal t s) m n scope le below narrow has = tt
parts_over table (finite t) m n scope le below narrow has = tt
parts_over table (ask key ts) m n scope le below narrow has = (
  bare_over scope (all_denied (numbers m n ts) scope (cubes_at table key))
      (cubes_denied_over (numbers m n ts) scope (λ v w. omega (arith, numbers_below m n ts below v w)) (cubes_at table key)
      (subst (λ (k : ℕ). CubesOver k (cubes_at table key)) (sym (length_numbers m n ts)) has.1)),
  tt,
)
parts_over table (no f) m n scope le below narrow has = (
  (
    atoms_over f m scope (scope + bound_of f) (omega arith) (λ x i. omega (arith, below x i)) narrow,
    parts_over table f m scope (scope + bound_of f) (omega arith) (λ x i. omega (arith, below x i)) narrow has,
  ),
  tt,
)
parts_over table (and f g) m n scope le below narrow has =
    joined_over (parts_of (cubes_at table) m n scope f) (parts_of (cubes_at table) m (n + bound_of f) scope g) scope
    (parts_over table f m n scope (omega arith) (λ x i. below x (inl i)) narrow.0 has.0)
    (parts_over table g m (n + bound_of f) scope (omega arith) (λ x i. omega (arith, below x (inr i))) narrow.1 has.1)
parts_over table (exists x f) m n scope le below narrow has = parts_over table f (update m x n) (n + 1) scope (omega arith) (under m n x f below) narrow has

pub well_numbered : (ranks : List ℕ) (table : List (Key × List Cube)) (f : Form) (normal : Norm) → normal ≡ flattened (cubes_at table) (rank_in ranks) (length ranks) (plain_of f)
    → HasFreeVariables ranks f → IsNarrow (plain_of f) → HasEntries table (plain_of f) → NormOver (length ranks) normal
well_numbered ranks table f normal is free narrow has =
    let n = length ranks in
    let g = plain_of f in
    let below : Below (rank_in ranks) n g = ranks_below ranks f free in
    subst (λ (x : Norm). NormOver n x) (sym is)
    (bare_over n (also (norm (bound_of g) (atoms_of (rank_in ranks) n g) (parts_of (cubes_at table) (rank_in ranks) n (n + bound_of g) g)) none) (
      (
        atoms_over g (rank_in ranks) n (n + bound_of g) (omega arith) below narrow,
        parts_over table g (rank_in ranks) n (n + bound_of g) (omega arith) below narrow has,
      ),
      tt,
    ))
