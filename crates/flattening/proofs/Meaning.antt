-- The conjunction of a formula means the formula.
use Rattle.std.proofs.Common.{ℕ, zero, suc, ◌≡◌, ◌+◌, ◌<◌, ◌≤◌, List, [], ◌∷◌, length, map, refl, ap, sym, subst, ◌∙◌, arith, inl, inr, ◌⊎◌, add-zero}
use Rattle.std.specs.Prelude.{IsSome, slice_index}
use Rattle.std.proofs.lemmas.Bool.Decides.{eqb_tells}
use Rattle.classical.specs.Classical.{Exists, IsStable}
use Rattle.classical.proofs.Stable.{not_stable, all_stable, and_stable, unit_stable, ◌>>=◌}
use Rattle.tree_model.specs.Signatures.{Signature, TreeOver, Alike}
use Rattle.tree_model.specs.Trees.{at, ReadsFinite}
use Rattle.tree_model.specs.Valuations.{Valuation, update}
use Rattle.tree_model.proofs.Stability.{read_stable}
use Rattle.formula_ast.specs.declared.pred.Pred.{Pred}
use Rattle.formula_ast.specs.Satisfaction.{parameters}
use Rattle.flat_form.specs.declared.cube.Cube.{Cube}
use Rattle.flat_form.specs.Normals.{Norms, none, also, join}
use Rattle.flat_form.specs.Meanings.{BasicHolds, NormHolds, NormsHold, Extends}
use Rattle.flattening.specs.declared.solved.Key.{Key}
use Rattle.flattening.specs.Plain.{PlainTerm, PlainTerms, variable, apply, no_terms, one_more, Plain, always, equal, finite, ask, no, and, exists}
use Rattle.flattening.specs.Conditions.{count, TermFits, TermsFit, FormulaFits, KeyHolds, EntryMeans}
use Rattle.flattening.specs.Flattening.{alone, wides, wide, numbers, equation, equality, equality_bound, whole, wholes, bound_of, atoms_of, parts_of, negation, flattened}
use Rattle.flattening.proofs.Given.{update_same, update_other}
use Rattle.flattening.proofs.Values.{In, InSome, value, value_coincides, Reads, basic_both, basic_parts, number_sound}
use Rattle.flattening.proofs.CubesMean.{AllFree, some_refuted, none_holds}
use Rattle.flattening.proofs.Filled.{Filled, one_filled, own_filled, equations_filled, number_below, read_at}

-- the variable x is free in the formula
abbrev pub IsFree : ℕ → Plain → Type 0
IsFree x always = ⊥
IsFree x (equal t s) = In x t ⊎ In x s
IsFree x (finite t) = In x t
IsFree x (ask key ts) = InSome x ts
IsFree x (no f) = IsFree x f
IsFree x (and f g) = IsFree x f ⊎ IsFree x g
IsFree x (exists y f) = (¬ (x ≡ y)) × IsFree x f

-- each free variable has a number below n
abbrev pub Below : (ℕ → ℕ) → ℕ → Plain → Type 0
Below m n f = (x : ℕ) → IsFree x f → m x < n

module _ (σ : Signature) (preds : List Pred) where
  abbrev pub ReadAll : Valuation σ → PlainTerms → List (TreeOver σ) → Type 0
  ReadAll e no_terms [] = Unit {0}
  ReadAll e (one_more t ts) (tree ∷ trees) = Reads e t tree × ReadAll e ts trees
  ReadAll e no_terms (tree ∷ trees) = ⊥
  ReadAll e (one_more t ts) [] = ⊥

  -- the formula holds
  abbrev pub PlainHolds : Plain → Valuation σ → Type 0
  PlainHolds always e = Unit {0}
  PlainHolds (equal t s) e = (path : List ℕ) → value e t path ≡ value e s path
  PlainHolds (finite t) e = ReadsFinite (value e t)
  PlainHolds (ask key ts) e = Exists (λ (trees : List (TreeOver σ)). ReadAll e ts trees × KeyHolds σ preds key trees)
  PlainHolds (no f) e = ¬ PlainHolds f e
  PlainHolds (and f g) e = PlainHolds f e × PlainHolds g e
  PlainHolds (exists x f) e = Exists (λ (t : TreeOver σ). PlainHolds f (update e x t))

  pub plain_stable : (f : Plain) (e : Valuation σ) → IsStable (PlainHolds f e)
  plain_stable always e = unit_stable
  plain_stable (equal t s) e = all_stable (λ path. read_stable _ _)
  plain_stable (finite t) e = not_stable
  plain_stable (ask key ts) e = not_stable
  plain_stable (no f) e = not_stable
  plain_stable (and f g) e = and_stable (plain_stable f e) (plain_stable g e)
  plain_stable (exists x f) e = not_stable

  finite_moves : (t : PlainTerm) (e d : Valuation σ) → ((path : List ℕ) → value e t path ≡ value d t path) → ReadsFinite (value e t) → ReadsFinite (value d t)
  finite_moves t e d same is_finite n = is_finite (λ b. n (b.0, λ path reads. b.1 path (subst IsSome (sym (same path)) reads)))

  reads_move : (ts : PlainTerms) (e d : Valuation σ) (trees : List (TreeOver σ)) → ((x : ℕ) → InSome x ts → Alike (e x) (d x)) → ReadAll e ts trees → ReadAll d ts trees
  reads_move no_terms e d [] alike all = tt
  reads_move no_terms e d (tree ∷ trees) alike all = all
  reads_move (one_more t ts) e d [] alike all = all
  reads_move (one_more t ts) e d (tree ∷ trees) alike all =
      ((λ path. all.0 path ∙ value_coincides t e d (λ x i. alike x (inl i)) path), reads_move ts e d trees (λ x i. alike x (inr i)) all.1)

  -- the meaning reads the free variables alone
  pub coincide : (f : Plain) (e d : Valuation σ) → ((x : ℕ) → IsFree x f → Alike (e x) (d x)) → PlainHolds f e → PlainHolds f d
  coincide always e d h s = tt
  coincide (equal t s) e d h same = λ path.
      sym (value_coincides t e d (λ x i. h x (inl i)) path) ∙ same path ∙ value_coincides s e d (λ x i. h x (inr i)) path
  coincide (finite t) e d h s = finite_moves t e d (value_coincides t e d h) s
  coincide (ask key ts) e d h s = λ n. do
    (trees, (all, holds)) ← s
    n (trees, (reads_move ts e d trees h all, holds))
  coincide (no f) e d h s = λ t. s (coincide f d e (λ x i p. sym (h x i p)) t)
  coincide (and f g) e d h s = (coincide f e d (λ x i. h x (inl i)) s.0, coincide g e d (λ x i. h x (inr i)) s.1)
  coincide (exists y f) e d h s = λ n. do
    (t, p) ← s
    n (t, coincide f (update e y t) (update d y t) (λ x i. elim (eqb_tells y x) [ inl k ↦ rw k.0 (λ p. refl) | inr k ↦ rw k.0 (h x ((λ q. k.1 (sym q)), i)) ]) p)

pub length_numbers : (m : ℕ → ℕ) (n : ℕ) (ts : PlainTerms) → length (numbers m n ts) ≡ count ts
length_numbers m n no_terms = refl
length_numbers m n (one_more t ts) = omega (arith, length_numbers m (n + wide t) ts)

pub numbers_below : (m : ℕ → ℕ) (n : ℕ) (ts : PlainTerms) → ((x : ℕ) → InSome x ts → m x < n) → (i : ℕ) → i < length (numbers m n ts) → slice_index (numbers m n ts) i < n + wides ts
numbers_below m n no_terms below i w = absurd (omega arith)
numbers_below m n (one_more t ts) below zero w = omega (arith, number_below m n t (λ x j. below x (inl j)))
numbers_below m n (one_more t ts) below (suc i) w = omega (arith, numbers_below m (n + wide t) ts (λ x j. omega (arith, below x (inr j))) i (omega arith))

pub under : (m : ℕ → ℕ) (n x : ℕ) (f : Plain) → Below m n (exists x f) → Below (update m x n) (n + 1) f
under m n x f below y i = elim (eqb_tells x y) [
  | inl h ↦ rw h.0 (omega arith)
  | inr h ↦ rw h.0 (omega (arith, below y ((λ q. h.1 (sym q)), i)))
]

module _ (σ : Signature) (preds : List Pred) (entries : Key → List Cube) where
  -- each entry that the formula asks means its predicate or win, with as many free variables as there are arguments
  abbrev pub Meant : Plain → Type 0
  Meant always = Unit {0}
  Meant (equal t s) = Unit {0}
  Meant (finite t) = Unit {0}
  Meant (ask key ts) = EntryMeans σ preds key (count ts) (entries key) × AllFree (count ts) (entries key)
  Meant (no f) = Meant f
  Meant (and f g) = Meant f × Meant g
  Meant (exists x f) = Meant f

  -- the conjunction of f holds, its bound variables among the others
  abbrev pub Conj : (ℕ → ℕ) → ℕ → ℕ → Plain → Valuation σ → Type 0
  Conj m n scope f d = BasicHolds d (atoms_of m n f) × NormsHold scope d (parts_of entries m n scope f)

  abbrev pub Sound : Plain → Type 0
  Sound f = (m : ℕ → ℕ) (n scope : ℕ) (d : Valuation σ) → n + bound_of f ≤ scope → Below m n f → Meant f → FormulaFits σ f → Conj m n scope f d → PlainHolds σ preds f (λ x. d (m x))

  abbrev pub Complete : Plain → Type 0
  Complete f = (m : ℕ → ℕ) (n scope : ℕ) (d : Valuation σ) → n + bound_of f ≤ scope → Below m n f → Meant f → FormulaFits σ f → PlainHolds σ preds f (λ x. d (m x))
      → Exists (λ (d' : Valuation σ). Extends n d d' × ((d'' : Valuation σ) → Extends (n + bound_of f) d' d'' → Conj m n scope f d''))

  equation_sound : (t : PlainTerm) (m : ℕ → ℕ) (u n : ℕ) (d : Valuation σ) → BasicHolds d (equation m u n t) → (path : List ℕ) → at (d u).graph path ≡ value (λ x. d (m x)) t path
  equation_sound (variable v) m u n d holds path = holds.0 path
  equation_sound (apply s ts) m u n d holds path = number_sound m d (apply s ts) u n holds path

  equality_sound : (t s : PlainTerm) (m : ℕ → ℕ) (n : ℕ) (d : Valuation σ) → BasicHolds d (equality m n t s) → (path : List ℕ) → value (λ x. d (m x)) t path ≡ value (λ x. d (m x)) s path
  equality_sound (variable u) s m n d holds path = equation_sound s m (m u) n d holds path
  equality_sound (apply f ts) (variable v) m n d holds path = sym (equation_sound (apply f ts) m (m v) n d holds path)
  equality_sound (apply f ts) (apply g us) m n d holds path =
      let parts = basic_parts (equation m n (n + 1) (apply f ts)) _ d holds in
      sym (equation_sound (apply f ts) m n (n + 1) d parts.0 path) ∙ equation_sound (apply g us) m n (n + 1 + wides ts) d parts.1 path

  wholes_sound : (ts : PlainTerms) (m : ℕ → ℕ) (n : ℕ) (d : Valuation σ) → BasicHolds d (wholes m n ts) → ReadAll σ preds (λ x. d (m x)) ts (map d (numbers m n ts))
  wholes_sound no_terms m n d holds = tt
  wholes_sound (one_more t ts) m n d holds =
      let parts = basic_parts (whole m n t) _ d holds in (number_sound m d t n (n + alone t) parts.0, wholes_sound ts m (n + wide t) d parts.1)

  equality_filled : (t s : PlainTerm) (m : ℕ → ℕ) (n : ℕ) (d : Valuation σ) → ((x : ℕ) → In x t ⊎ In x s → m x < n) → TermFits σ t → TermFits σ s
      → ((path : List ℕ) → value (λ x. d (m x)) t path ≡ value (λ x. d (m x)) s path) → Filled n (equality_bound t s) d (equality m n t s)
  equality_filled (variable u) (variable v) m n d below ft fs same =
      (d, ((λ v w path. refl), λ d'' ext. ((λ path. ext (m u) (omega (arith, below u (inl refl))) path ∙ same path ∙ sym (ext (m v) (omega (arith, below v (inr refl))) path)), tt)))
  equality_filled (variable u) (apply g us) m n d below ft fs same = equations_filled g us m (m u) n d (below u (inl refl)) (λ x i. below x (inr i)) fs.1 same
  equality_filled (apply f ts) (variable v) m n d below ft fs same =
      equations_filled f ts m (m v) n d (below v (inr refl)) (λ x i. below x (inl i)) ft.1 (λ path. sym (same path))
  equality_filled (apply f ts) (apply g us) m n d below ft fs same =
      let first = one_filled (apply f ts) m n d (λ x i. below x (inl i)) ft in
      let one = equations_filled f ts m n (n + 1) first.0 (omega arith) (λ x i. omega (arith, below x (inl i))) ft.1 first.1.1 in
      let two = equations_filled g us m n (n + 1 + wides ts) one.0 (omega arith) (λ x i. omega (arith, below x (inr i))) fs.1
      (λ path. one.1.0 n (omega arith) path ∙ first.1.1 path
      ∙ value_coincides (apply f ts) (λ x. first.0 (m x)) (λ x. d (m x)) (λ x i path. first.1.0 (m x) (below x (inl i)) path) path
      ∙ same path
      ∙ value_coincides (apply g us) (λ x. d (m x)) (λ x. one.0 (m x))
      (λ x i path. sym (one.1.0 (m x) (omega (arith, below x (inr i))) path ∙ first.1.0 (m x) (below x (inr i)) path)) path) in (
        two.0,
        (
          (λ v w path. two.1.0 v (omega arith) path ∙ one.1.0 v (omega arith) path ∙ first.1.0 v w path),
          λ d'' ext. basic_both (equation m n (n + 1) (apply f ts)) _ d''
              (one.1.1 d'' (λ v w path. ext v (omega arith) path ∙ two.1.0 v (omega arith) path))
              (two.1.1 d'' (λ v w. ext v (omega arith))),
        ),
      )

  whole_filled : (t : PlainTerm) (m : ℕ → ℕ) (n : ℕ) (d : Valuation σ) → ((x : ℕ) → In x t → m x < n) → TermFits σ t → Filled n (wide t) d (whole m n t)
  whole_filled t m n d below fits =
      let first = one_filled t m n d below fits in
      let more = own_filled t m n (n + alone t) first.0 (omega arith) (λ x i. omega (arith, below x i)) fits first.1.1 in
      (more.0, ((λ v w path. more.1.0 v (omega arith) path ∙ first.1.0 v w path), λ d'' ext. more.1.1 d'' (λ v w. ext v (omega arith))))

  wholes_filled : (ts : PlainTerms) (m : ℕ → ℕ) (n : ℕ) (d : Valuation σ) → ((x : ℕ) → InSome x ts → m x < n) → TermsFit σ ts → Filled n (wides ts) d (wholes m n ts)
  wholes_filled no_terms m n d below fits = (d, ((λ v w path. refl), λ d'' ext. tt))
  wholes_filled (one_more t ts) m n d below fits =
      let one = whole_filled t m n d (λ x i. below x (inl i)) fits.0 in
      let more = wholes_filled ts m (n + wide t) one.0 (λ x i. omega (arith, below x (inr i))) fits.1 in (
        more.0,
        (
          (λ v w path. more.1.0 v (omega arith) path ∙ one.1.0 v w path),
          λ d'' ext. basic_both (whole m n t) _ d''
              (one.1.1 d'' (λ v w path. ext v (omega arith) path ∙ more.1.0 v w path)) (more.1.1 d'' (λ v w. ext v (omega arith))),
        ),
      )

  map_read : (d : Valuation σ) (xs : List ℕ) (v : ℕ) → v < length xs → Alike (d (slice_index xs v)) (parameters σ (map d xs) v)
  map_read d [] v w = absurd (omega arith)
  map_read d (x ∷ xs) zero w = λ path. refl
  map_read d (x ∷ xs) (suc v) w = map_read d xs v (omega arith)

  length_mapped : (d : Valuation σ) (xs : List ℕ) → length (map d xs) ≡ length xs
  length_mapped d [] = refl
  length_mapped d (x ∷ xs) = ap suc (length_mapped d xs)

  reads_length : (ts : PlainTerms) (e : Valuation σ) (trees : List (TreeOver σ)) → ReadAll σ preds e ts trees → length trees ≡ count ts
  reads_length no_terms e [] all = refl
  reads_length no_terms e (tree ∷ trees) all = absurd all
  reads_length (one_more t ts) e [] all = absurd all
  reads_length (one_more t ts) e (tree ∷ trees) all = omega (arith, reads_length ts e trees all.1)

  both_read : (ts : PlainTerms) (e : Valuation σ) (trees others : List (TreeOver σ)) → ReadAll σ preds e ts trees → ReadAll σ preds e ts others
      → (v : ℕ) → Alike (parameters σ trees v) (parameters σ others v)
  both_read no_terms e [] [] a b v = λ path. refl
  both_read no_terms e [] (other ∷ others) a b v = absurd b
  both_read no_terms e (tree ∷ trees) others a b v = absurd a
  both_read (one_more t ts) e [] others a b v = absurd a
  both_read (one_more t ts) e (tree ∷ trees) [] a b v = absurd b
  both_read (one_more t ts) e (tree ∷ trees) (other ∷ others) a b zero = λ path. a.0 path ∙ sym (b.0 path)
  both_read (one_more t ts) e (tree ∷ trees) (other ∷ others) a b (suc v) = both_read ts e trees others a.1 b.1 v

  ask_sound : (key : Key) (ts : PlainTerms) → Sound (ask key ts)
  ask_sound key ts m n scope d le below meant fits c = λ refuted.
      let nums = numbers m n ts in
      let as_many : length nums ≡ count ts = length_numbers m n ts in
      let trees = map d nums in
      c.1.0 d (λ v w path. refl) tt (rw add-zero
      (none_holds nums scope (λ v w. omega (arith, numbers_below m n ts below v w)) (entries key) d (parameters σ trees)
      (subst (λ k. AllFree k (entries key)) (sym as_many) meant.1) (map_read d nums)
      (λ holds. refuted (trees, (wholes_sound ts m n d c.0, (meant.0 trees (length_mapped d nums ∙ as_many)).0 holds)))))

  ask_complete : (key : Key) (ts : PlainTerms) → Complete (ask key ts)
  ask_complete key ts m n scope d le below meant fits s k = do
    (trees, (all, holds)) ← s
    let filled = wholes_filled ts m n d below fits in
        k (
          filled.0,
          (
            filled.1.0,
            λ d'' ext. (
              filled.1.1 d'' ext,
              (
                (λ y more u parts.
                    let nums = numbers m n ts in
                    let as_many : length nums ≡ count ts = length_numbers m n ts in
                    let basic = filled.1.1 y (λ v w path. more v (omega arith) path ∙ ext v w path) in
                    let same : (x : ℕ) → InSome x ts → Alike (d (m x)) (y (m x)) =
                    λ x i path. sym (more (m x) (omega (arith, below x i)) path ∙ ext (m x) (omega (arith, below x i)) path ∙ filled.1.0 (m x) (below x i) path) in
                    some_refuted nums scope (λ v w. omega (arith, numbers_below m n ts below v w)) (entries key) y (parameters σ trees)
                    (subst (λ k. AllFree k (entries key)) (sym as_many) meant.1)
                    (λ v w path. map_read y nums v w path
                    ∙ both_read ts (λ x. y (m x)) (map y nums) trees (wholes_sound ts m n y basic) (reads_move σ preds ts (λ x. d (m x)) (λ x. y (m x)) trees same all) v path)
                    (rw add-zero at parts) ((meant.0 trees (reads_length ts (λ x. d (m x)) trees all)).1 holds)),
                tt,
              ),
            ),
          ),
        )

  norms_both : (ps qs : Norms) (n : ℕ) (d : Valuation σ) → NormsHold n d ps → NormsHold n d qs → NormsHold n d (join ps qs)
  norms_both none qs n d p q = q
  norms_both (also a ps) qs n d p q = (p.0, norms_both ps qs n d p.1 q)

  norms_parts : (ps qs : Norms) (n : ℕ) (d : Valuation σ) → NormsHold n d (join ps qs) → NormsHold n d ps × NormsHold n d qs
  norms_parts none qs n d p = (tt, p)
  norms_parts (also a ps) qs n d p = let q = norms_parts ps qs n d p.1 in ((p.0, q.0), q.1)

  moved_on : (f : Plain) (m : ℕ → ℕ) (n scope : ℕ) (d d' : Valuation σ) → Below m n f → n ≤ scope → Extends scope d d' → PlainHolds σ preds f (λ x. d (m x)) → PlainHolds σ preds f (λ x. d' (m x))
  moved_on f m n scope d d' below le ext = coincide σ preds f _ _ (λ x i p. sym (ext (m x) (omega (arith, below x i)) p))

  moved_back : (f : Plain) (m : ℕ → ℕ) (n scope : ℕ) (d d' : Valuation σ) → Below m n f → n ≤ scope → Extends scope d d' → PlainHolds σ preds f (λ x. d' (m x)) → PlainHolds σ preds f (λ x. d (m x))
  moved_back f m n scope d d' below le ext = coincide σ preds f _ _ (λ x i. ext (m x) (omega (arith, below x i)))

  -- the negated conjunction holds where f doesn't, and only there
  no_holds : (f : Plain) → Sound f → (m : ℕ → ℕ) (n scope : ℕ) (d : Valuation σ) → n ≤ scope → Below m n f → Meant f → FormulaFits σ f → ¬ PlainHolds σ preds f (λ x. d (m x))
      → NormHolds scope d (negation entries m scope f)
  no_holds f sound m n scope d le below meant fits not d' ext basic parts =
      not (moved_back f m n scope d d' below le ext (sound m scope _ d' (omega arith) (λ x i. omega (arith, below x i)) meant fits (basic, parts)))

  no_fails : (f : Plain) → Complete f → (m : ℕ → ℕ) (n scope : ℕ) (d : Valuation σ) → n ≤ scope → Below m n f → Meant f → FormulaFits σ f → PlainHolds σ preds f (λ x. d (m x))
      → ¬ NormHolds scope d (negation entries m scope f)
  no_fails f complete m n scope d le below meant fits holds normal = do
    (d', (ext, conj)) ← complete m scope (scope + bound_of f) d (omega arith) (λ x i. omega (arith, below x i)) meant fits holds
    let c = conj d' (λ v w p. refl) in normal d' ext c.0 c.1

  and_complete : (f g : Plain) → Complete f → Complete g → Complete (and f g)
  and_complete f g completef completeg m n scope d le below meant fits s k = do
    (d1, (e1, c1)) ← completef m n scope d (omega arith) (λ x i. below x (inl i)) meant.0 fits.0 s.0
    (d2, (e2, c2)) ← completeg m (n + bound_of f) scope d1 (omega arith) (λ x i. omega (arith, below x (inr i))) meant.1 fits.1 (moved_on g m n n d d1 (λ x i. below x (inr i)) (omega arith) e1 s.1)
    k (
      d2,
      (
        (λ v w p. e2 v (omega arith) p ∙ e1 v w p),
        λ d'' ext.
            let p = c1 d'' (λ v w p. ext v (omega arith) p ∙ e2 v w p) in
            let q = c2 d'' (λ v w. ext v (omega arith)) in
            (basic_both _ _ d'' p.0 q.0, norms_both _ _ scope d'' p.1 q.1),
      ),
    )

  exists_complete : (x : ℕ) (f : Plain) → Complete f → Complete (exists x f)
  exists_complete x f complete m n scope d le below meant fits s k = do
    (t, p) ← s
    (d1, (e1, c1)) ← complete (update m x n) (n + 1) scope (update d n t) (omega arith) (under m n x f below) meant fits
        (coincide σ preds f (update (λ y. d (m y)) x t) (λ y. update d n t (update m x n y)) (λ y i. elim (eqb_tells x y) [
          | inl h ↦ rw (h.0, update_same d n t n refl) (λ p. refl)
          | inr h ↦ rw (h.0, update_other d n t (m y) (λ q. omega (arith, below y ((λ r. h.1 (sym r)), i)))) (λ p. refl)
        ]) p)
    k (
      d1,
      (
        (λ v w path. e1 v (omega arith) path ∙ read_at _ _ (update_other d n t v (λ q. omega arith)) path),
        λ d'' ext. c1 d'' (λ v w. ext v (omega arith)),
      ),
    )

  finite_sound : (t : PlainTerm) → Sound (finite t)
  finite_sound t m n scope d le below meant fits c =
      let parts = basic_parts (whole m n t) _ d c.0 in
      λ refuted. parts.1.0 (λ b. refuted (b.0, λ path reads. b.1 path (subst IsSome (sym (number_sound m d t n (n + alone t) parts.0 path)) reads)))

  finite_complete : (t : PlainTerm) → Complete (finite t)
  finite_complete t m n scope d le below meant fits s k =
      let filled = whole_filled t m n d below fits in
      k (
        filled.0,
        (
          filled.1.0,
          λ d'' ext.
              let holds = filled.1.1 d'' ext in (
                basic_both (whole m n t) _ d'' holds (
                  (λ refuted. s (λ b. refuted (
                    b.0,
                    λ path reads. b.1 path (subst IsSome
                        (number_sound m d'' t n (n + alone t) holds path
                        ∙ value_coincides t (λ x. d'' (m x)) (λ x. d (m x)) (λ x i path. ext (m x) (omega (arith, below x i)) path ∙ filled.1.0 (m x) (below x i) path) path) reads),
                  ))),
                  tt,
                ),
                tt,
              ),
        ),
      )

  means : (f : Plain) → Sound f × Complete f
  means always = ((λ m n scope d le below meant fits c. tt), λ m n scope d le below meant fits s k. k (d, ((λ v w p. refl), λ d'' ext. (tt, tt))))
  means (equal t s) = (
    (λ m n scope d le below meant fits c. equality_sound t s m n d c.0),
    λ m n scope d le below meant fits same k. let filled = equality_filled t s m n d below fits.0 fits.1 same in k (filled.0, (filled.1.0, λ d'' ext. (filled.1.1 d'' ext, tt))),
  )
  means (finite t) = (finite_sound t, finite_complete t)
  means (ask key ts) = (ask_sound key ts, ask_complete key ts)
  means (no f) = let (sound, complete) = means f in (
    (λ m n scope d le below meant fits c holds. no_fails f complete m n scope d (omega arith) below meant fits holds c.1.0),
    (λ m n scope d le below meant fits not k. k (
      d,
      (
        (λ v w p. refl),
        λ d'' ext.
            (tt, (no_holds f sound m n scope d'' (omega arith) below meant fits (λ h. not (moved_back f m n (n + 0) d d'' below (omega arith) ext h)), tt)),
      ),
    )),
  )
  means (and f g) = let (soundf, completef) = means f in let (soundg, completeg) = means g in (
    (λ m n scope d le below meant fits c.
        let b = basic_parts (atoms_of m n f) _ d c.0 in
        let p = norms_parts (parts_of entries m n scope f) _ scope d c.1 in
        (soundf m n scope d (omega arith) (λ x i. below x (inl i)) meant.0 fits.0 (b.0, p.0), soundg m (n + bound_of f) scope d (omega arith) (λ x i. omega (arith, below x (inr i))) meant.1 fits.1 (b.1, p.1))),
    and_complete f g completef completeg,
  )
  means (exists x f) = let (sound, complete) = means f in (
    (λ m n scope d le below meant fits c k. k (
      d n,
      coincide σ preds f (λ y. d (update m x n y)) (update (λ y. d (m y)) x (d n))
          (λ y i. elim (eqb_tells x y) [ inl h ↦ rw h.0 (λ p. refl) | inr h ↦ rw h.0 (λ p. refl) ])
          (sound (update m x n) (n + 1) scope d (omega arith) (under m n x f below) meant fits c),
    )),
    exists_complete x f complete,
  )

  -- what is flattened holds exactly where the formula does
  pub flattened_sound : (m : ℕ → ℕ) (n : ℕ) (f : Plain) (d : Valuation σ) → Below m n f → Meant f → FormulaFits σ f → NormHolds n d (flattened entries m n f) → PlainHolds σ preds f (λ x. d (m x))
  flattened_sound m n f d below meant fits h = (plain_stable σ preds f _).holds (λ not.
      h d (λ v w p. refl) tt (rw add-zero (no_holds f (means f).0 m n n d (omega arith) below meant fits not, tt)))

  pub flattened_complete : (m : ℕ → ℕ) (n : ℕ) (f : Plain) (d : Valuation σ) → Below m n f → Meant f → FormulaFits σ f → PlainHolds σ preds f (λ x. d (m x)) → NormHolds n d (flattened entries m n f)
  flattened_complete m n f d below meant fits s d' ext u both =
      let b = rw add-zero at both in
      no_fails f (means f).1 m n n d' (omega arith) below meant fits (moved_on f m n n d d' below (omega arith) ext s) b.0
