-- The values of the new variables of terms exist.
use Rattle.std.proofs.Common.{ℕ, zero, suc, ◌≡◌, ◌+◌, ◌<◌, ◌≤◌, List, [], ◌∷◌, length, get_or, refl, ap, sym, ◌∙◌, arith, inl, inr, add-zero}
use Rattle.std.specs.Prelude.{Some, slice_index, Contains}
use Rattle.tree_model.specs.declared.tree.Symbol.{Symbol}
use Rattle.tree_model.specs.Signatures.{Signature, TreeOver, IsRoot, Alike}
use Rattle.tree_model.specs.Trees.{at}
use Rattle.tree_model.specs.Valuations.{Valuation, update}
use Rattle.tree_model.specs.OneNode.{constant}
use Rattle.tree_facts.specs.Equations.{Equation, equals_variable, equals_term, IsApplied, HasDistinctLefts, SystemFits, left_of}
use Rattle.tree_facts.proofs.Equations.{at_past, within_or_past}
use Rattle.tree_facts.proofs.Existence.{has_solution}
use Rattle.tree_facts.proofs.Members.{contains_first, contains_cases}
use Rattle.flat_form.specs.declared.atom.Flat.{Flat}
use Rattle.flat_form.specs.Meanings.{BasicHolds, Extends}
use Rattle.flattening.specs.Plain.{PlainTerm, PlainTerms, variable, apply, no_terms, one_more}
use Rattle.flattening.specs.Conditions.{count, TermFits, TermsFit}
use Rattle.flattening.specs.Flattening.{alone, inside, wides, applied, number, arguments, equations, deeper}
use Rattle.flattening.proofs.Given.{update_same, update_other}
use Rattle.flattening.proofs.Values.{In, InSome, nth_value, value_coincides, nth_coincides, Reads, basic_both, length_arguments, nth_past}

-- so many numbers from k on
abbrev run_from : ℕ → ℕ → List ℕ
run_from k zero = []
run_from k (suc n) = k ∷ run_from (k + 1) n

length_run : (k n : ℕ) → length (run_from k n) ≡ n
length_run k zero = refl
length_run k (suc n) = ap suc (length_run (k + 1) n)

run_at : (k n i : ℕ) → i < n → slice_index (run_from k n) i ≡ k + i
run_at k zero i w = absurd (omega arith)
run_at k (suc n) zero w = sym (add-zero k)
run_at k (suc n) (suc i) w = run_at (k + 1) n i (omega arith) ∙ omega arith

module _ {σ : Signature} where
  abbrev children : List (TreeOver σ) → Valuation σ
  children trees zero = constant σ 0
  children trees (suc v) = get_or trees v (constant σ 0)

  -- there is a tree with this root and these children
  pub made_tree : (s : Symbol) (trees : List (TreeOver σ)) → IsRoot σ s (length trees)
      → (tree : TreeOver σ) × ((at tree.graph [] ≡ Some (s, length trees))
      × ((i : ℕ) → i < length trees → (path : List ℕ) → at tree.graph (i ∷ path) ≡ at (get_or trees i (constant σ 0)).graph path))
  made_tree s trees root =
      let n = length trees in
      let run : List ℕ = run_from 1 n in
      let system : List Equation = equals_term 0 s run ∷ [] in
      let only : (q : Equation) → Contains system q → equals_term 0 s run ≡ q =
      λ q k. elim (contains_cases (equals_term 0 s run) q [] k) [ inl e ↦ e | inr none ↦ absurd (omega (arith, none.1)) ] in
      let distinct : HasDistinctLefts system = record {
        one_each = λ p q j k e. sym (only p j) ∙ only q k;
        direct = λ u r w j k. absurd (cc (only (equals_variable u r) j));
      } in
      let fits : SystemFits σ system = λ u symbol xs k.
      let e = only (equals_term u symbol xs) k in
      let same : s ≡ symbol = cc in let runs : run ≡ xs = cc in rw (← same, ← runs, length_run 1 n) root in
      let found = has_solution σ system (children trees) distinct fits in
      let is : IsApplied found.0 0 s run = found.1 (equals_term 0 s run) (contains_first (equals_term 0 s run) []) in (
        found.0 0,
        (
          is.root ∙ ap (λ k. Some (s, k)) (length_run 1 n),
          λ i w path.
              let place : slice_index run i ≡ suc i = run_at 1 n i w ∙ omega arith in
              is.child i (omega (arith, length_run 1 n)) path ∙ ap (λ v. at (found.0 v).graph path) place
              ∙ found.2 (suc i) (λ q k e. absurd (let l : 0 ≡ left_of q = ap left_of (only q k) in omega arith)) path,
        ),
      )

  applied_reads : (s : Symbol) (ts : PlainTerms) (e : Valuation σ) (trees : List (TreeOver σ)) (tree : TreeOver σ) → length trees ≡ count ts
      → ((i : ℕ) → i < count ts → (path : List ℕ) → at (get_or trees i (constant σ 0)).graph path ≡ nth_value e ts i path)
      → at tree.graph [] ≡ Some (s, length trees)
      → ((i : ℕ) → i < length trees → (path : List ℕ) → at tree.graph (i ∷ path) ≡ at (get_or trees i (constant σ 0)).graph path)
      → Reads e (apply s ts) tree
  applied_reads s ts e trees tree as_many read root child [] = root ∙ ap (λ k. Some (s, k)) as_many
  applied_reads s ts e trees tree as_many read root child (i ∷ path) = elim (within_or_past i (count ts)) [
    | inl w ↦ child i (omega (arith, as_many)) path ∙ read i w path
    | inr w ↦ at_past tree.graph s (length trees) i path root (omega (arith, as_many)) ∙ sym (nth_past _ ts i path w)
  ]

  more_reads : (t : PlainTerm) (ts : PlainTerms) (e : Valuation σ) (tree : TreeOver σ) (trees : List (TreeOver σ)) → Reads e t tree
      → ((i : ℕ) → i < count ts → (path : List ℕ) → at (get_or trees i (constant σ 0)).graph path ≡ nth_value e ts i path)
      → (i : ℕ) → i < count (one_more t ts) → (path : List ℕ) → at (get_or (tree ∷ trees) i (constant σ 0)).graph path ≡ nth_value e (one_more t ts) i path
  more_reads t ts e tree trees reads read zero w path = reads path
  more_reads t ts e tree trees reads read (suc i) w path = read i (omega arith) path

  applied_tree : (s : Symbol) (ts : PlainTerms) (e : Valuation σ)
      → (trees : List (TreeOver σ)) × ((length trees ≡ count ts) × ((i : ℕ) → i < count ts → (path : List ℕ) → at (get_or trees i (constant σ 0)).graph path ≡ nth_value e ts i path))
      → IsRoot σ s (count ts) → (tree : TreeOver σ) × Reads e (apply s ts) tree
  applied_tree s ts e (trees, (as_many, read)) root =
      let made = made_tree s trees (rw as_many root) in (made.0, applied_reads s ts e trees made.0 as_many read made.1.0 made.1.1)

  more_trees : (t : PlainTerm) (ts : PlainTerms) (e : Valuation σ) → (tree : TreeOver σ) × Reads e t tree
      → (trees : List (TreeOver σ)) × ((length trees ≡ count ts) × ((i : ℕ) → i < count ts → (path : List ℕ) → at (get_or trees i (constant σ 0)).graph path ≡ nth_value e ts i path))
      → (trees : List (TreeOver σ)) × ((length trees ≡ count (one_more t ts))
      × ((i : ℕ) → i < count (one_more t ts) → (path : List ℕ) → at (get_or trees i (constant σ 0)).graph path ≡ nth_value e (one_more t ts) i path))
  more_trees t ts e (tree, reads) (trees, (as_many, read)) = (tree ∷ trees, (omega (arith, as_many), more_reads t ts e tree trees reads read))

  mutual
    -- each term that fits has a tree as its value
    pub tree_of : (t : PlainTerm) (e : Valuation σ) → TermFits σ t → (tree : TreeOver σ) × Reads e t tree
    tree_of (variable v) e fits = (e v, λ path. refl)
    tree_of (apply s ts) e fits = applied_tree s ts e (trees_of ts e fits.1) fits.0

    trees_of : (ts : PlainTerms) (e : Valuation σ) → TermsFit σ ts
        → (trees : List (TreeOver σ)) × ((length trees ≡ count ts) × ((i : ℕ) → i < count ts → (path : List ℕ) → at (get_or trees i (constant σ 0)).graph path ≡ nth_value e ts i path))
    trees_of no_terms e fits = ([], (refl, λ i w path. absurd (omega arith)))
    trees_of (one_more t ts) e fits = more_trees t ts e (tree_of t e fits.0) (trees_of ts e fits.1)

-- how many new variables stand below the arguments
abbrev pub deep : PlainTerms → ℕ
deep no_terms = 0
deep (one_more t ts) = inside t + deep ts

pub deep_wides : (ts : PlainTerms) → applied ts + deep ts ≡ wides ts
deep_wides no_terms = refl
deep_wides (one_more t ts) = omega (arith, deep_wides ts)

pub number_below : (m : ℕ → ℕ) (k : ℕ) (t : PlainTerm) → ((x : ℕ) → In x t → m x < k) → number m k t < k + alone t
number_below m k (variable v) below = omega (arith, below v refl)
number_below m k (apply s ts) below = omega arith

arguments_below : (m : ℕ → ℕ) (k : ℕ) (ts : PlainTerms) → ((x : ℕ) → InSome x ts → m x < k) → (i : ℕ) → i < count ts → slice_index (arguments m k ts) i < k + applied ts
arguments_below m k no_terms below i w = absurd (omega arith)
arguments_below m k (one_more t ts) below zero w = omega (arith, number_below m k t (λ x j. below x (inl j)))
arguments_below m k (one_more t ts) below (suc i) w =
    omega (arith, arguments_below m (k + alone t) ts (λ x j. omega (arith, below x (inr j))) i (omega arith))

module _ {σ : Signature} where
  pub read_at : (e d : TreeOver σ) → e ≡ d → Alike e d
  read_at e d same path = ap (λ (x : TreeOver σ). at x.graph path) same

  abbrev pub ArgumentsRead : (ℕ → ℕ) → ℕ → PlainTerms → Valuation σ → Type 0
  ArgumentsRead m k ts d = (i : ℕ) → i < count ts → (path : List ℕ) → at (d (slice_index (arguments m k ts) i)).graph path ≡ nth_value (λ v. d (m v)) ts i path

  -- a value for the number of one term
  pub one_filled : (t : PlainTerm) (m : ℕ → ℕ) (k : ℕ) (d : Valuation σ) → ((x : ℕ) → In x t → m x < k) → TermFits σ t
      → (d' : Valuation σ) × (Extends k d d' × Reads (λ v. d' (m v)) t (d' (number m k t)))
  one_filled (variable v) m k d below fits = (d, ((λ v w path. refl), λ path. refl))
  one_filled (apply s ts) m k d below fits =
      let made = tree_of (apply s ts) (λ v. d (m v)) fits in (
        update d k made.0,
        (
          (λ v w. read_at _ _ (update_other d k made.0 v (λ e. omega arith))),
          λ path. read_at _ _ (update_same d k made.0 k refl) path ∙ made.1 path
              ∙ value_coincides (apply s ts) (λ v. d (m v)) (λ v. update d k made.0 (m v))
              (λ x i path. sym (read_at _ _ (update_other d k made.0 (m x) (λ e. omega (arith, below x i))) path)) path,
        ),
      )

  -- values for the numbers of the arguments
  arguments_filled : (ts : PlainTerms) (m : ℕ → ℕ) (k : ℕ) (d : Valuation σ) → ((x : ℕ) → InSome x ts → m x < k) → TermsFit σ ts
      → (d' : Valuation σ) × (Extends k d d' × ArgumentsRead m k ts d')
  arguments_filled no_terms m k d below fits = (d, ((λ v w path. refl), λ i w path. absurd (omega arith)))
  arguments_filled (one_more t ts) m k d below fits =
      let one = one_filled t m k d (λ x i. below x (inl i)) fits.0 in
      let more = arguments_filled ts m (k + alone t) one.0 (λ x i. omega (arith, below x (inr i))) fits.1 in (
        more.0,
        (
          (λ v w path. more.1.0 v (omega arith) path ∙ one.1.0 v w path),
          more_read t ts m k one.0 more.0 (λ x i. below x (inl i)) more.1.0 one.1.1 more.1.1,
        ),
      )
    where
      more_read : (t : PlainTerm) (ts : PlainTerms) (m : ℕ → ℕ) (k : ℕ) (d1 d2 : Valuation σ) → ((x : ℕ) → In x t → m x < k) → Extends (k + alone t) d1 d2
          → Reads (λ v. d1 (m v)) t (d1 (number m k t)) → ArgumentsRead m (k + alone t) ts d2 → ArgumentsRead m k (one_more t ts) d2
      more_read t ts m k d1 d2 below ext reads rest zero w path =
          ext (number m k t) (number_below m k t below) path ∙ reads path
          ∙ value_coincides t (λ v. d1 (m v)) (λ v. d2 (m v)) (λ x i path. sym (ext (m x) (omega (arith, below x i)) path)) path
      more_read t ts m k d1 d2 below ext reads rest (suc i) w path = rest i (omega arith) path

  -- there are values of the new variables that make the equations hold, whatever the later variables are
  abbrev pub Filled : ℕ → ℕ → Valuation σ → List Flat → Type 0
  Filled n bound d basic = (d' : Valuation σ) × (Extends n d d' × ((d'' : Valuation σ) → Extends (n + bound) d' d'' → BasicHolds d'' basic))

  applied_there : (s : Symbol) (ts : PlainTerms) (m : ℕ → ℕ) (u n : ℕ) (d d1 d'' : Valuation σ) → u < n → ((x : ℕ) → InSome x ts → m x < n)
      → Reads (λ v. d (m v)) (apply s ts) (d u) → Extends n d d1 → ArgumentsRead m n ts d1 → Extends (n + applied ts) d1 d'' → IsApplied d'' u s (arguments m n ts)
  applied_there s ts m u n d d1 d'' w below reads ext read later = record {
    root = later u (omega arith) [] ∙ ext u w [] ∙ reads [] ∙ ap (λ c. Some (s, c)) (sym (length_arguments m n ts));
    child = λ i l path.
        let k : i < count ts = omega (arith, length_arguments m n ts) in
        later u (omega arith) (i ∷ path) ∙ ext u w (i ∷ path) ∙ reads (i ∷ path)
        ∙ nth_coincides ts (λ v. d (m v)) (λ v. d1 (m v)) (λ x j path. sym (ext (m x) (below x j) path)) i path
        ∙ sym (read i k path) ∙ sym (later (slice_index (arguments m n ts) i) (arguments_below m n ts below i k) path);
  }

module _ (σ : Signature) where
  abbrev DeeperFilled : PlainTerms → Type 0
  DeeperFilled ts = (m : ℕ → ℕ) (k n : ℕ) (d : Valuation σ) → k + applied ts ≤ n → ((x : ℕ) → InSome x ts → m x < k) → TermsFit σ ts
      → ArgumentsRead m k ts d → Filled n (deep ts) d (deeper m k n ts)

module _ {σ : Signature} where
  equations_filled_by : (s : Symbol) (ts : PlainTerms) → DeeperFilled σ ts → (m : ℕ → ℕ) (u n : ℕ) (d : Valuation σ) → u < n → ((x : ℕ) → InSome x ts → m x < n) → TermsFit σ ts
      → Reads (λ v. d (m v)) (apply s ts) (d u) → Filled n (wides ts) d (equations m u n (apply s ts))
  equations_filled_by s ts deeper_of m u n d w below fits reads =
      let first = arguments_filled ts m n d below fits in
      let more = deeper_of m n (n + applied ts) first.0 (omega arith) (λ x i. below x i) fits first.1.1 in (
        more.0,
        (
          (λ v l path. more.1.0 v (omega arith) path ∙ first.1.0 v l path),
          λ d'' ext. (
            applied_there s ts m u n d first.0 d'' w below reads first.1.0 first.1.1
                (λ v l path. ext v (omega (arith, deep_wides ts)) path ∙ more.1.0 v l path),
            more.1.1 d'' (λ v l. ext v (omega (arith, deep_wides ts))),
          ),
        ),
      )

  mutual
    pub own_filled : (t : PlainTerm) (m : ℕ → ℕ) (k n : ℕ) (d : Valuation σ) → k + alone t ≤ n → ((x : ℕ) → In x t → m x < n) → TermFits σ t
        → Reads (λ v. d (m v)) t (d (number m k t)) → Filled n (inside t) d (equations m k n t)
    own_filled (variable v) m k n d le below fits reads = (d, ((λ v w path. refl), λ d'' ext. tt))
    own_filled (apply s ts) m k n d le below fits reads = equations_filled_by s ts (deeper_filled ts) m k n d (omega arith) below fits.1 reads

    pub deeper_filled : (ts : PlainTerms) (m : ℕ → ℕ) (k n : ℕ) (d : Valuation σ) → k + applied ts ≤ n → ((x : ℕ) → InSome x ts → m x < k) → TermsFit σ ts
        → ArgumentsRead m k ts d → Filled n (deep ts) d (deeper m k n ts)
    deeper_filled no_terms m k n d le below fits read = (d, ((λ v w path. refl), λ d'' ext. tt))
    deeper_filled (one_more t ts) m k n d le below fits read =
        let one = own_filled t m k n d (omega arith) (λ x i. omega (arith, below x (inl i))) fits.0 (read 0 (omega arith)) in
        let more = deeper_filled ts m (k + alone t) (n + inside t) one.0 (omega arith) (λ x i. omega (arith, below x (inr i))) fits.1
        (λ i w path. one.1.0 (slice_index (arguments m (k + alone t) ts) i) (omega (arith, arguments_below m (k + alone t) ts (λ x j. omega (arith, below x (inr j))) i w)) path
        ∙ read (suc i) (omega arith) path
        ∙ nth_coincides ts (λ v. d (m v)) (λ v. one.0 (m v)) (λ x j path. sym (one.1.0 (m x) (omega (arith, below x (inr j))) path)) i path) in (
          more.0,
          (
            (λ v l path. more.1.0 v (omega arith) path ∙ one.1.0 v l path),
            λ d'' ext. basic_both (equations m k n t) _ d''
                (one.1.1 d'' (λ v l path. ext v (omega arith) path ∙ more.1.0 v l path))
                (more.1.1 d'' (λ v l. ext v (omega arith))),
          ),
        )

  pub equations_filled : (s : Symbol) (ts : PlainTerms) (m : ℕ → ℕ) (u n : ℕ) (d : Valuation σ) → u < n → ((x : ℕ) → InSome x ts → m x < n) → TermsFit σ ts
      → Reads (λ v. d (m v)) (apply s ts) (d u) → Filled n (wides ts) d (equations m u n (apply s ts))
  equations_filled s ts = equations_filled_by s ts (deeper_filled ts)
