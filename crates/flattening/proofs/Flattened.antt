-- Each symbol of a flattened formula stands in the formula or in the table.
use Rattle.std.specs.Prelude.{All, Contains}
use Rattle.std.proofs.Common.{◌≡◌, ℕ, ◌+◌, Bool, true, false, cond, Some, List, [], ◌∷◌, length, map, sym, subst, ◌⊎◌, inl, inr}
use Rattle.std.proofs.lemmas.List.Elements.{All-nil, All-cons, All-head, All-tail, All-append, All-weaker, All-map}
use Rattle.tree_model.specs.declared.tree.Symbol.{Symbol}
use Rattle.tree_model.specs.Signatures.{IsRoot}
use Rattle.tree_model.specs.Valuations.{update}
use Rattle.flat_form.specs.declared.atom.Flat.{Flat}
use Rattle.flat_form.specs.declared.atom.Flat.TheVariants.{VarVar, VarTerm, Finite}
use Rattle.flat_form.specs.declared.cube.Part.{Part}
use Rattle.flat_form.specs.declared.cube.Cube.{Cube}
use Rattle.flat_form.specs.Fitting.{CubeFits}
use Rattle.flat_form.specs.Normals.{Norms, none, also, join}
use Rattle.flat_form.specs.Symbols.{cube_symbols, cubes_symbols, AreRoots}
use Rattle.flat_form.proofs.Symbols.{fits_by_symbols}
use Rattle.formula_ast.specs.Forms.{Form}
use Rattle.flattening.specs.declared.solved.Key.{Key}
use Rattle.flattening.specs.Plain.{PlainTerm, PlainTerms, variable, apply, no_terms, one_more, Plain, always, equal, finite, ask, no, and, exists, plain_of}
use Rattle.flattening.specs.Conditions.{count}
use Rattle.flattening.specs.Numbers.{rank_in}
use Rattle.flattening.specs.Tables.{same_key, entry_at, cubes_of, cubes_at}
use Rattle.flat_form.specs.Parts.{renumbered}
use Rattle.flattening.specs.Flattening.{alone, inside, wide, wides, applied, number, arguments, equations, deeper, equation, equality, whole, numbers, wholes, placed, denied_parts, all_denied, bound_of, atoms_of, parts_of, flattening_of}
use Rattle.flattening.specs.Symbols.{form_symbols}
use Rattle.flattening.specs.SymbolLaws.{StandsInTable, FlattenedSymbols, FlattenedFits}
use Rattle.flattening.proofs.Values.{length_arguments}
use Rattle.flattening.proofs.CubesMean.{length_map}
use Rattle.flattening.proofs.EachItem.{all_flat, flat_all, contained_all}
use Rattle.flattening.proofs.EachSymbol.{AtomEach, BasicEach, NormEach, NormsEach, norm_all, all_cube_basic, all_cube_parts}
use Rattle.flattening.proofs.FormSymbols.{TermEach, TermsEach, FormEach, form_each}

module _ (P : Symbol × ℕ → Type 0) where
  abbrev Atom : Flat → Type 0
  Atom = AtomEach P

  -- an equation with a term has its symbol
  term_atom : (u : ℕ) (s : Symbol) (n : ℕ) (xs : List ℕ) → length xs ≡ n → P (s, n) → Atom (VarTerm u s xs)
  term_atom u s n xs size p = All-cons P (s, length xs) [] (subst (λ (k : ℕ). P (s, k)) (sym size) p) (All-nil P)

  mutual
    equations_each : (t : PlainTerm) (m : ℕ → ℕ) (u n : ℕ) → TermEach P t → BasicEach P (equations m u n t)
    equations_each (variable v) m u n each = All-nil Atom
    equations_each (apply s ts) m u n each =
        All-cons Atom (VarTerm u s (arguments m n ts)) (deeper m n (n + applied ts) ts)
        (term_atom u s (count ts) (arguments m n ts) (length_arguments m n ts) each.0) (deeper_each ts m n (n + applied ts) each.1)

    deeper_each : (ts : PlainTerms) (m : ℕ → ℕ) (k n : ℕ) → TermsEach P ts → BasicEach P (deeper m k n ts)
    deeper_each no_terms m k n each = All-nil Atom
    deeper_each (one_more t ts) m k n each =
        All-append Atom (equations m k n t) (deeper m (k + alone t) (n + inside t) ts)
        (equations_each t m k n each.0) (deeper_each ts m (k + alone t) (n + inside t) each.1)

  equation_each : (t : PlainTerm) (m : ℕ → ℕ) (u n : ℕ) → TermEach P t → BasicEach P (equation m u n t)
  equation_each (variable v) m u n each = All-cons Atom (VarVar u (m v)) [] (All-nil P) (All-nil Atom)
  equation_each (apply s ts) m u n each = equations_each (apply s ts) m u n each

  equality_each : (t s : PlainTerm) (m : ℕ → ℕ) (n : ℕ) → TermEach P t → TermEach P s → BasicEach P (equality m n t s)
  equality_each (variable u) s m n first other = equation_each s m (m u) n other
  equality_each (apply f ts) (variable v) m n first other = equation_each (apply f ts) m (m v) n first
  equality_each (apply f ts) (apply g us) m n first other =
      All-append Atom (equation m n (n + 1) (apply f ts)) (equation m n (n + 1 + wides ts) (apply g us))
      (equation_each (apply f ts) m n (n + 1) first) (equation_each (apply g us) m n (n + 1 + wides ts) other)

  wholes_each : (ts : PlainTerms) (m : ℕ → ℕ) (n : ℕ) → TermsEach P ts → BasicEach P (wholes m n ts)
  wholes_each no_terms m n each = All-nil Atom
  wholes_each (one_more t ts) m n each =
      All-append Atom (whole m n t) (wholes m (n + wide t) ts) (equations_each t m n (n + alone t) each.0) (wholes_each ts m (n + wide t) each.1)

  atoms_each : (f : Plain) (m : ℕ → ℕ) (n : ℕ) → FormEach P f → BasicEach P (atoms_of m n f)
  atoms_each always m n each = All-nil Atom
  atoms_each (equal t s) m n each = equality_each t s m n each.0 each.1
  atoms_each (finite t) m n each =
      All-append Atom (whole m n t) (Finite (number m n t) ∷ []) (equations_each t m n (n + alone t) each)
      (All-cons Atom (Finite (number m n t)) [] (All-nil P) (All-nil Atom))
  atoms_each (ask key ts) m n each = wholes_each ts m n each
  atoms_each (no f) m n each = All-nil Atom
  atoms_each (and f g) m n each =
      All-append Atom (atoms_of m n f) (atoms_of m (n + bound_of f) g) (atoms_each f m n each.0) (atoms_each g m (n + bound_of f) each.1)
  atoms_each (exists x f) m n each = atoms_each f (update m x n) (n + 1) each

  -- cubes of the table, with other variables

  renumbered_each : (f : ℕ → ℕ) (atom : Flat) → Atom atom → Atom (renumbered f atom)
  renumbered_each f (VarVar u v) each = each
  renumbered_each f (VarTerm u s xs) each = term_atom (f u) s (length xs) (map f xs) (length_map f xs) (All-head P (s, length xs) [] each)
  renumbered_each f (Finite u) each = each

  basic_renumbered : (f : ℕ → ℕ) (basic : List Flat) → BasicEach P basic → BasicEach P (map (renumbered f) basic)
  basic_renumbered f basic each = All-map Atom (renumbered f) basic (All-weaker Atom (λ atom. Atom (renumbered f atom)) (renumbered_each f) basic each)

  parts_renumbered : (f : ℕ → ℕ) (parts : List Part) → All (λ (part : Part). BasicEach P part.basic) parts → NormsEach P (denied_parts f parts)
  parts_renumbered f [] each = tt
  parts_renumbered f (part ∷ rest) each = (
    (basic_renumbered f part.basic (All-head (λ (part : Part). BasicEach P part.basic) part rest each), tt),
    parts_renumbered f rest (All-tail (λ (part : Part). BasicEach P part.basic) part rest each),
  )

  cubes_renumbered : (args : List ℕ) (scope : ℕ) (cubes : List Cube) → All P (cubes_symbols cubes) → NormsEach P (all_denied args scope cubes)
  cubes_renumbered args scope cubes all = each cubes (flat_all P cube_symbols cubes all)
    where
      each : (cubes : List Cube) → All (λ cube. All P (cube_symbols cube)) cubes → NormsEach P (all_denied args scope cubes)
      each [] all = tt
      each (cube ∷ rest) all =
          let here = All-head (λ cube. All P (cube_symbols cube)) cube rest all in (
            (basic_renumbered (placed args scope) cube.basic (all_cube_basic P cube here), parts_renumbered (placed args scope) cube.parts (all_cube_parts P cube here)),
            each rest (All-tail (λ cube. All P (cube_symbols cube)) cube rest all),
          )

  -- the whole

  joined_each : (ps qs : Norms) → NormsEach P ps → NormsEach P qs → NormsEach P (join ps qs)
  joined_each none qs each more = more
  joined_each (also p ps) qs each more = (each.0, joined_each ps qs each.1 more)

  parts_each : (entries : Key → List Cube) → ((key : Key) → All P (cubes_symbols (entries key))) → (f : Plain) (m : ℕ → ℕ) (n scope : ℕ) → FormEach P f
      → NormsEach P (parts_of entries m n scope f)
  parts_each entries those always m n scope each = tt
  parts_each entries those (equal t s) m n scope each = tt
  parts_each entries those (finite t) m n scope each = tt
  parts_each entries those (ask key ts) m n scope each = ((All-nil Atom, cubes_renumbered (numbers m n ts) scope (entries key) (those key)), tt)
  parts_each entries those (no f) m n scope each = ((atoms_each f m scope each, parts_each entries those f m scope (scope + bound_of f) each), tt)
  parts_each entries those (and f g) m n scope each =
      joined_each (parts_of entries m n scope f) (parts_of entries m (n + bound_of f) scope g)
      (parts_each entries those f m n scope each.0) (parts_each entries those g m (n + bound_of f) scope each.1)
  parts_each entries those (exists x f) m n scope each = parts_each entries those f (update m x n) (n + 1) scope each

  -- the cubes that a key has in a table are those of some entry
  cubes_each : (Q : List Cube → Type 0) → Q [] → (table : List (Key × List Cube)) → All (λ (entry : Key × List Cube). Q entry.1) table → (key : Key) → Q (cubes_at table key)
  cubes_each Q empty [] all key = empty
  cubes_each Q empty (entry ∷ rest) all key =
      by (same_key key entry.0) (All-head (λ (entry : Key × List Cube). Q entry.1) entry rest all)
      (cubes_each Q empty rest (All-tail (λ (entry : Key × List Cube). Q entry.1) entry rest all) key)
    where
      by : (b : Bool) → Q entry.1 → Q (cubes_of (entry_at rest key)) → Q (cubes_of (cond b (Some entry.1) (entry_at rest key)))
      by true here there = here
      by false here there = there

  flattened_each : (ranks : List ℕ) (table : List (Key × List Cube)) (f : Form) → All P (form_symbols f)
      → All (λ (entry : Key × List Cube). All P (cubes_symbols entry.1)) table → NormEach P (flattening_of ranks table f)
  unfolding flattening_of
  flattened_each ranks table f all those =
      let each = form_each P f all in
      let entries = cubes_each (λ cubes. All P (cubes_symbols cubes)) (All-nil P) table those in
      let m = rank_in ranks in
      let n = length ranks in
      let g = plain_of f in
      (All-nil Atom, ((atoms_each g m n each, parts_each (cubes_at table) entries g m n (n + bound_of g) each), tt))

pub flattened_symbols : FlattenedSymbols
flattened_symbols ranks table f =
    let P = λ (p : Symbol × ℕ). Contains (form_symbols f) p ⊎ StandsInTable table p in
    norm_all P (flattening_of ranks table f) (flattened_each P ranks table f
    (All-weaker (Contains (form_symbols f)) P (λ p c. inl c) (form_symbols f) (contained_all (form_symbols f)))
    (All-weaker (Contains table) (λ (entry : Key × List Cube). All P (cubes_symbols entry.1)) (λ entry c.
    All-weaker (Contains (cubes_symbols entry.1)) P (λ p d. inr (entry.0, entry.1, c, d)) (cubes_symbols entry.1) (contained_all (cubes_symbols entry.1)))
    table (contained_all table)))

pub flattened_fits : FlattenedFits
flattened_fits σ ranks table f roots those =
    let P = λ (p : Symbol × ℕ). IsRoot σ p.0 p.1 in
    (fits_by_symbols.norm σ (flattening_of ranks table f)).1 (norm_all P (flattening_of ranks table f) (flattened_each P ranks table f roots
    (All-weaker (Contains table) (λ (entry : Key × List Cube). All P (cubes_symbols entry.1)) (λ entry c.
    all_flat P cube_symbols entry.1 (All-weaker (CubeFits σ) (λ cube. AreRoots σ (cube_symbols cube)) (λ cube. (fits_by_symbols.cube σ cube).0) entry.1 (those entry.0 entry.1 c)))
    table (contained_all table))))
