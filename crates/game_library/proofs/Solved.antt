-- What an engine gives for a formula, by right entries, means the formula.
use Rattle.std.proofs.Common.{◌≡◌, ℕ, zero, suc, Bool, true, false, cond, List, [], ◌∷◌, ◌++◌, length, refl, sym, ap, subst, ◌∙◌, ◌⊎◌, inl, inr, arith}
use Rattle.std.specs.Prelude.{◌↔◌, All, Contains, Some}
use Rattle.std.proofs.lemmas.Bool.{false≢true}
use Rattle.std.proofs.lemmas.List.Elements.{All-weaker, All-contains, Contains-append_left, Contains-append_right}
use Rattle.tree_facts.proofs.Members.{contains_first}
use Rattle.lists.specs.Distinct.{IsDistinct}
use Rattle.tree_model.specs.declared.tree.Symbol.{Symbol}
use Rattle.tree_model.specs.Signatures.{Signature, IsRoot}
use Rattle.tree_model.specs.Valuations.{Valuation}
use Rattle.formula_ast.specs.declared.file.File.{File}
use Rattle.formula_ast.specs.declared.pred.Pred.{Pred}
use Rattle.formula_ast.specs.Forms.{Form, form_of}
use Rattle.formula_ast.specs.Forms as form
use Rattle.formula_ast.specs.WellFormed.{FormOver, IsPredOver, IsWellFormed}
use Rattle.formula_ast.proofs.WellFormed.{front_over}
use Rattle.flat_form.specs.declared.cube.Cube.{Cube}
use Rattle.flat_form.specs.Fitting.{CubeFits, NormFits}
use Rattle.flat_form.specs.Meanings.{SomeHolds, NormHolds}
use Rattle.flat_form.specs.Normals.{Norm}
use Rattle.flat_form.specs.Numbering.{CubesOver}
use Rattle.flat_form.specs.Reduced.{IsReduced}
use Rattle.flat_form.specs.Symbols.{cube_symbols, cubes_symbols, norm_symbols, AreRoots, CubesFit}
use Rattle.flat_form.proofs.Symbols.{fits_by_symbols}
use Rattle.flattening.specs.declared.solved.Key.{Key}
use Rattle.flattening.specs.declared.solved.Key.TheVariants.{Call, Win}
use Rattle.flattening.specs.Conditions.{count, HasFreeVariables, HasEntries, EntryMeans, EntriesMean, MeansFormula}
use Rattle.flattening.specs.Flattening.{flattening_of}
use Rattle.flattening.specs.Plain.{terms_of, plain_of}
use Rattle.flattening.specs.SymbolLaws.{StandsInTable}
use Rattle.flattening.specs.Symbols.{form_symbols}
use Rattle.flattening.specs.Tables.{HasKey, same_key, entry_at, cubes_of, cubes_at}
use Rattle.flattening.proofs.EachItem.{flat_all}
use Rattle.flattening.proofs.Fitting.{formula_fits}
use Rattle.flattening.proofs.Flattened.{flattened_symbols, flattened_fits}
use Rattle.flattening.proofs.FormSymbols.{symbols_fit}
use Rattle.flattening.proofs.Readings.{count_length}
use Rattle.flattening.proofs.Table.{same_is, same_itself}
use Rattle.game_library.specs.Entries.{arity, arity_or, StandsInBodies, IsRight, AreRight}
use Rattle.game_library.specs.Needs.{asked_keys}
use Rattle.game_library.specs.Solving.{IsOverFile, StandsIn, IsSolved}

-- what an engine promises of a list for a negated conjunction
pub record IsPromised (gives : ℕ → Norm → List Cube → Type 0) (free : ℕ) (normal : Norm) (cubes : List Cube) : Type 0 where
  pub over : CubesOver free cubes
  pub given : (σ : Signature) → NormFits σ normal → gives free normal cubes
  pub reduced : (σ : Signature) → NormFits σ normal → All IsReduced cubes
  pub distinct : IsDistinct cubes
  pub symbols : (σ : Signature) → NormFits σ normal → All (Contains (norm_symbols normal)) (cubes_symbols cubes)
  pub meaning : (σ : Signature) (e : Valuation σ) → NormFits σ normal → SomeHolds e cubes ↔ NormHolds free e normal

-- the cubes of a key that stands in a table stand there with it
found : (table : List (Key × List Cube)) (key : Key) → HasKey table key → Contains table (key, cubes_at table key)
found [] key (cubes, c) = absurd (omega (arith, c.1))
found (entry ∷ rest) key (cubes, c) = by (found rest key) (same_key key entry.0) refl c
  where
    later : Contains rest (key, cubes_at rest key) → Contains (entry ∷ rest) (key, cubes_at rest key)
    later (i, less, is) = (suc i, omega (arith, less), is)

    by : (HasKey rest key → Contains rest (key, cubes_at rest key)) → (b : Bool) → same_key key entry.0 ≡ b → Contains (entry ∷ rest) (key, cubes)
        → Contains (entry ∷ rest) (key, cubes_of (cond b (Some entry.1) (entry_at rest key)))
    by more true is c = (0, omega arith, ap (λ k. (k, entry.1)) (sym (same_is key entry.0 is)))
    by more false is (zero, less, e) = absurd (false≢true (sym is ∙ ap (same_key key) (ap (λ d. d.0) e) ∙ same_itself key))
    by more false is (suc i, less, e) = later (more (cubes, (i, omega (arith, less), e)))

module _ (gives : ℕ → Norm → List Cube → Type 0) (file : File) (formed : IsWellFormed file) where
  abbrev σ : Signature
  σ = file.signature

  abbrev Root : Symbol × ℕ → Type 0
  Root p = IsRoot σ p.0 p.1

  -- ---- symbols

  pub body_over : (pred : Pred) → Contains file.preds pred → FormOver σ σ (length pred.names) (form_of pred.body)
  body_over pred c =
      front_over σ pred.place (length pred.names) (form_of pred.body) (All-contains (λ pred. IsPredOver σ pred) file.preds pred formed.preds c).body.formula

  form_roots : (f : Form) → IsOverFile file f → AreRoots σ (form_symbols f)
  form_roots f (n, over) = symbols_fit σ f (formula_fits σ σ n f over).0

  stands_root : (p : Symbol × ℕ) → StandsInBodies file p → Root p
  stands_root p (pred, c, d) = All-contains Root (form_symbols (form_of pred.body)) p (form_roots (form_of pred.body) (length pred.names, body_over pred c)) d

  module _ (table : List (Key × List Cube)) (right : AreRight gives file table) where
    table_fits : (key : Key) (cubes : List Cube) → Contains table (key, cubes) → CubesFit σ cubes
    table_fits key cubes c =
        All-weaker (λ cube. All Root (cube_symbols cube)) (CubeFits σ) (λ cube. (fits_by_symbols.cube σ cube).1) cubes
        (flat_all Root cube_symbols cubes (All-weaker (StandsInBodies file) Root stands_root (cubes_symbols cubes) (right key cubes c).symbols))

    -- ---- entries that are asked for

    asked : (key : Key) → HasKey table key → IsRight gives file key (cubes_at table key)
    asked key has = right key (cubes_at table key) (found table key has)

    entry_over : (key : Key) (n : ℕ) → arity σ key ≡ n → HasKey table key → CubesOver n (cubes_at table key)
    entry_over key n is has = subst (λ (m : ℕ). CubesOver m (cubes_at table key)) is (asked key has).over

    entry_means : (key : Key) (n : ℕ) → arity σ key ≡ n → HasKey table key → EntryMeans σ file.preds key n (cubes_at table key)
    entry_means key n is has = subst (λ (m : ℕ). EntryMeans σ file.preds key m (cubes_at table key)) is (asked key has).means

    abbrev HasAll : List Key → Type 0
    HasAll keys = (key : Key) → Contains keys key → HasKey table key

    left : (xs ys : List Key) → HasAll (xs ++ ys) → HasAll xs
    left xs ys all key c = all key (Contains-append_left xs ys key c)

    other : (xs ys : List Key) → HasAll (xs ++ ys) → HasAll ys
    other xs ys all key c = all key (Contains-append_right xs ys key c)

    -- a formula has its entries where its keys stand in the table
    pub has_entries : (n : ℕ) (f : Form) → FormOver σ σ n f → HasAll (asked_keys f) → HasEntries table (plain_of f)
    has_entries n form.always over all = tt
    has_entries n form.never over all = tt
    has_entries n (form.equal t s) over all = tt
    has_entries n (form.differ t s) over all = tt
    has_entries n (form.finite t) over all = tt
    has_entries n (form.call p ts) over all =
        let has = all (Call p) (contains_first (Call p) []) in
        (has, entry_over (Call p) (count (terms_of ts)) (ap arity_or over.0 ∙ count_length ts) has)
    has_entries n (form.win p k t) over all =
        let has = all (Win p k) (contains_first (Win p k) []) in (has, entry_over (Win p k) 1 refl has)
    has_entries n (form.no f) over all = has_entries n f over all
    has_entries n (form.and f g) over all =
        (has_entries n f over.0 (left (asked_keys f) (asked_keys g) all), has_entries n g over.1 (other (asked_keys f) (asked_keys g) all))
    has_entries n (form.or f g) over all =
        (has_entries n f over.0 (left (asked_keys f) (asked_keys g) all), has_entries n g over.1 (other (asked_keys f) (asked_keys g) all))
    has_entries n (form.imp f g) over all =
        (has_entries n f over.0 (left (asked_keys f) (asked_keys g) all), has_entries n g over.1 (other (asked_keys f) (asked_keys g) all))
    has_entries n (form.iff f g) over all =
        let one = has_entries n f over.0 (left (asked_keys f) (asked_keys g) all) in
        let two = has_entries n g over.1 (other (asked_keys f) (asked_keys g) all) in ((one, two), (two, one))
    has_entries n (form.exists x f) over all = has_entries n f over.1 all
    has_entries n (form.forall x f) over all = has_entries n f over.1 all

    entries_mean : (n : ℕ) (f : Form) → FormOver σ σ n f → HasEntries table (plain_of f) → EntriesMean σ file.preds table (plain_of f)
    entries_mean n form.always over has = tt
    entries_mean n form.never over has = tt
    entries_mean n (form.equal t s) over has = tt
    entries_mean n (form.differ t s) over has = tt
    entries_mean n (form.finite t) over has = tt
    entries_mean n (form.call p ts) over has = entry_means (Call p) (count (terms_of ts)) (ap arity_or over.0 ∙ count_length ts) has.0
    entries_mean n (form.win p k t) over has = entry_means (Win p k) 1 refl has.0
    entries_mean n (form.no f) over has = entries_mean n f over has
    entries_mean n (form.and f g) over has = (entries_mean n f over.0 has.0, entries_mean n g over.1 has.1)
    entries_mean n (form.or f g) over has = (entries_mean n f over.0 has.0, entries_mean n g over.1 has.1)
    entries_mean n (form.imp f g) over has = (entries_mean n f over.0 has.0, entries_mean n g over.1 has.1)
    entries_mean n (form.iff f g) over has =
        let one = entries_mean n f over.0 has.0.0 in let two = entries_mean n g over.1 has.0.1 in ((one, two), (two, one))
    entries_mean n (form.exists x f) over has = entries_mean n f over.1 has
    entries_mean n (form.forall x f) over has = entries_mean n f over.1 has

    module _ (ranks : List ℕ) (f : Form) (over : IsOverFile file f) (has : HasEntries table (plain_of f)) where
      abbrev flat : Norm
      flat = flattening_of ranks table f

      flat_fits : NormFits σ flat
      flat_fits = flattened_fits σ ranks table f (form_roots f over) table_fits

      -- what stands in the flattened formula stands in it, or in bodies
      stands : (p : Symbol × ℕ) → Contains (norm_symbols flat) p → StandsIn file f p
      stands p c = by (All-contains (λ p. Contains (form_symbols f) p ⊎ StandsInTable table p) (norm_symbols flat) p (flattened_symbols ranks table f) c)
        where
          by : Contains (form_symbols f) p ⊎ StandsInTable table p → StandsIn file f p
          by (inl d) = inl d
          by (inr (key, entry, d, e)) = inr (All-contains (StandsInBodies file) (cubes_symbols entry) p (right key entry d).symbols e)

      -- what an engine gives for the flattened formula solves the formula
      pub is_solved : (cubes : List Cube) → MeansFormula ranks table f flat → IsPromised gives (length ranks) flat cubes → IsSolved gives file ranks f cubes
      is_solved cubes means promised = record {
        given = record { table = table; entries = λ key entry c. (right key entry c).entry; has = has; given = promised.given σ flat_fits };
        over = promised.over;
        reduced = promised.reduced σ flat_fits;
        distinct = promised.distinct;
        symbols = All-weaker (Contains (norm_symbols flat)) (StandsIn file f) stands (cubes_symbols cubes) (promised.symbols σ flat_fits);
        meaning = λ d e gives_ranks.
            let one = promised.meaning σ e flat_fits in
            let two = means.exactly σ file.preds d e (formula_fits σ σ over.0 f over.1).0 (entries_mean over.0 f over.1 has) gives_ranks in
            (λ h. two.0 (one.0 h), λ h. one.1 (two.1 h));
      }

      -- the same where the negated conjunction is known to be the flattened formula
      pub solved_as : (normal : Norm) (cubes : List Cube) → normal ≡ flat → HasFreeVariables ranks f
          → (HasFreeVariables ranks f → HasEntries table (plain_of f) → MeansFormula ranks table f normal)
          → IsPromised gives (length ranks) normal cubes → IsSolved gives file ranks f cubes
      solved_as normal cubes is free means promised =
          is_solved cubes (subst (λ (x : Norm). MeansFormula ranks table f x) is (means free has)) (subst (λ (x : Norm). IsPromised gives (length ranks) x cubes) is promised)
