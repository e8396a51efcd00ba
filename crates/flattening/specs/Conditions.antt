-- What a formula and a table must be like for the flattening to be well numbered and to mean the formula.
use Rattle.std.specs.Prelude.{◌≡◌, ℕ, ◌+◌, ◌<◌, ◌≤◌, ◌↔◌, List, [], ◌∷◌, length, slice_index, Contains}
use Rattle.tree_model.specs.Signatures.{Signature, TreeOver, IsRoot, Alike}
use Rattle.tree_model.specs.Valuations.{Valuation}
use Rattle.formula_ast.specs.declared.pred.Pred.{Pred}
use Rattle.formula_ast.specs.Forms.{Form}
use Rattle.formula_ast.specs.WellFormed.{IsFreeIn}
use Rattle.formula_ast.specs.Satisfaction.{Holds, Wins, parameters, meaning_of}
use Rattle.flat_form.specs.declared.cube.Cube.{Cube}
use Rattle.flat_form.specs.Meanings.{SomeHolds, NormHolds}
use Rattle.flat_form.specs.Normals.{Norm}
use Rattle.flat_form.specs.Numbering.{CubesOver}
use Rattle.flattening.specs.declared.solved.Key.{Key}
use Rattle.flattening.specs.declared.solved.Key.TheVariants.{Call, Win}
use Rattle.flattening.specs.Plain.{PlainTerm, PlainTerms, variable, apply, no_terms, one_more, Plain, always, equal, finite, ask, no, and, exists, plain_of}
use Rattle.flattening.specs.Tables.{HasKey, cubes_at}

-- how many terms there are
abbrev pub count : PlainTerms → ℕ
count no_terms = 0
count (one_more t ts) = 1 + count ts

-- every free variable of the formula is in the list
abbrev pub HasFreeVariables : List ℕ → Form → Type 0
HasFreeVariables ranks f = (x : ℕ) → IsFreeIn x f → Contains ranks x

-- d gives the variable `ranks[i]` the tree that e gives the number i
abbrev pub GivesRanks : {σ : Signature} → List ℕ → Valuation σ → Valuation σ → Type 0
GivesRanks ranks d e = (i : ℕ) → i < length ranks → Alike (d (slice_index ranks i)) (e i)

module _ (σ : Signature) where
  abbrev mutual
    -- each symbol of the term is a root symbol over the signature
    pub TermFits : PlainTerm → Type 0
    TermFits (variable v) = Unit {0}
    TermFits (apply symbol ts) = IsRoot σ symbol (count ts) × TermsFit ts

    pub TermsFit : PlainTerms → Type 0
    TermsFit no_terms = Unit {0}
    TermsFit (one_more t ts) = TermFits t × TermsFit ts

  -- each symbol of the formula is
  abbrev pub FormulaFits : Plain → Type 0
  FormulaFits always = Unit {0}
  FormulaFits (equal t s) = TermFits t × TermFits s
  FormulaFits (finite t) = TermFits t
  FormulaFits (ask key ts) = TermsFit ts
  FormulaFits (no f) = FormulaFits f
  FormulaFits (and f g) = FormulaFits f × FormulaFits g
  FormulaFits (exists x f) = FormulaFits f

abbrev mutual
  -- each symbol of the term has at most eight arguments
  pub TermIsNarrow : PlainTerm → Type 0
  TermIsNarrow (variable v) = Unit {0}
  TermIsNarrow (apply symbol ts) = (count ts ≤ 8) × TermsAreNarrow ts

  pub TermsAreNarrow : PlainTerms → Type 0
  TermsAreNarrow no_terms = Unit {0}
  TermsAreNarrow (one_more t ts) = TermIsNarrow t × TermsAreNarrow ts

-- each symbol of the formula has
abbrev pub IsNarrow : Plain → Type 0
IsNarrow always = Unit {0}
IsNarrow (equal t s) = TermIsNarrow t × TermIsNarrow s
IsNarrow (finite t) = TermIsNarrow t
IsNarrow (ask key ts) = TermsAreNarrow ts
IsNarrow (no f) = IsNarrow f
IsNarrow (and f g) = IsNarrow f × IsNarrow g
IsNarrow (exists x f) = IsNarrow f

-- the table has the key of every call and win of the formula, with cubes over as many free variables as there are
-- arguments
abbrev pub HasEntries : List (Key × List Cube) → Plain → Type 0
HasEntries table always = Unit {0}
HasEntries table (equal t s) = Unit {0}
HasEntries table (finite t) = Unit {0}
HasEntries table (ask key ts) = HasKey table key × CubesOver (count ts) (cubes_at table key)
HasEntries table (no f) = HasEntries table f
HasEntries table (and f g) = HasEntries table f × HasEntries table g
HasEntries table (exists x f) = HasEntries table f

module _ (σ : Signature) (preds : List Pred) where
  -- the trees at which what a key stands for holds
  abbrev pub KeyHolds : Key → List (TreeOver σ) → Type 0
  KeyHolds (Call p) trees = meaning_of σ preds p trees
  KeyHolds (Win p k) (t ∷ []) = Wins σ (meaning_of σ preds p) k t
  KeyHolds (Win p k) _ = ⊥

  -- the cubes of an entry mean its predicate or its win: with n trees as values of their free variables they hold
  -- exactly where it does
  abbrev pub EntryMeans : Key → ℕ → List Cube → Type 0
  EntryMeans key n cubes = (trees : List (TreeOver σ)) → length trees ≡ n → SomeHolds (parameters σ trees) cubes ↔ KeyHolds key trees

  -- the entry of each call and win of the formula does
  abbrev pub EntriesMean : List (Key × List Cube) → Plain → Type 0
  EntriesMean table always = Unit {0}
  EntriesMean table (equal t s) = Unit {0}
  EntriesMean table (finite t) = Unit {0}
  EntriesMean table (ask key ts) = EntryMeans key (count ts) (cubes_at table key)
  EntriesMean table (no f) = EntriesMean table f
  EntriesMean table (and f g) = EntriesMean table f × EntriesMean table g
  EntriesMean table (exists x f) = EntriesMean table f

-- The negated conjunction means the formula, over every signature that the formula's symbols fit: where each entry means
-- its predicate or its win, it holds exactly where the formula does, with the variable `ranks[i]` as number i.
pub record MeansFormula (ranks : List ℕ) (table : List (Key × List Cube)) (f : Form) (normal : Norm) : Type 0 where
  pub exactly : (σ : Signature) (preds : List Pred) (d e : Valuation σ)
      → FormulaFits σ (plain_of f) → EntriesMean σ preds table (plain_of f) → GivesRanks ranks d e
      → NormHolds (length ranks) e normal ↔ Holds σ (meaning_of σ preds) f d
