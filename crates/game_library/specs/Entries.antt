-- The entries of a table of solved predicates and wins.
use Rattle.std.specs.Prelude.{ℕ, suc, List, [], ◌∷◌, length, All, Contains, Option, Some, None}
use Rattle.std.specs.List.{range_with_len}
use Rattle.lists.specs.Distinct.{IsDistinct}
use Rattle.tree_model.specs.declared.kind.Kind.{Kind}
use Rattle.tree_model.specs.declared.tree.Symbol.{Symbol}
use Rattle.tree_model.specs.Signatures.{Signature, declared_at}
use Rattle.formula_ast.specs.declared.file.File.{File}
use Rattle.formula_ast.specs.declared.pred.Pred.{Pred}
use Rattle.formula_ast.specs.Forms.{Form, form_of}
use Rattle.flat_form.specs.declared.cube.Cube.{Cube}
use Rattle.flat_form.specs.Normals.{Norm}
use Rattle.flat_form.specs.Numbering.{CubesOver}
use Rattle.flat_form.specs.Reduced.{IsReduced}
use Rattle.flat_form.specs.Symbols.{cubes_symbols}
use Rattle.flattening.specs.declared.solved.Key.{Key}
use Rattle.flattening.specs.declared.solved.Key.TheVariants.{Call, Win}
use Rattle.flattening.specs.Conditions.{HasEntries, EntryMeans}
use Rattle.flattening.specs.Flattening.{flattening_of}
use Rattle.flattening.specs.Plain.{plain_of}
use Rattle.flattening.specs.Symbols.{form_symbols}
use Rattle.form_facts.specs.Winning.{winning_form}

-- the number of arguments that is declared, if anything is
abbrev pub arity_or : Option (Kind × ℕ) → ℕ
arity_or None = 0
arity_or (Some entry) = entry.1

-- how many arguments a key has
abbrev pub arity : Signature → Key → ℕ
arity σ (Call p) = arity_or (declared_at σ p)
arity σ (Win p k) = 1

-- the symbol stands, with so many arguments, in the body of some predicate of the file
abbrev pub StandsInBodies : File → Symbol × ℕ → Type 0
StandsInBodies file symbol = (pred : Pred) × Contains file.preds pred × Contains (form_symbols (form_of pred.body)) symbol

module _ (gives : ℕ → Norm → List Cube → Type 0) (file : File) where
  -- The cubes are an entry of the key: what an engine gives for the body of the predicate, or for the formula of the win,
  -- by entries of the keys that these ask for. Within no moves nobody wins.
  pub data IsEntry : Key → List Cube → Type 0 where
    lost : (p : ℕ) → IsEntry (Win p 0) []
    called : {cubes : List Cube} (pred : Pred) (table : List (Key × List Cube)) → Contains file.preds pred
        → ((key : Key) (entry : List Cube) → Contains table (key, entry) → IsEntry key entry)
        → HasEntries table (plain_of (form_of pred.body))
        → gives pred.params (flattening_of (range_with_len 0 pred.params) table (form_of pred.body)) cubes → IsEntry (Call pred.place) cubes
    next : {p k : ℕ} {cubes : List Cube} (table : List (Key × List Cube))
        → ((key : Key) (entry : List Cube) → Contains table (key, entry) → IsEntry key entry)
        → HasEntries table (plain_of (winning_form p k))
        → gives 1 (flattening_of (0 ∷ []) table (winning_form p k)) cubes → IsEntry (Win p (suc k)) cubes

  -- the cubes are an entry of the key, and mean it
  pub record IsRight (key : Key) (cubes : List Cube) : Type 0 where
    pub entry : IsEntry key cubes
    pub over : CubesOver (arity file.signature key) cubes
    pub reduced : All IsReduced cubes
    pub distinct : IsDistinct cubes
    pub symbols : All (StandsInBodies file) (cubes_symbols cubes)
    pub means : EntryMeans file.signature file.preds key (arity file.signature key) cubes

  -- each entry of the table is right
  abbrev pub AreRight : List (Key × List Cube) → Type 0
  AreRight table = (key : Key) (cubes : List Cube) → Contains table (key, cubes) → IsRight key cubes

  -- the cubes are what an engine gives for a formula, with these free variables, by a table of entries
  pub record IsGivenFor (ranks : List ℕ) (f : Form) (cubes : List Cube) : Type 0 where
    pub table : List (Key × List Cube)
    pub entries : (key : Key) (entry : List Cube) → Contains table (key, entry) → IsEntry key entry
    pub has : HasEntries table (plain_of f)
    pub given : gives (length ranks) (flattening_of ranks table f) cubes
