-- A solution fits the file's signature, and says of its indexes that they are used.
use Rattle.std.proofs.Common.{inl, inr, ℕ, List, [], ◌∷◌, length, take, All, Contains, sym, subst, arith}
use Rattle.std.specs.Prelude.{flat_map}
use Rattle.std.proofs.lemmas.List.Elements.{All-contains, Contains-append_left, Contains-append_right}
use Rattle.tree_model.specs.declared.tree.Symbol.{Symbol}
use Rattle.tree_model.specs.declared.tree.Symbol.TheVariants.{Further}
use Rattle.tree_model.specs.Signatures.{Signature, IsRoot}
use Rattle.formula_ast.specs.declared.file.File.{File}
use Rattle.formula_ast.specs.declared.formula.Formula.{Formula}
use Rattle.formula_ast.specs.declared.pred.Pred.{Pred}
use Rattle.formula_ast.specs.Forms.{Form, form_of}
use Rattle.formula_ast.specs.Occurrences.{index_occurrences}
use Rattle.formula_ast.specs.WellFormed.{FormOver, IsPredOver, IsWellFormed}
use Rattle.formula_ast.proofs.Standing.{contained, from_contained}
use Rattle.formula_ast.proofs.Standing.{first_has}
use Rattle.flat_form.specs.declared.cube.Cube.{Cube}
use Rattle.flat_form.specs.Fitting.{CubeFits}
use Rattle.flat_form.specs.Normals.{Norm}
use Rattle.flat_form.specs.Symbols.{cube_symbols, cubes_symbols, CubesFit}
use Rattle.tree_facts.proofs.Members.{contains_cases}
use Rattle.flat_form.proofs.Symbols.{each_of, fits_by_symbols}
use Rattle.flattening.specs.Symbols.{form_symbols}
use Rattle.flattening.proofs.Fitting.{formula_fits}
use Rattle.flattening.proofs.FormSymbols.{symbols_fit}
use Rattle.game_library.specs.Solving.{StandsIn}
use Rattle.witness_trees.specs.Values.{IndexesAreUsed}
use Rattle.decision.specs.Decided.{IsSatisfied, IsSolution}
use Rattle.decision.specs.Naming.{indexes_of, used_indexes}
use Rattle.decision.proofs.Indexes.{indexes_listed}
use Rattle.decision.proofs.Lists.{IsListOf}

-- ---- symbols

-- the symbols of a formula over a signature are root symbols of it
root_of_form : (σ callable : Signature) (n : ℕ) (f : Form) → FormOver σ callable n f → (one : Symbol × ℕ) → Contains (form_symbols f) one → IsRoot σ one.0 one.1
root_of_form σ callable n f over one has =
    All-contains (λ (p : Symbol × ℕ). IsRoot σ p.0 p.1) (form_symbols f) one (symbols_fit σ f (formula_fits σ callable n f over).0) has

module _ (file : File) (formed : IsWellFormed file) where
  pred_over : (pred : Pred) → Contains file.preds pred → IsPredOver file.signature pred
  pred_over pred has = All-contains (λ (p : Pred). IsPredOver file.signature p) file.preds pred formed.preds has

  -- and so are those of the bodies of the file's predicates
  root : (n : ℕ) (f : Form) → FormOver file.signature file.signature n f → (one : Symbol × ℕ) → StandsIn file f one → IsRoot file.signature one.0 one.1
  root n f over one (inl has) = root_of_form file.signature file.signature n f over one has
  root n f over one (inr (pred, is, has)) =
      let body = (pred_over pred is).body in
      root_of_form file.signature (take pred.place file.signature) (length pred.names) (form_of pred.body) body.formula one has

-- the symbols of one of the cubes are symbols of all
pub of_cube : (cubes : List Cube) (cube : Cube) (one : Symbol × ℕ) → Contains cubes cube → Contains (cube_symbols cube) one → Contains (cubes_symbols cubes) one
of_cube [] cube one (k, within, is) has = absurd (omega (arith, within))
of_cube (first ∷ rest) cube one stands has = elim (contains_cases first cube rest stands) [
  | inl same ↦ Contains-append_left (cube_symbols first) (cubes_symbols rest) one (subst (λ (c : Cube). Contains (cube_symbols c) one) (sym same) has)
  | inr later ↦ Contains-append_right (cube_symbols first) (cubes_symbols rest) one (of_cube rest cube one later has)
]

module _ (file : File) (formed : IsWellFormed file) (n : ℕ) (f : Form) (over : FormOver file.signature file.signature n f) (cubes : List Cube)
    (symbols : All (StandsIn file f) (cubes_symbols cubes)) where
  pub solution_fits : CubesFit file.signature cubes
  solution_fits = each_of (CubeFits file.signature) cubes (λ cube stands.
      (fits_by_symbols.cube file.signature cube).1 (each_of (λ (one : Symbol × ℕ). IsRoot file.signature one.0 one.1) (cube_symbols cube) (λ one has.
      root file formed n f over one (All-contains (StandsIn file f) (cubes_symbols cubes) one symbols (of_cube cubes cube one stands has)))))

-- ---- indexes

listed : (f : Formula) (k n : ℕ) → Contains (form_symbols (form_of f)) (Further k, n) → Contains (indexes_of f) k
listed f k n has =
    contained k (indexes_of f)
    (first_has k (index_occurrences (form_of f)) (from_contained k (index_occurrences (form_of f)) (indexes_listed (form_of f) k n has)))

among_preds : (preds : List Pred) (pred : Pred) (k : ℕ) → Contains preds pred → Contains (indexes_of pred.body) k → Contains (flat_map (λ (p : Pred). indexes_of p.body) preds) k
among_preds [] pred k (i, within, is) has = absurd (omega (arith, within))
among_preds (first ∷ rest) pred k stands has = elim (contains_cases first pred rest stands) [
  | inl same ↦ Contains-append_left (indexes_of first.body) (flat_map (λ (p : Pred). indexes_of p.body) rest) k (subst (λ (p : Pred). Contains (indexes_of p.body) k) (sym same) has)
  | inr later ↦ Contains-append_right (indexes_of first.body) (flat_map (λ (p : Pred). indexes_of p.body) rest) k (among_preds rest pred k later has)
]

-- the index of each further symbol that may stand in a solution is used
index_used : (file : File) (f : Formula) (k n : ℕ) → StandsIn file (form_of f) (Further k, n) → Contains (used_indexes file f) k
index_used file f k n (inl has) = Contains-append_left (indexes_of f) (flat_map (λ (p : Pred). indexes_of p.body) file.preds) k (listed f k n has)
index_used file f k n (inr (pred, is, has)) =
    Contains-append_right (indexes_of f) (flat_map (λ (p : Pred). indexes_of p.body) file.preds) k (among_preds file.preds pred k is (listed pred.body k n has))

pub indexes_are_used : (file : File) (f : Formula) (cubes : List Cube) → All (StandsIn file (form_of f)) (cubes_symbols cubes)
    → All (λ cube. IndexesAreUsed cube (used_indexes file f)) cubes
indexes_are_used file f cubes symbols = each_of (λ cube. IndexesAreUsed cube (used_indexes file f)) cubes (λ cube stands k n has.
    index_used file f k n (All-contains (StandsIn file (form_of f)) (cubes_symbols cubes) (Further k, n) symbols (of_cube cubes cube (Further k, n) stands has)))

-- ---- a solution is a list of what it solves

module _ (gives : ℕ → Norm → List Cube → Type 0) (file : File) (formed : IsWellFormed file) where
  pub list_of : (ranks : List ℕ) (n : ℕ) (f : Form) → FormOver file.signature file.signature n f → (cubes : List Cube) → IsSolution gives file ranks f cubes
      → IsListOf ranks (IsSatisfied file f) cubes
  list_of ranks n f over cubes is = record {
    over = is.over;
    reduced = is.reduced;
    fits = solution_fits file formed n f over cubes is.symbols;
    means = is.solves;
  }
