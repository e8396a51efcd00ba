-- What is answered of a statement.
use Rattle.std.specs.Prelude.{ℕ, ◌<◌, ◌↔◌, List, length, All, slice_index}
use Rattle.lists.specs.Distinct.{IsDistinct}
use Rattle.tree_model.specs.Graphs.{Forest, tree_of}
use Rattle.tree_model.specs.Signatures.{Signature, Fits}
use Rattle.tree_model.specs.Trees.{Same}
use Rattle.tree_model.specs.Valuations.{Valuation}
use Rattle.formula_ast.specs.declared.file.File.{File}
use Rattle.formula_ast.specs.declared.statement.Statement.{Statement}
use Rattle.formula_ast.specs.Forms.{Form, form_of, no}
use Rattle.formula_ast.specs.Satisfaction.{Holds, meaning_of}
use Rattle.formula_ast.specs.WellFormed.{IsStatementOver}
use Rattle.flat_form.specs.declared.cube.Cube.{Cube}
use Rattle.flat_form.specs.Normals.{Norm}
use Rattle.flat_form.specs.Numbering.{CubesOver}
use Rattle.flat_form.specs.Reduced.{IsReduced}
use Rattle.flat_form.specs.Symbols.{cubes_symbols}
use Rattle.flattening.specs.Conditions.{GivesRanks}
use Rattle.flattening.specs.Symbols.{form_symbols}
use Rattle.game_library.specs.Entries.{IsGivenFor}
use Rattle.game_library.specs.Solving.{StandsIn, SolvesForm}
use Rattle.decision.specs.declared.answer.Answer.{Answer}
use Rattle.decision.specs.declared.answer.Answer.TheVariants.{«True», «False», Open}
use Rattle.decision.specs.Naming.{ranks_of, free_names, used_indexes}
use Rattle.decision.specs.Shown.{ShowsCubes, IsDeclared}

-- the formula is satisfied, over the signature and the predicates of the file
abbrev pub IsSatisfied : (file : File) → Form → Valuation file.signature → Type 0
IsSatisfied file f d = Holds file.signature (meaning_of file.signature file.preds) f d

-- d gives the variable `ranks[i]` the tree of root i
abbrev pub GivesTrees : {σ : Signature} → List ℕ → Forest → Valuation σ → Type 0
GivesTrees ranks a d = (i : ℕ) → i < length ranks → Same (d (slice_index ranks i)).graph (tree_of a i)

module _ (gives : ℕ → Norm → List Cube → Type 0) (file : File) where
  -- The cubes are a list that the engine gives for the formula, with the variable `ranks[i]` as number i: they are distinct
  -- and reduced, and one of them holds exactly where the formula is satisfied.
  pub record IsSolution (ranks : List ℕ) (f : Form) (cubes : List Cube) : Type 0 where
    pub given : IsGivenFor gives file ranks f cubes
    pub over : CubesOver (length ranks) cubes
    pub reduced : All IsReduced cubes
    pub distinct : IsDistinct cubes
    pub symbols : All (StandsIn file f) (cubes_symbols cubes)
    pub solves : SolvesForm file ranks f cubes

  -- The statement is an explicit solved form of the formula f, over free variables with these names, and the assignment
  -- gives them trees that satisfy f.
  pub record IsSide (names : List (List ℕ)) (ranks used : List ℕ) (f : Form) (solved : Statement) (a : Forest) : Type 0 where
    pub cubes : List Cube
    pub solution : IsSolution ranks f cubes
    pub shown : ShowsCubes names used cubes solved a
    pub formed : IsStatementOver file.signature solved
    pub solves : (d e : Valuation file.signature) → GivesRanks ranks d e → IsSatisfied file (form_of solved.body) e ↔ IsSatisfied file f d
    pub fits : Fits file.signature a.nodes
    -- every symbol of the statement, and each declared one of the trees, stands in f or in the body of a predicate
    pub symbols : All (StandsIn file f) (form_symbols (form_of solved.body))
    pub declared : All (IsDeclared (StandsIn file f)) a.nodes
    pub satisfies : (d : Valuation file.signature) → GivesTrees ranks a d → IsSatisfied file f d

  -- an open answer of the statement: one side for its body, and one for the negation
  pub record IsOpen (s : Statement) (formula complement : Statement) (holds fails : Forest) : Type 0 where
    pub some_name : 0 < length (free_names s)
    pub body : IsSide (free_names s) (ranks_of s.body) (used_indexes file s.body) (form_of s.body) formula holds
    pub negation : IsSide (free_names s) (ranks_of s.body) (used_indexes file s.body) (no (form_of s.body)) complement fails

  -- an answer that is open is an open answer of the statement
  abbrev pub OpensRightly : Statement → Answer → Type 0
  OpensRightly s «True» = Unit {0}
  OpensRightly s «False» = Unit {0}
  OpensRightly s (Open formula complement holds fails) = IsOpen s formula complement holds fails
