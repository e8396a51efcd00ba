-- A list of cubes as it is shown: an explicit formula, and values under which its first cube holds.
use Rattle.std.specs.Prelude.{◌≡◌, ◌↔◌, ℕ, List, [], length, All, slice_get, Some}
use Rattle.lists.specs.Distinct.{IsDistinct}
use Rattle.tree_model.specs.declared.tree.Node.{Node}
use Rattle.tree_model.specs.declared.tree.Symbol.{Symbol}
use Rattle.tree_model.specs.declared.tree.Symbol.TheVariants.{Named}
use Rattle.tree_model.specs.Graphs.{Forest}
use Rattle.tree_model.specs.Signatures.{Signature, Fits}
use Rattle.tree_model.specs.Valuations.{Valuation}
use Rattle.formula_ast.specs.declared.pred.Pred.{Pred}
use Rattle.formula_ast.specs.declared.statement.Statement.{Statement}
use Rattle.formula_ast.specs.declared.token.TokenKind.TheVariants as word
use Rattle.formula_ast.specs.Forms.{form_of}
use Rattle.formula_ast.specs.Satisfaction.{Holds, meaning_of}
use Rattle.formula_ast.specs.WellFormed.{AreWords, AreDistinct, IsStatementOver}
use Rattle.flat_form.specs.declared.cube.Cube.{Cube}
use Rattle.flat_form.specs.Meanings.{SomeHolds}
use Rattle.flat_form.specs.Numbering.{CubesOver}
use Rattle.flat_form.specs.Reduced.{IsReduced}
use Rattle.flat_form.specs.Symbols.{CubesFit}
use Rattle.explicit_form.specs.Explicit.{explicit_of, explicit_names}
use Rattle.explicit_form.specs.Shape.{IsExplicit, IsNotEmpty}
use Rattle.decision.specs.declared.answer.Answer.{Answer}
use Rattle.decision.specs.declared.answer.Answer.TheVariants.{«True», «False», Open}
use Rattle.witness_trees.specs.Fresh.{IsFreshAssignment}
use Rattle.witness_trees.specs.Values.{HasTreesOf, IndexesAreUsed}

-- where the symbol of the node is a declared one, P holds of it and its number of arguments
abbrev pub IsDeclared : (Symbol × ℕ → Type 0) → Node → Type 0
IsDeclared P node = (i : ℕ) → node.symbol ≡ Named i → P (Named i, length node.children)

-- what the cubes have to be so that they can be shown, over free variables with these names
pub record CanBeShown (names : List (List ℕ)) (used : List ℕ) (cubes : List Cube) : Type 0 where
  pub some : ¬ (cubes ≡ [])
  pub over : CubesOver (length names) cubes
  pub reduced : All IsReduced cubes
  pub distinct : IsDistinct cubes
  pub not_empty : All IsNotEmpty cubes
  pub words : AreWords word.Variable names
  pub apart : AreDistinct names
  pub indexes : All (λ cube. IndexesAreUsed cube used) cubes

-- the statement is the explicit formula of the cubes, and the assignment the fresh one of the first
pub record ShowsCubes (names : List (List ℕ)) (used : List ℕ) (cubes : List Cube) (solved : Statement) (a : Forest) : Type 0 where
  pub names_are : solved.names ≡ explicit_names names cubes
  pub body_is : form_of solved.body ≡ explicit_of cubes
  pub explicit : IsExplicit (length names) (form_of solved.body)
  pub formed : (σ : Signature) → CubesFit σ cubes → IsStatementOver σ solved
  pub means : (σ : Signature) (preds : List Pred) (e : Valuation σ) → Holds σ (meaning_of σ preds) (form_of solved.body) e ↔ SomeHolds e cubes
  pub first : Cube
  pub is_first : slice_get cubes 0 ≡ Some first
  pub fresh : IsFreshAssignment first used a
  pub roots : length a.roots ≡ length names
  pub fits : (σ : Signature) → CubesFit σ cubes → Fits σ a.nodes
  pub holds : (σ : Signature) (e : Valuation σ) → CubesFit σ cubes → HasTreesOf a e → SomeHolds e cubes

-- an open answer that shows both lists
abbrev pub ShowsBoth : List (List ℕ) → List ℕ → List Cube → List Cube → Answer → Type 0
ShowsBoth names used cubes others «True» = ⊥
ShowsBoth names used cubes others «False» = ⊥
ShowsBoth names used cubes others (Open formula complement holds fails) = ShowsCubes names used cubes formula holds × ShowsCubes names used others complement fails
