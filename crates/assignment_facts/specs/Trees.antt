-- What the formula of an assignment says.
use Rattle.std.specs.Prelude.{ℕ, ◌+◌, ◌<◌, ◌↔◌, List, length}
use Rattle.tree_model.specs.Graphs.{Forest, AreInRange, tree_of}
use Rattle.tree_model.specs.Signatures.{Signature, Fits}
use Rattle.tree_model.specs.Trees.{Same}
use Rattle.tree_model.specs.Valuations.{Valuation}
use Rattle.formula_ast.specs.declared.pred.Pred.{Pred}
use Rattle.formula_ast.specs.Satisfaction.{Holds, meaning_of}
use Rattle.formula_printer.specs.Assignments.{assignment_form}

-- each variable of the assignment, which come behind the nodes, has the tree of its root
abbrev pub HasTrees : {σ : Signature} → Forest → Valuation σ → Type 0
HasTrees a e = (i : ℕ) → i < length a.roots → Same (e (length a.nodes + i)).graph (tree_of a i)

-- the formula of an assignment holds exactly under its trees, so under one assignment alone, up to sameness
abbrev pub AssignmentsSayTheirTrees : Type 0
AssignmentsSayTheirTrees = (σ : Signature) (preds : List Pred) (a : Forest) (e : Valuation σ) → AreInRange a.nodes a.roots → Fits σ a.nodes
    → Holds σ (meaning_of σ preds) (assignment_form a) e ↔ HasTrees a e
