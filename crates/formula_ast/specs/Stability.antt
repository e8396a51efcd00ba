-- Every meaning is stable: what is not ruled out holds, so each reads as in classical logic.
use Rattle.std.specs.Prelude.{ℕ, List}
use Rattle.classical.specs.Classical.{IsStable}
use Rattle.tree_model.specs.Signatures.{Signature, TreeOver}
use Rattle.tree_model.specs.Valuations.{Valuation}
use Rattle.formula_ast.specs.declared.term.Term.{Term}
use Rattle.formula_ast.specs.declared.pred.Pred.{Pred}
use Rattle.formula_ast.specs.Forms.{Form}
use Rattle.formula_ast.specs.Satisfaction.{Holds, Wins, ReadsAs, meaning_of}

-- satisfaction of every formula, over any predicates
abbrev pub SatisfactionIsStable : Type 0
SatisfactionIsStable =
    (σ : Signature) (preds : List Pred) (f : Form) (e : Valuation σ) → IsStable (Holds σ (meaning_of σ preds) f e)

-- winning by the moves of any predicate
abbrev pub WinningIsStable : Type 0
WinningIsStable =
    (σ : Signature) (preds : List Pred) (p k : ℕ) (t : TreeOver σ) → IsStable (Wins σ (meaning_of σ preds p) k t)

-- what the predicates mean
abbrev pub PredicatesAreStable : Type 0
PredicatesAreStable = (σ : Signature) (preds : List Pred) (p : ℕ) (trees : List (TreeOver σ)) → IsStable (meaning_of σ preds p trees)

-- that a tree reads as a term does
abbrev pub ReadingIsStable : Type 0
ReadingIsStable = (σ : Signature) (e : Valuation σ) (t : Term) (tree : TreeOver σ) → IsStable (ReadsAs σ e t tree)
