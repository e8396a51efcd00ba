use Rattle.tree_model.specs.Signatures.{Signature}
use Rattle.formula_ast.specs.WellFormed.{TermOver}
use Rattle.game_library.proofs.tests.games.heap.Given as goal

abbrev pub invariant-loop : goal.invariant-loop
invariant-loop l = (σ : Signature) → TermOver σ 2 l.t
