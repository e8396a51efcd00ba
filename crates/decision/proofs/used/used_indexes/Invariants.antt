use Rattle.std.proofs.Common.{◌≡◌, ◌++◌, take, flat_map}
use Rattle.formula_ast.specs.declared.pred.Pred.{Pred}
use Rattle.decision.specs.Naming.{indexes_of}
use Rattle.decision.proofs.used.used_indexes.Given as goal

abbrev pub invariant-loop-pred : goal.invariant-loop-pred
invariant-loop-pred l = l.used.items ≡ indexes_of l.f ++ flat_map (λ (pred : Pred). indexes_of pred.body) (take l.pred-index l.file.preds)
