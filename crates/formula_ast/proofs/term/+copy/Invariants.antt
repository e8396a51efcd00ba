use Rattle.std.proofs.Common.{◌≡◌, take}
use Rattle.formula_ast.proofs.term.+copy.Given as goal

abbrev pub invariant-Terms::copy-loop-item : goal.invariant-Terms::copy-loop-item
invariant-Terms::copy-loop-item l = l.items ≡ take l.item-index l.self.items
