use Rattle.std.proofs.Common.{[]}
use Rattle.formula_ast.proofs.index.indexes.Goals as goal

pub returns : goal.returns
returns c = c.in_ok-of_formula.ensures [] c.new-met.ensures.items
