use Rattle.std.proofs.Common.{arith}
use Rattle.formula_ast.proofs.Ties.{equal_form}
use Rattle.game_library.proofs.OverTwo.{variable_over}
use Rattle.game_library.proofs.tests.games.chain.Goals as goal

pub returns : goal.returns
returns c = λ σ callable. rw equal_form (variable_over σ 0 (omega arith), c.in_ok-t.ensures σ (variable_over σ 1 (omega arith)))
