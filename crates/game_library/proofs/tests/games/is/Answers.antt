use Rattle.formula_ast.proofs.Ties.{equal_form}
use Rattle.game_library.proofs.OverTwo.{variable_over}
use Rattle.game_library.proofs.tests.games.is.Goals as goal

pub returns : goal.returns
returns c = λ σ callable. rw equal_form (variable_over σ c.args.variable c.requires, c.constant.ensures σ)
