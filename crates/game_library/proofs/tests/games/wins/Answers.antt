use Rattle.formula_ast.proofs.Ties.{win_form}
use Rattle.game_library.proofs.tests.games.wins.Goals as goal

pub returns : goal.returns
returns c = λ σ is over. rw win_form (is, over)
