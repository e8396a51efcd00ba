use Rattle.formula_ast.proofs.Ties.{and_form}
use Rattle.game_library.proofs.tests.games.both.Goals as goal

pub returns : goal.returns
returns c = λ σ callable f g. rw (and_form, c.in_ok-left.ensures, c.in_ok-new.ensures) (f, g)
