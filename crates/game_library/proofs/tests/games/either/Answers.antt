use Rattle.formula_ast.proofs.Ties.{or_form}
use Rattle.game_library.proofs.tests.games.either.Goals as goal

pub returns : goal.returns
returns c = λ σ callable f g. rw (or_form, c.in_ok-left.ensures, c.in_ok-new.ensures) (f, g)
