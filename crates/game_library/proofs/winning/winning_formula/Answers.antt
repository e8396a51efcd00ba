use Rattle.std.proofs.Common.{refl}
use Rattle.formula_ast.proofs.Ties.{win_form}
use Rattle.game_library.proofs.winning.winning_formula.Goals as goal

pub returns : goal.returns
returns c = rw (c.in_ok-formula.ensures, c.in_ok-safe.ensures, c.in_ok-moves_to.ensures, c.in_ok-lost.ensures, win_form) refl
