use Rattle.std.proofs.Common.{arith}
use Rattle.formula_ast.proofs.Ties.{exists_form, and_form, equal_form, win_form}
use Rattle.game_library.proofs.OverTwo.{variable_over}
use Rattle.game_library.proofs.tests.games.loop_wins.Goals as goal

pub returns : goal.returns
returns c = λ σ is.
    let zero_is = variable_over σ 0 (omega arith) in
    rw (exists_form, c.in_ok-both.ensures, and_form, c.in_ok-left.ensures, c.in_ok-right.ensures, equal_form, win_form)
    (omega arith, ((zero_is, c.in_ok-t.ensures σ zero_is), (is, zero_is)))
