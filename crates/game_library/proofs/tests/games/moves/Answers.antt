use Rattle.game_library.proofs.OverTwo.{pair_over}
use Rattle.formula_ast.proofs.Ties.{call_form}
use Rattle.game_library.proofs.tests.games.moves.Goals as goal

pub returns : goal.returns
returns c = λ σ is from to. rw (call_form, c.in_ok-push-2.ensures.ok, c.in_ok-push.ensures.ok, c.new-terms.ensures) (is, pair_over σ c.args.from c.args.to from to)
