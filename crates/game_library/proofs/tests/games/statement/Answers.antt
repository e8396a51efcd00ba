use Rattle.game_library.proofs.TwoGames.{named_over}
use Rattle.game_library.proofs.tests.games.statement.Goals as goal

pub returns : goal.returns
returns c = λ σ over. named_over σ σ _ c.args.body c.in_ok-names.ensures over
