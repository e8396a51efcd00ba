use Rattle.std.proofs.Common.{refl}
use Rattle.game_library.proofs.TwoGames.{pred_over}
use Rattle.game_library.proofs.tests.games.pred.Goals as goal

pub returns-clause-over : goal.returns-clause-over
returns-clause-over c = λ σ. pred_over σ _ c.in_ok-names.ensures refl c.requires
