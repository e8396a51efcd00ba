use Rattle.game_library.proofs.OverTwo.{constant_over}
use Rattle.game_library.proofs.tests.games.constant.Goals as goal

pub returns : goal.returns
returns c = λ σ. constant_over σ c.args.index _ c.new.ensures
