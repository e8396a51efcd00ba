use Rattle.stored_games.proofs.Lawful.{faultless}
use Rattle.stored_games.proofs.laws.stored_games_read.Goals as goal

pub returns : goal.returns
returns c = record { faultless = faultless }
