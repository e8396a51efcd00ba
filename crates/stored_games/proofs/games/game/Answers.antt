use Rattle.std.proofs.Common.{sym, ap}
use Rattle.stored_games.specs.Games.{game_text, take2, two_piles, unroll}
use Rattle.stored_games.proofs.Other.{no_game}
use Rattle.stored_games.proofs.games.game.Goals as goal

pub returns-in-take2 : goal.returns-in-take2
unfolding game_text take2
returns-in-take2 c = sym (ap game_text c.in-take2.is)

pub returns-in-two_piles : goal.returns-in-two_piles
unfolding game_text two_piles
returns-in-two_piles c = sym (ap game_text c.in-two_piles.is)

pub returns-in-unroll : goal.returns-in-unroll
unfolding game_text unroll
returns-in-unroll c = sym (ap game_text c.in-unroll.is)

pub returns-in_default : goal.returns-in_default
returns-in_default c = sym (no_game c.args.name.now c.in_default.not-take2 c.in_default.not-two_piles c.in_default.not-unroll)
