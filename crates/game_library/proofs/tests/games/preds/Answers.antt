use Rattle.game_library.proofs.TwoGames.{two_preds}
use Rattle.game_library.proofs.tests.games.preds.Goals as goal

pub returns-clause-declared : goal.returns-clause-declared
returns-clause-declared c =
    (two_preds _ _ _ _ _ c.in_ok-push-2.ensures.ok c.in_ok-push.ensures.ok c.new-preds.ensures c.in_ok-first.ensures.over c.in_ok-second.ensures.over).0 c.in_ok-first.ensures.declared c.in_ok-second.ensures.declared

pub returns-clause-over : goal.returns-clause-over
returns-clause-over c =
    (two_preds _ _ _ _ _ c.in_ok-push-2.ensures.ok c.in_ok-push.ensures.ok c.new-preds.ensures c.in_ok-first.ensures.over c.in_ok-second.ensures.over).1
