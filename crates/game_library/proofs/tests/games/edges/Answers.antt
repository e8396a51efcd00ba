use Rattle.game_library.proofs.tests.games.edges.Goals as goal

pub returns : goal.returns
returns c = λ σ callable. c.in_ok-f.ensures σ callable (c.in_ok-first.ensures σ callable) (c.in_ok-second.ensures σ callable)
