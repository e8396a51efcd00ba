use Rattle.game_library.proofs.tests.games.edge.Goals as goal

pub returns : goal.returns
returns c = λ σ callable. c.in_ok-f.ensures σ callable (c.is-start.ensures σ callable) (c.is-end.ensures σ callable)
