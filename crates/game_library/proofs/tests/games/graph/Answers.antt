use Rattle.game_library.proofs.tests.games.graph.Goals as goal

pub returns : goal.returns
returns c = λ σ callable. c.in_ok-f.ensures σ callable (c.in_ok-cycle.ensures σ callable) (c.in_ok-others.ensures σ callable)
