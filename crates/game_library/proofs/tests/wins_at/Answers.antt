use Rattle.game_library.proofs.tests.wins_at.Goals as goal

pub is_true-requires-clause-over : goal.is_true-requires-clause-over
is_true-requires-clause-over g c =
    let σ = c.args.file.now.signature in (2, c.wins-f.ensures σ c.requires.game (c.in_ok-t.ensures σ))
