use Rattle.game_library.proofs.tests.moves_between.Goals as goal

pub is_true-requires-clause-over : goal.is_true-requires-clause-over
is_true-requires-clause-over g c =
    let σ = c.args.file.now.signature in (2, c.in_ok-f.ensures σ c.requires.game (c.in_ok-from.ensures σ) (c.in_ok-to.ensures σ))
