use Rattle.game_library.proofs.tests.loop_is_won.Goals as goal

pub is_true-requires-clause-over : goal.is_true-requires-clause-over
is_true-requires-clause-over g c = (2, c.in_ok-f.ensures c.args.file.now.signature c.requires.game)
