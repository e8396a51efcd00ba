use Rattle.game_library.proofs.tests.is_true.Goals as goal

pub solve_by-requires-clause-free : goal.solve_by-requires-clause-free
solve_by-requires-clause-free g c = λ x free. (c.in_ok-ranks.ensures.free x).1 free
