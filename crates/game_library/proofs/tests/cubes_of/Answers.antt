use Rattle.std.proofs.Common.{arith}
use Rattle.game_library.proofs.OverTwo.{variable_over}
use Rattle.game_library.proofs.tests.cubes_of.Goals as goal

pub solve_formula-requires-clause-over : goal.solve_formula-requires-clause-over
solve_formula-requires-clause-over c =
    let σ = c.args.file.now.signature in c.in_ok-s.ensures σ (c.wins-f.ensures σ c.requires.game (variable_over σ 0 (omega arith)))

pub solve_formula-requires-clause-free : goal.solve_formula-requires-clause-free
solve_formula-requires-clause-free c = λ x free. (c.in_ok-ranks.ensures.free x).1 free
