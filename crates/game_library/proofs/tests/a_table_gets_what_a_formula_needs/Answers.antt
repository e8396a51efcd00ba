use Rattle.game_library.proofs.tests.a_table_gets_what_a_formula_needs.Goals as goal

pub complete-requires-clause-over : goal.complete-requires-clause-over
complete-requires-clause-over g c =
    let σ = c.in_ok-file.file.signature in (2, c.wins-f.ensures σ c.in_ok-file.ensures.chain (c.in_ok-t.ensures σ))
