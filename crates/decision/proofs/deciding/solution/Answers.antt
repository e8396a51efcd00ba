use Rattle.decision.proofs.deciding.solution.Goals as goal

pub returns-clause-solution : goal.returns-clause-solution
returns-clause-solution g c =
    let is = c.in_ok-cubes.ensures in
    record { given = is.given; over = is.over; reduced = is.reduced; distinct = is.distinct; symbols = is.symbols; solves = is.meaning }
