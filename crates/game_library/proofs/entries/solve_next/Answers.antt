use Rattle.form_facts.specs.Winning.{winning_form}
use Rattle.game_library.proofs.Declared.{stands_declared}
use Rattle.game_library.proofs.RightEntries.{winning_over, winning_ranks, winning_has, next_right}
use Rattle.game_library.proofs.Solved.{has_entries}
use Rattle.game_library.proofs.entries.solve_next.Goals as goal

pub solve_with-requires-clause-over : goal.solve_with-requires-clause-over
solve_with-requires-clause-over g c =
    let two = rw c.requires.two at (stands_declared c.args.file.now c.requires.formed c.args.pred.now c.requires.stands) in
    rw c.in_ok-formula.ensures (3, winning_over c.args.file.now.signature c.args.pred.now.place c.args.k two)

pub solve_with-requires-clause-free : goal.solve_with-requires-clause-free
solve_with-requires-clause-free g c = rw (c.in_ok-ranks.ensures, c.in_ok-formula.ensures) (winning_ranks c.args.pred.now.place c.args.k)

pub solve_with-requires-clause-has : goal.solve_with-requires-clause-has
solve_with-requires-clause-has g c =
    let two = rw c.requires.two at (stands_declared c.args.file.now c.requires.formed c.args.pred.now c.requires.stands) in
    rw c.in_ok-formula.ensures
    (has_entries g.E.Engine.gives c.args.file.now c.requires.formed c.args.table.now c.requires.right 3 (winning_form c.args.pred.now.place c.args.k)
    (winning_over c.args.file.now.signature c.args.pred.now.place c.args.k two)
    (winning_has c.args.table.now c.args.pred.now.place c.args.k c.requires.pred c.requires.win))

pub returns : goal.returns
returns g c =
    next_right g.E.Engine.gives c.args.file.now c.requires.formed c.args.pred.now.place c.args.k c.in_ok-cubes.cubes
    (rw (c.in_ok-ranks.ensures, c.in_ok-formula.ensures) at c.in_ok-cubes.ensures)
