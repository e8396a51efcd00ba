use Rattle.working_rules.proofs.Worked.{round_over}
use Rattle.working_rules.proofs.turning.list_in_round.Goals as goal

pub list_under-requires-clause-over : goal.list_under-requires-clause-over
list_under-requires-clause-over c =
    round_over c.args.round.now.variables c.args.arena.now c.args.place c.open_round.new.round.variables c.open_round.new.store.scopes c.open_round.new.round.is_solvable
    c.in_ok-open_round.ensures.opened c.requires.over
