use Rattle.std.proofs.Common.{arith}
use Rattle.game_library.proofs.Grown.{marked_none, marked_some}
use Rattle.game_library.proofs.Marked.{moves_call}
use Rattle.game_library.proofs.entries.add_marked.Goals as goal

pub add_wins-requires-clause-two : goal.add_wins-requires-clause-two
add_wins-requires-clause-two g c = c.requires.two 0 (c.in-Some.most, c.in-Some.is, omega arith)

pub add_wins-requires-clause-pred : goal.add_wins-requires-clause-pred
add_wins-requires-clause-pred g c = λ less. c.in_ok-add_if_called.ensures.ok (moves_call c.args.mark c.in-Some.most c.in-Some.is less)

pub returns-in-None-clause-ok : goal.returns-in-None-clause-ok
returns-in-None-clause-ok g c = marked_none c.add_if_called.new.table c.args.mark c.args.pred.now.place c.in-None.is c.in_ok-add_if_called.ensures.ok

pub returns-in_ok-add_wins-in-Some-clause-ok : goal.returns-in_ok-add_wins-in-Some-clause-ok
returns-in_ok-add_wins-in-Some-clause-ok g c =
    marked_some c.add_if_called.new.table c.add_wins.new.table c.args.mark c.args.pred.now.place c.in-Some.most c.in-Some.is c.add_wins.ensures.grown
    c.in_ok-add_if_called.ensures.ok c.in_ok-add_wins-in-Some.ensures.ok
