use Rattle.std.proofs.Common.{[], ap, arith}
use Rattle.basic_solver.specs.declared.scope.Scope.{Scope}
use Rattle.basic_solver.specs.Stores.{open_in}
use Rattle.basic_solver.proofs.Storing.{open_push}
use Rattle.basic_solver.proofs.tests.in_two_scopes.Goals as goal

pub all_answer-requires-2 : goal.all_answer-requires-2
all_answer-requires-2 c =
    let top : Scope = record { variables = 0; atoms = [] } in
    record { enough = omega (arith, c.in_ok-all_answer.ensures.enough, ap open_in c.in_ok-push.ensures.ok, open_push c.all_answer.new.store.scopes top) }
