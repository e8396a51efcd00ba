use Rattle.std.proofs.Common.{◌≡◌, ◌<◌, ◌≤◌, length, arith}
use Rattle.step_facts.specs.Lists.{IsPlain}
use Rattle.game_library.proofs.Grown.{none_right}
use Rattle.solver_cli.proofs.Counted.{begun, few, stepped, ended}
use Rattle.solver_cli.proofs.counting.count.Goals as goal

pub with-counts-requires-clause-valid : goal.with-counts-requires-clause-valid
with-counts-requires-clause-valid c =
    let all = few c.args.file.now c.statements.place c.statements.counts c.statements.invariant.0 in omega (arith, all.0)

pub with-counts-requires-clause-unsatisfiable : goal.with-counts-requires-clause-unsatisfiable
with-counts-requires-clause-unsatisfiable c =
    let all = few c.args.file.now c.statements.place c.statements.counts c.statements.invariant.0 in omega (arith, all.1)

pub with-counts-requires-clause-neither : goal.with-counts-requires-clause-neither
with-counts-requires-clause-neither c =
    let all = few c.args.file.now c.statements.place c.statements.counts c.statements.invariant.0 in omega (arith, all.2)

pub statements-preserved : goal.statements-preserved
statements-preserved c = (
  stepped c.args.file.now c.statements.place c.statements.counts c.with-counts.result c.get.result.now c.in_ok-verdict.verdict c.get.ensures c.in_ok-verdict.ensures.right c.statements.invariant.0 c.with-counts.ensures,
  c.verdict_of.ensures.table,
)
