use Rattle.std.proofs.Common.{◌≤◌, ◌-◌, length}
use Rattle.solver_cli.specs.Reading.{ReadsSome}
use Rattle.solver_cli.proofs.reading.read_whole.Given as goal

abbrev pub invariant-turns : goal.invariant-turns
invariant-turns g l = record {
  taken : ReadsSome g.S.Source.reads g.S.Source.left 1048577 l.fn.source l.bytes.items l.source;
  count : g.S.Source.faults l.fn.source ≤ g.S.Source.faults l.source;
}

abbrev pub decreases-turns : goal.decreases-turns
decreases-turns g l = 1048577 - length l.bytes.items
