use Rattle.std.specs.Prelude.{IfOk}
use Rattle.working_rules.proofs.Worked.{none_kept, some_kept, well_numbered, free_enough}
use Rattle.working_rules.proofs.Rounds.{counted_if}
use Rattle.std.proofs.Common.{sym}
use Rattle.working_rules.proofs.turning.keep_beside.Goals as goal

pub returns-then-not-round-clause-kept : goal.returns-then-not-round-clause-kept
returns-then-not-round-clause-kept c = λ under are.
    none_kept under c.args.round.now.variables c.args.store.now.scopes c.args.round.now.is_solvable c.args.cubes.now c.new.result c.if-not-round.true are c.new.ensures

pub keep-requires-clause-counted : goal.keep-requires-clause-counted
keep-requires-clause-counted c =
    sym (counted_if c.requires.so_far.0 c.args.round.now.variables c.args.store.now.scopes c.args.round.now.is_solvable c.if-not-round.false c.requires.so_far.1)

pub keep-requires-clause-over : goal.keep-requires-clause-over
keep-requires-clause-over c = well_numbered c.requires.over.0 c.args.cubes.now c.requires.over.2

pub keep-requires-clause-free : goal.keep-requires-clause-free
keep-requires-clause-free c = free_enough c.requires.over.0 c.args.round.now.variables c.args.cubes.now c.requires.over.1 c.requires.over.2

pub returns-clause-kept : goal.returns-clause-kept
returns-clause-kept c = λ under are.
    some_kept under c.args.round.now.variables c.args.store.now.scopes c.args.round.now.is_solvable c.args.cubes.now c.in_ok-keep.field-0 c.if-not-round.false are c.in_ok-keep.ensures.kept
