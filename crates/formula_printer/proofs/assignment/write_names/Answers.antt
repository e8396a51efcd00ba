use Rattle.std.proofs.Common.{◌<◌, length, arith, rules, append_assoc}
use Rattle.formula_printer.proofs.Assigned.{names_more}
use Rattle.formula_printer.proofs.assignment.write_names.Goals as goal

pub loop-i-preserved : goal.loop-i-preserved
loop-i-preserved c =
    let within : c.loop-i.i < length c.args.names.now = omega arith in
    rw (names_more c.args.names.now c.loop-i.i within) (search (rules, append_assoc))
