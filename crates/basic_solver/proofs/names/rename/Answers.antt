use Rattle.std.proofs.Common.{◌<◌, length, arith}
use Rattle.basic_solver.proofs.Renaming.{step_now}
use Rattle.basic_solver.proofs.names.rename.Goals as goal

pub loop-i-preserved : goal.loop-i-preserved
loop-i-preserved c =
    let within : c.loop-i.i < length c.args.names.now.items = omega (arith, c.loop-i-test.true, c.len-i-end.ensures) in
    step_now c.args.high c.args.low c.loop-i.i c.args.names.now.items c.loop-i.names.items c.index.result.now c.new_name.result c.loop-i.invariant within c.index.ensures
    c.new_name.ensures
