use Rattle.std.proofs.Common.{◌<◌, length, subst, arith}
use Rattle.flat_form.specs.Numbering.{AtomOver}
use Rattle.basic_solver.proofs.Flagging.{zero_low}
use Rattle.basic_solver.proofs.bases.say.Goals as goal

pub index_mut-requires : goal.index_mut-requires
index_mut-requires c =
    let low : c.in-Finite.u < length c.args.names.now = subst (λ z. AtomOver (length c.args.names.now) z) c.in-Finite.is c.requires.over in
    omega (arith, zero_low c.args.names.now c.in-Finite.u c.requires.names low, c.requires.size, c.args.said.now.ok.0)
