use Rattle.std.proofs.Common.{◌<◌, length, subst, arith}
use Rattle.flat_form.specs.Numbering.{AtomOver}
use Rattle.basic_solver.proofs.Flagging.{zero_low}
use Rattle.basic_solver.proofs.listing.is_finite_done.Goals as goal

pub bounds-done-name : goal.bounds-done-name
bounds-done-name c =
    let low : c.in-Finite.u < length c.args.names.now = subst (λ z. AtomOver (length c.args.names.now) z) c.in-Finite.is c.requires.over in
    omega (arith, zero_low c.args.names.now c.in-Finite.u c.requires.names low, c.requires.size)
