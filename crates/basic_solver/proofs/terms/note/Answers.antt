use Rattle.std.proofs.Common.{length, arith}
use Rattle.basic_solver.proofs.Following.{term_low}
use Rattle.basic_solver.proofs.Flagging.{zero_low}
use Rattle.basic_solver.proofs.terms.note.Goals as goal

pub index_mut-requires : goal.index_mut-requires
index_mut-requires c =
    let low = term_low (length c.args.names.now) c.args.atom.now c.in-VarTerm.u _ _ c.in-VarTerm.is c.requires.over in
    omega (arith, zero_low c.args.names.now c.in-VarTerm.u c.requires.names low, c.requires.size, c.args.terms.now.ok.0)
