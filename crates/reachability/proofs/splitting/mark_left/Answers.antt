use Rattle.std.proofs.Common.{length}
use Rattle.reachability.proofs.Sorting.{left_more, left_same, left_of_variables, left_of_term, left_of_none}
use Rattle.reachability.proofs.Placing.{term_low, equal_low}
use Rattle.reachability.proofs.splitting.mark_left.Goals as goal

pub returns-in-VarVar-clause-left : goal.returns-in-VarVar-clause-left
returns-in-VarVar-clause-left c =
    let flags = c.args.flags.now.items in
    let atom = c.args.atom.now in
    left_more flags atom c.in-VarVar.u (equal_low (length flags) atom c.in-VarVar.u _ c.in-VarVar.is c.requires.over) (left_of_variables atom c.in-VarVar.u _ c.in-VarVar.is)

pub returns-in-VarTerm-clause-left : goal.returns-in-VarTerm-clause-left
returns-in-VarTerm-clause-left c =
    let flags = c.args.flags.now.items in
    let atom = c.args.atom.now in
    left_more flags atom c.in-VarTerm.u (term_low (length flags) atom c.in-VarTerm.u _ _ c.in-VarTerm.is c.requires.over) (left_of_term atom c.in-VarTerm.u _ _ c.in-VarTerm.is)

pub returns-in-Finite-clause-left : goal.returns-in-Finite-clause-left
returns-in-Finite-clause-left c = left_same c.args.flags.now.items c.args.atom.now (left_of_none c.args.atom.now _ c.in-Finite.is)
