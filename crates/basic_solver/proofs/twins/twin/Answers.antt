use Rattle.std.proofs.Common.{sym, subst}
use Rattle.std.specs.HashMap.{get}
use Rattle.flat_form.specs.declared.atom.Flat.{Flat}
use Rattle.basic_solver.specs.declared.twins.Application.{Application}
use Rattle.basic_solver.specs.Twins.{is_same_key, IsTwinned}
use Rattle.basic_solver.proofs.twins.twin.Goals as goal

pub returns-in_ok-j-in-VarTerm : goal.returns-in_ok-j-in-VarTerm
returns-in_ok-j-in-VarTerm c =
    let key : Application = record { sign = c.sign_key-sign.result; names = c.in_ok-names-in-VarTerm.names } in
    subst (λ (z : Flat). IsTwinned c.args.names.now (get is_same_key c.args.table.now) (get is_same_key c.place.new.table) z c.args.i c.in_ok-j-in-VarTerm.j) (sym c.in-VarTerm.is)
    (key, (c.sign_key-sign.ensures, c.in_ok-names-in-VarTerm.ensures), c.in_ok-j-in-VarTerm.ensures)
