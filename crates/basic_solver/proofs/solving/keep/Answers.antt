use Rattle.std.proofs.Common.{◌≡◌, ◌++◌, ◌∷◌, [], ◌-◌, arith}
use Rattle.basic_solver.proofs.Telling.{set_last, on_ok}
use Rattle.basic_solver.proofs.solving.keep.Goals as goal

pub returns-clause-ok : goal.returns-clause-ok
returns-clause-ok c =
    let x = c.index_mut.result.now in
    let scopes = c.args.scopes.now.items in
    on_ok c.push.result (c.push.new.self ≡ x.atoms ++ c.args.atom ∷ []) _
    (λ e. set_last scopes (c.len-last.result - 1) x c.args.atom c.push.new.self (omega (arith, c.len-last.ensures, c.args.scopes.now.ok.0, c.requires)) c.index_mut.ensures.value e)
    c.push.ensures.ok
