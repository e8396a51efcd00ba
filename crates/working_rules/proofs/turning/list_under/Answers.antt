use Rattle.std.proofs.Common.{ℕ, List, refl, sym, subst}
use Rattle.flat_form.specs.Numbering.{CubesOver}
use Rattle.basic_solver.specs.declared.scope.Scope.{Scope}
use Rattle.working_rules.specs.Forests.{branch_at}
use Rattle.working_rules.specs.Rounds.{AreInScopes}
use Rattle.working_rules.proofs.Worked.{kept_over, worked_off}
use Rattle.working_rules.proofs.turning.list_under.Goals as goal

pub closed_list-requires : goal.closed_list-requires
closed_list-requires c =
    subst (λ (n : ℕ). CubesOver n c.in_ok-kept.kept) c.in-Some.ensures.1
    (kept_over c.requires.so_far.0 c.in-Some.count c.in_ok-all.all c.in_ok-kept.kept (c.in_ok-kept.ensures.kept c.requires.so_far.0 c.requires.so_far.1)
    c.in_ok-all.ensures.over)

pub returns-clause-list : goal.returns-clause-list
returns-clause-list c = λ under are.
    let round = c.args.round.now in
    let again = subst (λ (z : List Scope). AreInScopes under round.variables z round.is_solvable) (sym c.keep_beside.ensures.stays) are in
    let last = c.in_ok-keep_beside.ensures.kept under again in
    worked_off round.variables c.in-Some.count c.args.place under (branch_at c.args.place c.args.arena.now) c.slot-slot.result.now c.in_ok-first.first c.in_ok-all.all
    c.in_ok-kept.kept c.in_ok-closed.closed c.in_ok-keep_beside.field-0 c.slot-slot.ensures c.in-Some.ensures.1 c.in_ok-first.ensures.first c.in_ok-all.ensures.joined
    (c.in_ok-kept.ensures.kept under are) c.in_ok-closed.ensures.closed last
    (kept_over under round.variables c.in_ok-closed.closed c.in_ok-keep_beside.field-0 last c.in_ok-closed.ensures.over)
