use Rattle.std.proofs.Common.{sym, ◌∙◌}
use Rattle.basic_solver.proofs.Keys.{placed_found, placed_new}
use Rattle.basic_solver.proofs.twins.place.Goals as goal

pub returns-in-Some : goal.returns-in-Some
returns-in-Some c = placed_found c.args.table.now c.args.key c.args.i c.in-Some.j (sym c.get.ensures.value ∙ sym c.copied.ensures ∙ c.in-Some.is)

pub returns : goal.returns
returns c =
    placed_new c.args.table.now c.insert.new.self c.args.key c.args.i (sym c.get.ensures.value ∙ sym c.copied.ensures ∙ c.in_default.is) c.in-Ok.ensures.updates.0
