use Rattle.std.proofs.Common.{◌≤◌, sym, length, inl, inr}
use Rattle.std.proofs.lemmas.Bool.{cases_lt}
use Rattle.term_graph.proofs.Restoring.{written-past}
use Rattle.term_graph.proofs.parts.write_where.Goals as goal

pub returns-in_default : goal.returns-in_default
returns-in_default c =
    let es = c.args.table.now.entries in
    let h : length es ≤ c.args.place = elim (cases_lt c.args.place (length es)) [ inl l ↦ absurd (let h = c.in_default.ensures.found.1 l in cc) | inr g ↦ g ] in
    sym (written-past es c.args.place c.args.t h)
