use Rattle.std.proofs.Common.{◌<◌, ◌∙◌, length, arith}
use Rattle.std.proofs.lemmas.List.{get_or_default}
use Rattle.std.proofs.lemmas.Result.{on_ok_weaker}
use Rattle.flat_form.specs.declared.atom.Flat.TheVariants.{VarTerm}
use Rattle.finiteness.specs.declared.search.Mark.TheVariants.{New, Done}
use Rattle.finiteness.specs.Places.{StandsAt}
use Rattle.finiteness.specs.Marks.{HasMark}
use Rattle.finiteness.proofs.Standing.{stands_as}
use Rattle.finiteness.proofs.Gathering.{leaf_at}
use Rattle.finiteness.proofs.leaves.gather_at.Goals as goal

pub returns-in-Done : goal.returns-in-Done
returns-in-Done c =
    let basic = c.args.b.now in
    let marks = c.args.marks.now in
    let place = c.args.place in
    let v = c.in-VarTerm.field-0 in
    let s = c.in-VarTerm.field-1 in
    let xs = c.in-VarTerm.xs in
    let stands : StandsAt basic place (VarTerm v s xs) = stands_as basic place c.get.result.now (VarTerm v s xs) c.get.ensures c.in-VarTerm.is in
    let within : place < length marks = omega arith in
    let done : HasMark marks place Done = (within, get_or_default marks place Done New within ∙ c.in-Done.is) in
    on_ok_weaker c.gather.result (leaf_at basic marks place v s xs stands done c.args.found.now.items c.gather.new.found.items) c.gather.ensures
