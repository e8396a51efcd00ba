use Rattle.std.proofs.Common.{length}
use Rattle.std.proofs.lemmas.List.Elements.{All-contains}
use Rattle.std.proofs.lemmas.Result.{on_ok_weaker}
use Rattle.flat_form.specs.declared.atom.Flat.TheVariants.{VarTerm}
use Rattle.flat_form.specs.Numbering.{AtomOver}
use Rattle.numbering.specs.Meeting.{bare, term}
use Rattle.numbering.proofs.meeting.visit.Goals as goal

pub enter_all-requires-clause-within : goal.enter_all-requires-clause-within
enter_all-requires-clause-within c =
    let (symbol, inside) = c.in-Some.ensures in
    (All-contains (AtomOver (length c.args.seen.now.items)) c.args.atoms.now (VarTerm c.args.u symbol c.in-Some.xs.now) c.requires.over inside).1

pub returns-in-Some-clause-visits : goal.returns-in-Some-clause-visits
returns-in-Some-clause-visits c =
    let (symbol, inside) = c.in-Some.ensures in
    on_ok_weaker c.enter_all.result (λ all. term symbol c.in-Some.xs.now c.enter_all.new.order inside all) c.enter_all.ensures.enters

pub returns-in-None-clause-visits : goal.returns-in-None-clause-visits
returns-in-None-clause-visits c = bare c.in-None.ensures
