use Rattle.std.proofs.Common.{length, ap, ◌∙◌}
use Rattle.std.proofs.lemmas.Bool.Decides.{when_true, when_false}
use Rattle.flat_facts.specs.Names.{IsClosed}
use Rattle.flat_facts.proofs.Names.{names_classes}
use Rattle.basic_solver.specs.Names.{name_in, IsSound}
use Rattle.basic_solver.specs.Flags.{AllAgree}
use Rattle.basic_solver.proofs.Answering.{own_sound, solution_agrees}
use Rattle.basic_solver.proofs.closing.classes.Goals as goal

pub returns-then-not-branch : goal.returns-then-not-branch
returns-then-not-branch c = λ σ e holds.
    let atoms = c.args.atoms.now in
    let names = c.close.new.names.items in
    let sound : IsSound atoms names = c.close.ensures.sound (own_sound atoms c.in_ok-names.names.items c.in_ok-names.ensures.1) in
    let clash : ¬ AllAgree names atoms = when_false (IsClosed atoms (name_in names) × AllAgree names atoms) (¬ AllAgree names atoms) c.if-not-branch.true c.in_ok-close.ensures.closed in
    absurd (clash (solution_agrees names atoms σ e holds sound))

pub returns : goal.returns
returns c =
    let atoms = c.args.atoms.now in
    let names = c.close.new.names.items in
    let sound : IsSound atoms names = c.close.ensures.sound (own_sound atoms c.in_ok-names.names.items c.in_ok-names.ensures.1) in
    let closed : IsClosed atoms (name_in names) × AllAgree names atoms =
    when_true (IsClosed atoms (name_in names) × AllAgree names atoms) (¬ AllAgree names atoms) c.if-not-branch.false c.in_ok-close.ensures.closed in
    (c.close.ensures.naming.size ∙ ap length c.as_slice.ensures.value ∙ c.in_ok-leads.ensures.size, names_classes atoms (name_in names) closed.0 sound)
