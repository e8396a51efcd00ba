use Rattle.std.proofs.Common.{◌≡◌, ℕ, Bool, List, length, sym, ap, ◌∙◌, subst}
use Rattle.std.specs.Prelude.{All}
use Rattle.std.proofs.lemmas.Bool.Decides.{when_true, when_false}
use Rattle.flat_form.specs.Classes.{Unsolvable}
use Rattle.flat_form.specs.Meanings.{HasNone}
use Rattle.flat_form.specs.Numbering.{BasicOver}
use Rattle.flat_facts.specs.Names.{IsClosed}
use Rattle.basic_solver.specs.Names.{name_in, IsNaming, IsSound}
use Rattle.basic_solver.specs.Flags.{AllAgree, AreClasses, AreReached, IsPassedOn}
use Rattle.basic_solver.specs.Outcomes.{AreTables, IsListed}
use Rattle.basic_solver.specs.Bases.{AreSaid}
use Rattle.basic_solver.proofs.Answering.{own_sound, solution_agrees, listed_added}
use Rattle.basic_solver.proofs.listing.added.Goals as goal

pub returns-then-not-branch : goal.returns-then-not-branch
returns-then-not-branch c = λ σ e holds.
    let atoms = c.args.atoms.now in
    let names = c.close.new.names.items in
    let sound : IsSound atoms names = c.close.ensures.sound (own_sound atoms c.in_ok-names.names.items c.in_ok-names.ensures.1) in
    let clash : ¬ AllAgree names atoms = when_false (IsClosed atoms (name_in names) × AllAgree names atoms) (¬ AllAgree names atoms) c.if-not-branch.true c.in_ok-close.ensures.closed in
    absurd (clash (solution_agrees names atoms σ e holds sound))

pub returns-then-not-branch-2 : goal.returns-then-not-branch-2
returns-then-not-branch-2 c =
    let atoms = c.args.atoms.now in
    let names = c.close.new.names.items in
    let sound : IsSound atoms names = c.close.ensures.sound (own_sound atoms c.in_ok-names.names.items c.in_ok-names.ensures.1) in
    let closed : IsClosed atoms (name_in names) × AllAgree names atoms =
    when_true (IsClosed atoms (name_in names) × AllAgree names atoms) (¬ AllAgree names atoms) c.if-not-branch.false c.in_ok-close.ensures.closed in
    let classes : AreClasses names atoms = record { sound = sound; closed = closed.0; agree = closed.1 } in
    when_false (¬ Unsolvable atoms) (HasNone atoms) c.if-not-branch-2.true
    (c.in_ok-end_all.ensures (subst (λ (z : List ℕ). AreClasses z atoms) (sym c.as_slice-3.ensures.value) classes))

pub returns : goal.returns
returns c =
    let atoms = c.args.atoms.now in
    let names = c.close.new.names.items in
    let sound : IsSound atoms names = c.close.ensures.sound (own_sound atoms c.in_ok-names.names.items c.in_ok-names.ensures.1) in
    let closed : IsClosed atoms (name_in names) × AllAgree names atoms =
    when_true (IsClosed atoms (name_in names) × AllAgree names atoms) (¬ AllAgree names atoms) c.if-not-branch.false c.in_ok-close.ensures.closed in
    let classes : AreClasses names atoms = record { sound = sound; closed = closed.0; agree = closed.1 } in
    let size : length names ≡ c.args.count = c.close.ensures.naming.size ∙ ap length c.as_slice.ensures.value ∙ c.in_ok-leads.ensures.size in
    let over : BasicOver (length names) atoms = subst (λ (z : ℕ). BasicOver z atoms) (sym size) c.requires.over in
    let can : ¬ Unsolvable atoms =
    when_true (¬ Unsolvable atoms) (HasNone atoms) c.if-not-branch-2.false
    (c.in_ok-end_all.ensures (subst (λ (z : List ℕ). AreClasses z atoms) (sym c.as_slice-3.ensures.value) classes)) in
    let base = c.args.base.now in
    let leads = c.in_ok-leads.leads.items in
    let marks = c.in_ok-marks.marks.items in
    let marked : AreReached names atoms marks × All (IsPassedOn names marks) atoms =
    subst (λ (z : List ℕ). AreReached z atoms marks × All (IsPassedOn z marks) atoms) c.as_slice-5.ensures.value
    (c.in_ok-marks.ensures.reached (subst (λ (z : List ℕ). AreClasses z atoms) (sym c.as_slice-5.ensures.value) classes)) in
    let tables : AreTables leads names marks base atoms = record {
      naming = subst (λ (z : List Bool). IsNaming z names) c.as_slice.ensures.value c.close.ensures.naming;
      leads_are = c.in_ok-leads.ensures.leads;
      classes = classes;
      reached = marked.0;
      passed_on = marked.1;
      over = over;
      base_over = subst (λ (z : ℕ). BasicOver z base) (sym size) c.requires.base_over;
      among = c.requires.among;
      direct = c.requires.direct;
    } in
    let said : AreSaid names base c.in_ok-said.said.items = subst (λ (z : List ℕ). AreSaid z base c.in_ok-said.said.items) c.as_slice-7.ensures.value c.in_ok-said.ensures.said in
    let there : (z : List ℕ) → z ≡ names → AreTables leads z marks base atoms × AreSaid z base c.in_ok-said.said.items =
    λ z e. subst (λ (z : List ℕ). AreTables leads z marks base atoms × AreSaid z base c.in_ok-said.said.items) (sym e) (tables, said) in
    let given = there c.as_slice-8.result.now c.as_slice-8.ensures.value in
    let listed : IsListed (length names) base atoms c.in_ok-lines.lines =
    subst (λ (z : List ℕ). IsListed (length z) base atoms c.in_ok-lines.lines) c.as_slice-8.ensures.value
    (c.in_ok-lines.ensures leads base given.0 c.in_ok-bound.ensures.bound given.1) in
    listed_added (length names) base atoms c.in_ok-lines.lines over can listed
