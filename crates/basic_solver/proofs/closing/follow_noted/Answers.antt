use Rattle.std.proofs.Common.{◌≡◌, ◌<◌, ℕ, List, length, get_or, refl, sym, ap, ◌∙◌, arith, None}
use Rattle.basic_solver.specs.Names.{name_in}
use Rattle.basic_solver.specs.Terms.{FollowsNoted}
use Rattle.std.proofs.lemmas.List.Elements.{All-contains}
use Rattle.flat_form.specs.Numbering.{AtomOver}
use Rattle.basic_solver.specs.Names.{weight, IsFollowed}
use Rattle.basic_solver.proofs.Following.{term_low}
use Rattle.basic_solver.proofs.Naming.{name_low, read_name, told_weaker}
use Rattle.basic_solver.proofs.Noticed.{noted_stands, noted_over, noted_named, follows_alone, follows_noted}
use Rattle.basic_solver.proofs.closing.follow_noted.Goals as goal

pub term_of-requires-clause-within : goal.term_of-requires-clause-within
term_of-requires-clause-within c =
    let leads = c.args.leads.now in
    let names = c.args.names.now.items in
    let u = c.in-VarTerm.u in
    let over : AtomOver (length leads) c.args.atom.now = All-contains (AtomOver (length leads)) c.args.atoms.now c.args.atom.now c.requires.over c.requires.one in
    let low : u < length leads = term_low (length leads) c.args.atom.now u _ _ c.in-VarTerm.is over in
    let read : c.index.result.now ≡ name_in names u = read_name names u c.index.result.now (omega (arith, c.requires.naming.size, low)) c.index.ensures in
    omega (arith, read, name_low leads names c.requires.naming u low, c.requires.size)

pub follow-requires-clause-right : goal.follow-requires-clause-right
follow-requires-clause-right c =
    noted_over c.args.terms.now c.args.atoms.now (length c.args.leads.now) c.index.result.now c.in-Some.term.now c.requires.over c.in-Some.ensures

pub returns-in-Some-clause-sound : goal.returns-in-Some-clause-sound
returns-in-Some-clause-sound c =
    c.follow.ensures.sound c.args.atoms.now c.requires.one (noted_stands c.args.terms.now c.args.atoms.now c.index.result.now c.in-Some.term.now c.in-Some.ensures)

pub returns-in-Some-clause-told : goal.returns-in-Some-clause-told
returns-in-Some-clause-told c =
    let leads = c.args.leads.now in
    let names = c.args.names.now.items in
    let new = c.follow.new.names.items in
    let terms = c.args.terms.now in
    let atoms = c.args.atoms.now in
    let atom = c.args.atom.now in
    let u = c.in-VarTerm.u in
    let term = c.in-Some.term.now in
    let over : AtomOver (length leads) atom = All-contains (AtomOver (length leads)) atoms atom c.requires.over c.requires.one in
    let low : u < length leads = term_low (length leads) atom u _ _ c.in-VarTerm.is over in
    let read : c.index.result.now ≡ name_in names u = read_name names u c.index.result.now (omega (arith, c.requires.naming.size, low)) c.index.ensures in
    told_weaker c.follow.result (weight leads new < weight leads names) (new ≡ names) (IsFollowed names atom term) (FollowsNoted names terms atoms atom) c.follow.ensures.told
    (follows_noted terms atoms names atom u c.in-VarTerm.field-1 c.in-VarTerm.field-2 c.in-VarTerm.is term
    (noted_named terms atoms c.index.result.now (name_in names u) term read c.in-Some.ensures))

pub returns-in-None-clause-told : goal.returns-in-None-clause-told
returns-in-None-clause-told c =
    let leads = c.args.leads.now in
    let names = c.args.names.now.items in
    let u = c.in-VarTerm.u in
    let over : AtomOver (length leads) c.args.atom.now = All-contains (AtomOver (length leads)) c.args.atoms.now c.args.atom.now c.requires.over c.requires.one in
    let low : u < length leads = term_low (length leads) c.args.atom.now u _ _ c.in-VarTerm.is over in
    let read : c.index.result.now ≡ name_in names u = read_name names u c.index.result.now (omega (arith, c.requires.naming.size, low)) c.index.ensures in
    let none : get_or c.args.terms.now (name_in names u) None ≡ None = ap (λ (z : ℕ). get_or c.args.terms.now z None) (sym read) ∙ c.in-None.ensures in
    (refl {A = List ℕ}, follows_alone c.args.terms.now c.args.atoms.now names c.args.atom.now u c.in-VarTerm.field-1 c.in-VarTerm.field-2 c.in-VarTerm.is none)
