use Rattle.game_library.specs.Needs.{asked_keys}
use Rattle.formula_ast.specs.Forms.{form_of}
use Rattle.game_library.proofs.Asked.{asked_nothing, asked_atom, asked_call, asked_win, asked_one, asked_both}
use Rattle.game_library.proofs.Marked.{adds_none, adds_then}
use Rattle.game_library.proofs.marks.Marks.+add_all.Goals as goal

pub returns-in-Call : goal.returns-in-Call
returns-in-Call t c = rw (asked_call c.args.f.now c.in-Call.p c.in-Call.field-1 c.in-Call.is) c.add.ensures

pub returns-in-Win : goal.returns-in-Win
returns-in-Win t c = rw (asked_win c.args.f.now c.in-Win.p c.in-Win.k c.in-Win.field-2 c.in-Win.is) c.add-in-Win.ensures

pub returns-in-Eq : goal.returns-in-Eq
returns-in-Eq t c = rw (asked_atom c.args.f.now c.in-Eq.is) (adds_none c.args.self.now)

pub returns-in-Eq-2 : goal.returns-in-Eq-2
returns-in-Eq-2 t c = rw (asked_atom c.args.f.now c.in-Eq.is) (adds_none c.args.self.now)

pub returns-in-Eq-3 : goal.returns-in-Eq-3
returns-in-Eq-3 t c = rw (asked_atom c.args.f.now c.in-Eq.is) (adds_none c.args.self.now)

pub returns-in-True : goal.returns-in-True
returns-in-True t c = rw (asked_nothing c.args.f.now c.in-True.is) (adds_none c.args.self.now)

pub returns-in-True-2 : goal.returns-in-True-2
returns-in-True-2 t c = rw (asked_nothing c.args.f.now c.in-True.is) (adds_none c.args.self.now)

pub returns-in-And : goal.returns-in-And
returns-in-And t c =
    rw (asked_both c.args.f.now c.get.result.now c.get-in-And.result.now (rw (c.get.ensures, c.get-in-And.ensures) c.in-And.is))
    (adds_then c.args.self.now c.add_all.new.self c.add_all-in-And.new.self (asked_keys (form_of c.get.result.now)) (asked_keys (form_of c.get-in-And.result.now))
    c.add_all.ensures c.add_all-in-And.ensures)

pub returns-in-Not : goal.returns-in-Not
returns-in-Not t c = rw (asked_one c.args.f.now c.get-in-Not.result.now (rw c.get-in-Not.ensures c.in-Not.is)) c.add_all-in-Not.ensures
