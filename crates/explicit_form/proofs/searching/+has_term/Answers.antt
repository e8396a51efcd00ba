use Rattle.explicit_form.specs.Shape.{HaveSameTerm}
use Rattle.explicit_form.specs.Pieces.{equation}
use Rattle.explicit_form.proofs.Sides.{no_term_mark}
use Rattle.explicit_form.proofs.Arms.{in_left, in_right, in_body, in_equation, in_mark, nowhere}
use Rattle.explicit_form.proofs.Truth.{holds_by, nope, along, it_is, it_is_not}
use Rattle.explicit_form.proofs.searching.+has_term.Goals as goal

pub returns-then-has_term : goal.returns-then-has_term
returns-then-has_term t c =
    holds_by c.has_term.result (in_left (HaveSameTerm (equation c.args.t.now c.args.s.now)) c.args.f.now c.get.result.now c.in-And.h (rw c.get.ensures c.in-And.is) (it_is c.has_term.result c.has_term.ensures c.if-has_term.true)) c.if-has_term.true

pub returns-else-has_term : goal.returns-else-has_term
returns-else-has_term t c =
    along c.has_term-else-has_term.result c.has_term-else-has_term.ensures
    (in_right (HaveSameTerm (equation c.args.t.now c.args.s.now)) c.args.f.now c.get.result.now c.get-else-has_term.result.now (rw (c.get.ensures, c.get-else-has_term.ensures) c.in-And.is)
    (it_is_not c.has_term.result c.has_term.ensures c.if-has_term.false))

pub returns-in-Exists : goal.returns-in-Exists
returns-in-Exists t c =
    along c.has_term-in-Exists.result c.has_term-in-Exists.ensures (in_body (HaveSameTerm (equation c.args.t.now c.args.s.now)) c.args.f.now c.in-Exists.field-0 c.get-in-Exists.result.now (rw c.get-in-Exists.ensures c.in-Exists.is))

pub returns-in-Eq : goal.returns-in-Eq
returns-in-Eq t c = along c.have_same_term.result c.have_same_term.ensures (in_equation (HaveSameTerm (equation c.args.t.now c.args.s.now)) c.args.f.now c.in-Eq.u c.in-Eq.r c.in-Eq.is)

pub returns-in-Finite : goal.returns-in-Finite
returns-in-Finite t c = nope (λ there. no_term_mark _ _ _ ((in_mark (HaveSameTerm (equation c.args.t.now c.args.s.now)) c.args.f.now _ c.in-Finite.is).1 there))

pub returns-in_default : goal.returns-in_default
returns-in_default t c = nope (nowhere (HaveSameTerm (equation c.args.t.now c.args.s.now)) c.args.f.now c.in_default.not-And c.in_default.not-Exists c.in_default.not-Eq c.in_default.not-Finite)
