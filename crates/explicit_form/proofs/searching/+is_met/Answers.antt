use Rattle.std.proofs.Common.{◌++◌}
use Rattle.explicit_form.specs.Shape.{Meets}
use Rattle.explicit_form.specs.Pieces.{bound_of}
use Rattle.formula_ast.specs.Forms.{form_of}
use Rattle.explicit_form.proofs.Arms.{in_left, in_right, in_body, in_equation, in_mark, nowhere}
use Rattle.explicit_form.proofs.Truth.{holds_by, nope, along, it_is, it_is_not}
use Rattle.explicit_form.proofs.searching.+is_met.Goals as goal

pub returns-then-is_met : goal.returns-then-is_met
returns-then-is_met t c =
    holds_by c.is_met.result (in_left (Meets c.args.free (bound_of (form_of c.args.outer.now) ++ bound_of (form_of c.args.inner.now)) c.args.x) c.args.f.now c.get.result.now c.in-And.h (rw c.get.ensures c.in-And.is) (it_is c.is_met.result c.is_met.ensures c.if-is_met.true)) c.if-is_met.true

pub returns-else-is_met : goal.returns-else-is_met
returns-else-is_met t c =
    along c.is_met-else-is_met.result c.is_met-else-is_met.ensures
    (in_right (Meets c.args.free (bound_of (form_of c.args.outer.now) ++ bound_of (form_of c.args.inner.now)) c.args.x) c.args.f.now c.get.result.now c.get-else-is_met.result.now (rw (c.get.ensures, c.get-else-is_met.ensures) c.in-And.is)
    (it_is_not c.is_met.result c.is_met.ensures c.if-is_met.false))

pub returns-in-Exists : goal.returns-in-Exists
returns-in-Exists t c =
    along c.is_met-in-Exists.result c.is_met-in-Exists.ensures (in_body (Meets c.args.free (bound_of (form_of c.args.outer.now) ++ bound_of (form_of c.args.inner.now)) c.args.x) c.args.f.now c.in-Exists.field-0 c.get-in-Exists.result.now (rw c.get-in-Exists.ensures c.in-Exists.is))

pub returns-in-Eq : goal.returns-in-Eq
returns-in-Eq t c = along c.equation_meets.result c.equation_meets.ensures (in_equation (Meets c.args.free (bound_of (form_of c.args.outer.now) ++ bound_of (form_of c.args.inner.now)) c.args.x) c.args.f.now c.in-Eq.t c.in-Eq.s c.in-Eq.is)

pub returns-in-Finite : goal.returns-in-Finite
returns-in-Finite t c = nope (λ there. (in_mark (Meets c.args.free (bound_of (form_of c.args.outer.now) ++ bound_of (form_of c.args.inner.now)) c.args.x) c.args.f.now _ c.in-Finite.is).1 there)

pub returns-in_default : goal.returns-in_default
returns-in_default t c = nope (nowhere (Meets c.args.free (bound_of (form_of c.args.outer.now) ++ bound_of (form_of c.args.inner.now)) c.args.x) c.args.f.now c.in_default.not-And c.in_default.not-Exists c.in_default.not-Eq c.in_default.not-Finite)
