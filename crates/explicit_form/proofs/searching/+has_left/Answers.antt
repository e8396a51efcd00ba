use Rattle.explicit_form.specs.Shape.{IsLeftOf}
use Rattle.explicit_form.proofs.Sides.{left_is, equal_test}
use Rattle.explicit_form.proofs.Arms.{in_left, in_right, in_body, in_equation, in_mark, nowhere}
use Rattle.explicit_form.proofs.Truth.{holds_by, nope, along, it_is, it_is_not}
use Rattle.explicit_form.proofs.searching.+has_left.Goals as goal

pub returns-then-has_left : goal.returns-then-has_left
returns-then-has_left t c =
    holds_by c.has_left.result (in_left (IsLeftOf c.args.v) c.args.f.now c.get.result.now c.in-And.h (rw c.get.ensures c.in-And.is) (it_is c.has_left.result c.has_left.ensures c.if-has_left.true)) c.if-has_left.true

pub returns-else-has_left : goal.returns-else-has_left
returns-else-has_left t c =
    along c.has_left-else-has_left.result c.has_left-else-has_left.ensures
    (in_right (IsLeftOf c.args.v) c.args.f.now c.get.result.now c.get-else-has_left.result.now (rw (c.get.ensures, c.get-else-has_left.ensures) c.in-And.is)
    (it_is_not c.has_left.result c.has_left.ensures c.if-has_left.false))

pub returns-in-Exists : goal.returns-in-Exists
returns-in-Exists t c =
    along c.has_left-in-Exists.result c.has_left-in-Exists.ensures (in_body (IsLeftOf c.args.v) c.args.f.now c.in-Exists.field-0 c.get-in-Exists.result.now (rw c.get-in-Exists.ensures c.in-Exists.is))

pub returns-in-Eq : goal.returns-in-Eq
returns-in-Eq t c =
    along _ (along _ (equal_test c.variable_in.result c.args.v _ c.variable_in.ensures) (left_is _ _ c.args.v)) (in_equation (IsLeftOf c.args.v) c.args.f.now c.in-Eq.t _ c.in-Eq.is)

pub returns-in-Finite : goal.returns-in-Finite
returns-in-Finite t c = nope (λ there. (in_mark (IsLeftOf c.args.v) c.args.f.now _ c.in-Finite.is).1 there)

pub returns-in_default : goal.returns-in_default
returns-in_default t c = nope (nowhere (IsLeftOf c.args.v) c.args.f.now c.in_default.not-And c.in_default.not-Exists c.in_default.not-Eq c.in_default.not-Finite)
