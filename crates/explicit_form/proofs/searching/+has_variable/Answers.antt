use Rattle.std.proofs.Common.{◌≡◌, sym, ◌∙◌}
use Rattle.flat_form.specs.Solved.{variable_of}
use Rattle.explicit_form.proofs.Sides.{variable_is, equal_test}
use Rattle.explicit_form.proofs.Arms.{in_left, in_right, in_body, in_equation, in_mark, nowhere}
use Rattle.explicit_form.proofs.Truth.{holds_by, nope, along, it_is, it_is_not}
use Rattle.explicit_form.proofs.searching.+has_variable.Goals as goal

pub returns-then-has_variable : goal.returns-then-has_variable
returns-then-has_variable t c =
    holds_by c.has_variable.result (in_left (λ atom. variable_of atom ≡ c.args.v) c.args.f.now c.get.result.now c.in-And.h (rw c.get.ensures c.in-And.is) (it_is c.has_variable.result c.has_variable.ensures c.if-has_variable.true)) c.if-has_variable.true

pub returns-else-has_variable : goal.returns-else-has_variable
returns-else-has_variable t c =
    along c.has_variable-else-has_variable.result c.has_variable-else-has_variable.ensures
    (in_right (λ atom. variable_of atom ≡ c.args.v) c.args.f.now c.get.result.now c.get-else-has_variable.result.now (rw (c.get.ensures, c.get-else-has_variable.ensures) c.in-And.is)
    (it_is_not c.has_variable.result c.has_variable.ensures c.if-has_variable.false))

pub returns-in-Exists : goal.returns-in-Exists
returns-in-Exists t c =
    along c.has_variable-in-Exists.result c.has_variable-in-Exists.ensures (in_body (λ atom. variable_of atom ≡ c.args.v) c.args.f.now c.in-Exists.field-0 c.get-in-Exists.result.now (rw c.get-in-Exists.ensures c.in-Exists.is))

pub returns-in-Eq : goal.returns-in-Eq
returns-in-Eq t c =
    along _ (along _ (equal_test c.variable_in.result c.args.v _ c.variable_in.ensures) (λ e. variable_is _ _ ∙ e, λ e. sym (variable_is _ _) ∙ e)) (in_equation (λ atom. variable_of atom ≡ c.args.v) c.args.f.now c.in-Eq.t _ c.in-Eq.is)

pub returns-in-Finite : goal.returns-in-Finite
returns-in-Finite t c = along _ (equal_test c.variable_in-in-Finite.result c.args.v _ c.variable_in-in-Finite.ensures) (in_mark (λ atom. variable_of atom ≡ c.args.v) c.args.f.now c.in-Finite.t c.in-Finite.is)

pub returns-in_default : goal.returns-in_default
returns-in_default t c = nope (nowhere (λ atom. variable_of atom ≡ c.args.v) c.args.f.now c.in_default.not-And c.in_default.not-Exists c.in_default.not-Eq c.in_default.not-Finite)
