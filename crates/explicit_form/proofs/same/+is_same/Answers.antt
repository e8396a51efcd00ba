use Rattle.std.proofs.Common.{sym, ◌∙◌}
use Rattle.explicit_form.proofs.Arms.{form_and, form_exists, form_no, form_equal, form_differ, form_finite}
use Rattle.explicit_form.proofs.Equal.{same_and, differ_and, same_exists, differ_exists, same_no, same_equal, differ_equal, same_differ, differ_differ, same_finite}
use Rattle.explicit_form.proofs.Layers.{not_simple, not_and, not_exists, not_no, not_equal, not_differ, not_finite}
use Rattle.explicit_form.proofs.Truth.{nope, fails_by}
use Rattle.std.proofs.lemmas.Bool.{ne_eqb}
use Rattle.explicit_form.proofs.same.+is_same.Goals as goal

pub returns-then-is_same : goal.returns-then-is_same
returns-then-is_same t c =
    same_and c.args.f.now c.args.g.now c.in-And.h c.in-And.k c.in-And-g.l c.in-And-g.m c.in-And.is c.in-And-g.is c.is_same.result c.is_same-then-is_same.result
    (rw (c.get.ensures, c.get-in-And-g.ensures) at c.is_same.ensures) (rw (c.get-then-is_same.ensures, c.get-then-is_same-2.ensures) at c.is_same-then-is_same.ensures) c.if-is_same.true

pub returns-else-is_same : goal.returns-else-is_same
returns-else-is_same t c =
    differ_and c.args.f.now c.args.g.now c.in-And.h c.in-And.k c.in-And-g.l c.in-And-g.m c.in-And.is c.in-And-g.is c.is_same.result
    (rw (c.get.ensures, c.get-in-And-g.ensures) at c.is_same.ensures) c.if-is_same.false

pub returns-in_default-g : goal.returns-in_default-g
returns-in_default-g t c = λ left right. nope (λ e. not_and c.args.g.now c.in_default-g.not-And _ _ (sym e ∙ form_and c.args.f.now c.in-And.h c.in-And.k c.in-And.is))

pub returns-then-x-y : goal.returns-then-x-y
returns-then-x-y t c =
    same_exists c.args.f.now c.args.g.now c.in-Exists.x c.in-Exists-g.y c.in-Exists.h c.in-Exists-g.k c.in-Exists.is c.in-Exists-g.is c.is_same-then-x-y.result
    (rw (c.get-then-x-y.ensures, c.get-then-x-y-2.ensures) at c.is_same-then-x-y.ensures) c.if-x-y.true

pub returns-else-x-y : goal.returns-else-x-y
returns-else-x-y t c = λ left right.
    fails_by _ (differ_exists c.args.f.now c.args.g.now c.in-Exists.x c.in-Exists-g.y c.in-Exists.h c.in-Exists-g.k c.in-Exists.is c.in-Exists-g.is c.if-x-y.false)
    (ne_eqb c.in-Exists.x c.in-Exists-g.y c.if-x-y.false)

pub returns-in_default-g-2 : goal.returns-in_default-g-2
returns-in_default-g-2 t c = λ left right. nope (λ e. not_exists c.args.g.now c.in_default-g-2.not-Exists _ _ (sym e ∙ form_exists c.args.f.now c.in-Exists.x c.in-Exists.h c.in-Exists.is))

pub returns-in-Not-g : goal.returns-in-Not-g
returns-in-Not-g t c =
    same_no c.args.f.now c.args.g.now c.in-Not.h c.in-Not-g.k c.in-Not.is c.in-Not-g.is c.is_same-in-Not-g.result
    (rw (c.get-in-Not-g.ensures, c.get-in-Not-g-2.ensures) at c.is_same-in-Not-g.ensures)

pub returns-in_default-g-3 : goal.returns-in_default-g-3
returns-in_default-g-3 t c = λ left right. nope (λ e. not_no c.args.g.now c.in_default-g-3.not-Not _ (sym e ∙ form_no c.args.f.now c.in-Not.h c.in-Not.is))

pub returns-then-is_same_term : goal.returns-then-is_same_term
returns-then-is_same_term t c =
    same_equal c.args.f.now c.args.g.now c.in-Eq.t c.in-Eq.s c.in-Eq-g.u c.in-Eq-g.r c.in-Eq.is c.in-Eq-g.is c.is_same_term.result c.is_same_term-then-is_same_term.result
    c.is_same_term.ensures c.is_same_term-then-is_same_term.ensures c.if-is_same_term.true

pub returns-else-is_same_term : goal.returns-else-is_same_term
returns-else-is_same_term t c =
    differ_equal c.args.f.now c.args.g.now c.in-Eq.t c.in-Eq.s c.in-Eq-g.u c.in-Eq-g.r c.in-Eq.is c.in-Eq-g.is c.is_same_term.result c.is_same_term.ensures c.if-is_same_term.false

pub returns-in_default-g-4 : goal.returns-in_default-g-4
returns-in_default-g-4 t c = λ left right. nope (λ e. not_equal c.args.g.now c.in_default-g-4.not-Eq _ _ (sym e ∙ form_equal c.args.f.now c.in-Eq.t c.in-Eq.s c.in-Eq.is))

pub returns-then-is_same_term-2 : goal.returns-then-is_same_term-2
returns-then-is_same_term-2 t c =
    same_differ c.args.f.now c.args.g.now c.in-Differ.t c.in-Differ.s c.in-Differ-g.u c.in-Differ-g.r c.in-Differ.is c.in-Differ-g.is c.is_same_term-in-Differ-g.result c.is_same_term-then-is_same_term-2.result
    c.is_same_term-in-Differ-g.ensures c.is_same_term-then-is_same_term-2.ensures c.if-is_same_term-2.true

pub returns-else-is_same_term-2 : goal.returns-else-is_same_term-2
returns-else-is_same_term-2 t c =
    differ_differ c.args.f.now c.args.g.now c.in-Differ.t c.in-Differ.s c.in-Differ-g.u c.in-Differ-g.r c.in-Differ.is c.in-Differ-g.is c.is_same_term-in-Differ-g.result c.is_same_term-in-Differ-g.ensures c.if-is_same_term-2.false

pub returns-in_default-g-5 : goal.returns-in_default-g-5
returns-in_default-g-5 t c = λ left right. nope (λ e. not_differ c.args.g.now c.in_default-g-5.not-Differ _ _ (sym e ∙ form_differ c.args.f.now c.in-Differ.t c.in-Differ.s c.in-Differ.is))

pub returns-in-Finite-g : goal.returns-in-Finite-g
returns-in-Finite-g t c =
    same_finite c.args.f.now c.args.g.now c.in-Finite.t c.in-Finite-g.u c.in-Finite.is c.in-Finite-g.is c.is_same_term-in-Finite-g.result c.is_same_term-in-Finite-g.ensures

pub returns-in_default-g-6 : goal.returns-in_default-g-6
returns-in_default-g-6 t c = λ left right. nope (λ e. not_finite c.args.g.now c.in_default-g-6.not-Finite _ (sym e ∙ form_finite c.args.f.now c.in-Finite.t c.in-Finite.is))

pub returns-in_default : goal.returns-in_default
returns-in_default t c = λ left right.
    absurd (not_simple c.args.f.now c.in_default.not-And c.in_default.not-Exists c.in_default.not-Not c.in_default.not-Eq c.in_default.not-Differ c.in_default.not-Finite left)
