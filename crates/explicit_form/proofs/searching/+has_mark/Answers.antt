use Rattle.std.proofs.Common.{◌≡◌}
use Rattle.flat_form.specs.declared.atom.Flat.TheVariants.{Finite}
use Rattle.explicit_form.proofs.Sides.{no_mark, equal_test, mark_test, contains_is}
use Rattle.explicit_form.proofs.Arms.{in_left, in_right, in_body, in_equation, in_mark, nowhere}
use Rattle.explicit_form.proofs.Truth.{holds_by, nope, along, turned, it_is, it_is_not}
use Rattle.explicit_form.proofs.searching.+has_mark.Goals as goal

pub returns-then-has_mark : goal.returns-then-has_mark
returns-then-has_mark t c =
    holds_by c.has_mark.result ((contains_is _ _).0 (in_left (λ atom. atom ≡ Finite c.args.v) c.args.f.now c.get.result.now c.in-And.h (rw c.get.ensures c.in-And.is)
    ((contains_is _ _).1 (it_is c.has_mark.result c.has_mark.ensures c.if-has_mark.true)))) c.if-has_mark.true

pub returns-else-has_mark : goal.returns-else-has_mark
returns-else-has_mark t c =
    along _ (along _ (along c.has_mark-else-has_mark.result c.has_mark-else-has_mark.ensures (turned (contains_is _ _)))
    (in_right (λ atom. atom ≡ Finite c.args.v) c.args.f.now c.get.result.now c.get-else-has_mark.result.now (rw (c.get.ensures, c.get-else-has_mark.ensures) c.in-And.is)
    (λ there. it_is_not c.has_mark.result c.has_mark.ensures c.if-has_mark.false ((contains_is _ _).0 there)))) (contains_is _ _)

pub returns-in-Exists : goal.returns-in-Exists
returns-in-Exists t c =
    along _ (along _ (along c.has_mark-in-Exists.result c.has_mark-in-Exists.ensures (turned (contains_is _ _)))
    (in_body (λ atom. atom ≡ Finite c.args.v) c.args.f.now c.in-Exists.field-0 c.get-in-Exists.result.now (rw c.get-in-Exists.ensures c.in-Exists.is))) (contains_is _ _)

pub returns-in-Eq : goal.returns-in-Eq
returns-in-Eq t c = nope (λ there. no_mark _ _ c.args.v ((in_equation (λ atom. atom ≡ Finite c.args.v) c.args.f.now _ _ c.in-Eq.is).1 ((contains_is _ _).1 there)))

pub returns-in-Finite : goal.returns-in-Finite
returns-in-Finite t c =
    along _ (along _ (along _ (equal_test c.variable_in.result c.args.v _ c.variable_in.ensures) (mark_test _ c.args.v))
    (in_mark (λ atom. atom ≡ Finite c.args.v) c.args.f.now c.in-Finite.t c.in-Finite.is)) (contains_is _ _)

pub returns-in_default : goal.returns-in_default
returns-in_default t c =
    nope (λ there. nowhere (λ atom. atom ≡ Finite c.args.v) c.args.f.now c.in_default.not-And c.in_default.not-Exists c.in_default.not-Eq c.in_default.not-Finite ((contains_is _ _).1 there))
