use Rattle.explicit_form.proofs.Fitting.{apart_and, apart_body, apart_equation, apart_mark, apart_none}
use Rattle.explicit_form.proofs.Truth.{yes, nope, along, it_is, it_is_not, with_first, without_first}
use Rattle.explicit_form.proofs.blocks.+all_apart.Goals as goal

pub returns-then-all_apart : goal.returns-then-all_apart
returns-then-all_apart t c =
    with_first c.all_apart-then-all_apart.result
    (with_first c.all_apart-then-all_apart.result (rw c.get-then-all_apart.ensures at c.all_apart-then-all_apart.ensures)
    (it_is c.all_apart.result (rw c.get-then-are_apart.ensures at c.all_apart.ensures) c.if-all_apart.true) (λ h. h, λ h. h))
    (it_is c.are_apart.result (rw (c.get.ensures, c.get-in-And.ensures) at c.are_apart.ensures) c.if-are_apart.true)
    (apart_and c.args.f.now c.in-And.g c.in-And.h c.in-And.is)

pub returns-else-all_apart : goal.returns-else-all_apart
returns-else-all_apart t c =
    with_first c.all_apart.result
    (without_first c.all_apart.result (rw c.get-then-are_apart.ensures at c.all_apart.ensures) c.if-all_apart.false (λ h. h, λ h. h))
    (it_is c.are_apart.result (rw (c.get.ensures, c.get-in-And.ensures) at c.are_apart.ensures) c.if-are_apart.true)
    (apart_and c.args.f.now c.in-And.g c.in-And.h c.in-And.is)

pub returns-else-are_apart : goal.returns-else-are_apart
returns-else-are_apart t c =
    nope (λ all. it_is_not c.are_apart.result (rw (c.get.ensures, c.get-in-And.ensures) at c.are_apart.ensures) c.if-are_apart.false
    ((apart_and c.args.f.now c.in-And.g c.in-And.h c.in-And.is).1 all).0)

pub returns-in-Exists : goal.returns-in-Exists
returns-in-Exists t c =
    along c.all_apart-in-Exists.result c.all_apart-in-Exists.ensures
    (apart_body c.args.f.now c.in-Exists.field-0 c.get-in-Exists.result.now (rw c.get-in-Exists.ensures c.in-Exists.is))

pub returns-in-Eq : goal.returns-in-Eq
returns-in-Eq t c = yes (apart_equation c.args.f.now _ _ c.in-Eq.is)

pub returns-in-Finite : goal.returns-in-Finite
returns-in-Finite t c = yes (apart_mark c.args.f.now _ c.in-Finite.is)

pub returns-in_default : goal.returns-in_default
returns-in_default t c = yes (apart_none c.args.f.now c.in_default.not-And c.in_default.not-Exists c.in_default.not-Eq c.in_default.not-Finite)
