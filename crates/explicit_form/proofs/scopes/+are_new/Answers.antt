use Rattle.explicit_form.proofs.Binding.{new_exists, new_none}
use Rattle.explicit_form.proofs.Truth.{yes, it_is, with_first, without_first}
use Rattle.explicit_form.proofs.scopes.+are_new.Goals as goal

pub returns-then-is_first : goal.returns-then-is_first
returns-then-is_first t c =
    with_first c.are_new.result (rw c.get-then-is_first.ensures at c.are_new.ensures) (it_is c.is_first.result (rw c.get.ensures at c.is_first.ensures) c.if-is_first.true)
    (new_exists c.args.free _ c.args.inner.now c.in-Exists.x c.in-Exists.g c.in-Exists.is)

pub returns-else-is_first : goal.returns-else-is_first
returns-else-is_first t c =
    without_first c.is_first.result (rw c.get.ensures at c.is_first.ensures) c.if-is_first.false (new_exists c.args.free _ c.args.inner.now c.in-Exists.x c.in-Exists.g c.in-Exists.is)

pub returns-in_default : goal.returns-in_default
returns-in_default t c = yes (new_none c.args.free _ c.args.inner.now c.in_default.not-Exists)
