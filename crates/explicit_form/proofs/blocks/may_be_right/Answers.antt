use Rattle.explicit_form.proofs.Truth.{it_is_not, with_either, with_other}
use Rattle.explicit_form.proofs.blocks.may_be_right.Goals as goal

pub returns-then-is_smaller : goal.returns-then-is_smaller
returns-then-is_smaller c = with_either c.is_smaller.result c.is_smaller.ensures c.if-is_smaller.true (λ h. h, λ h. h)

pub returns-else-is_smaller : goal.returns-else-is_smaller
returns-else-is_smaller c = with_other c.has_left.result c.has_left.ensures (it_is_not c.is_smaller.result c.is_smaller.ensures c.if-is_smaller.false) (λ h. h, λ h. h)
