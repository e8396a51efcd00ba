use Rattle.std.proofs.Common.{refl}
use Rattle.explicit_form.proofs.Fitting.{over_nothing}
use Rattle.explicit_form.proofs.Truth.{along}
use Rattle.explicit_form.proofs.blocks.is_block_alone.Goals as goal

pub returns : goal.returns
returns c = along c.is_block.result c.is_block.ensures (over_nothing c.args.free _ _ _ refl)
