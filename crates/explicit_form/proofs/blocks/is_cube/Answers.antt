use Rattle.explicit_form.proofs.Deciding.{cube_from, cube_shaped, cube_blocks}
use Rattle.explicit_form.proofs.Truth.{it_is, it_is_not, fails_by, with_first}
use Rattle.explicit_form.proofs.blocks.is_cube.Goals as goal

pub returns-then-is_shaped : goal.returns-then-is_shaped
returns-then-is_shaped c =
    with_first c.are_blocks.result c.are_blocks.ensures (it_is c.is_shaped.result c.is_shaped.ensures c.if-is_shaped.true)
    (λ h. cube_from c.args.free _ h.0 h.1, λ cube. (cube_shaped c.args.free _ cube, cube_blocks c.args.free _ cube))

pub returns-else-is_shaped : goal.returns-else-is_shaped
returns-else-is_shaped c =
    fails_by c.is_shaped.result (λ cube. it_is_not c.is_shaped.result c.is_shaped.ensures c.if-is_shaped.false (cube_shaped c.args.free _ cube)) c.if-is_shaped.false
