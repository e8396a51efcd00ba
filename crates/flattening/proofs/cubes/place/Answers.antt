use Rattle.std.proofs.Common.{sym, ◌∙◌, arith}
use Rattle.std.proofs.lemmas.Option.{get_or_from_slice_get}
use Rattle.flattening.proofs.CubesMean.{placed_below}
use Rattle.flattening.proofs.cubes.place.Goals as goal

pub returns-then-variable-len : goal.returns-then-variable-len
returns-then-variable-len c =
    sym (get_or_from_slice_get c.args.args.now c.args.variable c.get.result.now 0 c.get.ensures)
    ∙ sym (placed_below c.args.args.now c.args.scope c.args.variable (omega arith))
