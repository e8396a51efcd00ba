use Rattle.cube_reduction.proofs.Lasting.{after_shape}
use Rattle.cube_reduction.proofs.fates.settled_again.Goals as goal

pub settled-requires-clause-part : goal.settled-requires-clause-part
settled-requires-clause-part c =
    (after_shape c.args.over.now.count c.args.over.now.base c.args.part.now c.args.first c.requires.solved c.requires.base c.requires.part c.requires.first).over
