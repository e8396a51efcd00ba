use Rattle.witness_trees.proofs.Labelled.{open_finite, open_none}
use Rattle.witness_trees.proofs.indexes.is_open.Goals as goal

pub returns-in-Some-Finite : goal.returns-in-Some-Finite
returns-in-Some-Finite c =
    open_finite c.args.atoms.now c.requires.ascending c.args.v c.in-Some-Finite.field-0.now c.in-Some-Finite.field-0-0 c.in-Some-Finite.field-0-is c.in-Some-Finite.ensures

pub returns-in-None : goal.returns-in-None
returns-in-None c = open_none c.args.atoms.now c.requires.ascending c.args.v c.in-None.ensures
