use Rattle.witness_trees.proofs.Nothing.{nothing_reduced, nothing_used}
use Rattle.witness_trees.proofs.tests.empty.Goals as goal

pub returns-clause-reduced : goal.returns-clause-reduced
returns-clause-reduced c = nothing_reduced c.args.free c.new.result c.new-2.result c.new.ensures c.new-2.ensures

pub returns-clause-bare : goal.returns-clause-bare
returns-clause-bare c = nothing_used c.args.free c.new.result c.new-2.result c.new.ensures c.new-2.ensures
