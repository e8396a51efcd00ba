use Rattle.witness_trees.proofs.tests.a_cube_that_says_nothing_has_loops.Goals as goal

pub witness-requires-clause-used : goal.witness-requires-clause-used
witness-requires-clause-used g c = c.empty-cube.ensures.bare _
