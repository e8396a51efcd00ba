use Rattle.std.proofs.lemmas.Result.{IfOk-weaker}
use Rattle.witness_trees.proofs.Table.{fresh_table}
use Rattle.witness_trees.proofs.Holds.{root_count, holds_under_fresh}
use Rattle.witness_trees.proofs.assigning.witness.Goals as goal

pub returns-clause-roots : goal.returns-clause-roots
returns-clause-roots c = IfOk-weaker c.assigned.result _ _ (λ a fresh. root_count c.args.c.now c.args.used.now a fresh) c.assigned.ensures

pub returns-clause-fits : goal.returns-clause-fits
returns-clause-fits c =
    IfOk-weaker c.assigned.result _ _ (λ a fresh σ fits. fresh_table.fits σ c.args.c.now c.args.used.now a fits fresh) c.assigned.ensures

pub returns-clause-holds : goal.returns-clause-holds
returns-clause-holds c =
    IfOk-weaker c.assigned.result _ _
    (λ a fresh σ e fits trees. holds_under_fresh σ c.args.c.now c.args.used.now a e c.requires.reduced c.requires.used fits fresh trees) c.assigned.ensures
