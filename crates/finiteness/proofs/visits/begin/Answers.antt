use Rattle.std.proofs.Common.{nat_eq, ◌∙◌}
use Rattle.indexmap.proofs.CallerLemmas.{insert_entry-new}
use Rattle.finiteness.specs.declared.visits.Stage.TheVariants.{Open}
use Rattle.finiteness.proofs.visits.begin.Goals as goal

pub returns-clause-begun : goal.returns-clause-begun
returns-clause-begun c = c.in_ok-insert.ensures.entries ∙ insert_entry-new nat_eq c.args.visits.now c.args.class Open c.requires
