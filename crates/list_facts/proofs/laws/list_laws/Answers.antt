use Rattle.list_facts.proofs.Takes.{steps_mean_all}
use Rattle.list_facts.proofs.Lists.{or_means}
use Rattle.list_facts.proofs.Plain.{and_means_all, exists_means_all, not_means_all, joined_lists_mean_all, closed_means_all, plain_means_all, closed_is_fixed}
use Rattle.list_facts.proofs.laws.list_laws.Goals as goal

pub returns-clause-steps : goal.returns-clause-steps
returns-clause-steps c = steps_mean_all

pub returns-clause-and : goal.returns-clause-and
returns-clause-and c = and_means_all

pub returns-clause-or : goal.returns-clause-or
returns-clause-or c = or_means

pub returns-clause-exists : goal.returns-clause-exists
returns-clause-exists c = exists_means_all

pub returns-clause-not : goal.returns-clause-not
returns-clause-not c = not_means_all

pub returns-clause-joined : goal.returns-clause-joined
returns-clause-joined c = joined_lists_mean_all

pub returns-clause-closed : goal.returns-clause-closed
returns-clause-closed c = closed_means_all

pub returns-clause-plain : goal.returns-clause-plain
returns-clause-plain c = plain_means_all

pub returns-clause-fixed : goal.returns-clause-fixed
returns-clause-fixed c = closed_is_fixed
