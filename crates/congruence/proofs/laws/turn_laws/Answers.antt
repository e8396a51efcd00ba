use Rattle.congruence.proofs.OneMerge.{merge_leads_on}
use Rattle.congruence.proofs.laws.turn_laws.Goals as goal

pub returns : goal.returns
returns c = record { merge = merge_leads_on }
