use Rattle.tree_facts.proofs.NoRound.{none_comes_round}
use Rattle.tree_facts.proofs.laws.no_round_law.Goals as goal

pub returns : goal.returns
returns g c = record { finite = none_comes_round g.S.Steps.Good g.S.Steps.Leads }
