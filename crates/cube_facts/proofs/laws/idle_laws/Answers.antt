use Rattle.cube_facts.proofs.Idle.{idle_may_go}
use Rattle.cube_facts.proofs.laws.idle_laws.Goals as goal

pub returns : goal.returns
returns c = idle_may_go
