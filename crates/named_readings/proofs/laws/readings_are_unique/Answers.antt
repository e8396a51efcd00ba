use Rattle.named_readings.proofs.Again.{reads_once}
use Rattle.named_readings.proofs.laws.readings_are_unique.Goals as goal

pub returns : goal.returns
returns c = reads_once
