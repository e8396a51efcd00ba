use Rattle.congruence.proofs.Merged.{merge_keeps, agenda_moves, alike_sound}
use Rattle.congruence.proofs.laws.merge_laws.Goals as goal

pub returns-clause-merge : goal.returns-clause-merge
returns-clause-merge c = merge_keeps

pub returns-clause-moves : goal.returns-clause-moves
returns-clause-moves c = agenda_moves

pub returns-clause-alike : goal.returns-clause-alike
returns-clause-alike c = alike_sound
