use Rattle.congruence.proofs.Ending.{marks_underway, marks_firm, settles_again}
use Rattle.congruence.proofs.laws.end_laws.Goals as goal

pub returns-clause-marks : goal.returns-clause-marks
returns-clause-marks c = marks_underway

pub returns-clause-firm : goal.returns-clause-firm
returns-clause-firm c = marks_firm

pub returns-clause-settles : goal.returns-clause-settles
returns-clause-settles c = settles_again
