use Rattle.settled_facts.proofs.Changing.{join_renames, change_shape, change_later, later_later, untouched_unchanged, unchanged_unchanged, touched_root}
use Rattle.settled_facts.proofs.FreeStays.{free_stay_unless_taken}
use Rattle.settled_facts.proofs.laws.change_laws.Goals as goal

pub returns-clause-names : goal.returns-clause-names
returns-clause-names c = join_renames

pub returns-clause-shape : goal.returns-clause-shape
returns-clause-shape c = change_shape

pub returns-clause-later : goal.returns-clause-later
returns-clause-later c = change_later

pub returns-clause-later_yet : goal.returns-clause-later_yet
returns-clause-later_yet c = later_later

pub returns-clause-untouched : goal.returns-clause-untouched
returns-clause-untouched c = untouched_unchanged

pub returns-clause-unchanged_yet : goal.returns-clause-unchanged_yet
returns-clause-unchanged_yet c = unchanged_unchanged

pub returns-clause-roots : goal.returns-clause-roots
returns-clause-roots c = touched_root

pub returns-clause-free : goal.returns-clause-free
returns-clause-free c = free_stay_unless_taken
