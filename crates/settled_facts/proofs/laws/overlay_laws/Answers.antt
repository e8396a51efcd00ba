use Rattle.settled_facts.proofs.Overlays.{overlay_reads, term_taken_back, mark_taken_back, join_taken_back, head_touched}
use Rattle.settled_facts.proofs.laws.overlay_laws.Goals as goal

pub returns-clause-reads : goal.returns-clause-reads
returns-clause-reads c = overlay_reads

pub returns-clause-term : goal.returns-clause-term
returns-clause-term c = term_taken_back

pub returns-clause-mark : goal.returns-clause-mark
returns-clause-mark c = mark_taken_back

pub returns-clause-join : goal.returns-clause-join
returns-clause-join c = join_taken_back

pub returns-clause-heads : goal.returns-clause-heads
returns-clause-heads c = head_touched
