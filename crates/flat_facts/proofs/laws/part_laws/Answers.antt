use Rattle.flat_facts.proofs.PartShapes.{added_loose}
use Rattle.flat_facts.proofs.Pruned.{pruned_fails}
use Rattle.flat_facts.proofs.PartShapes.{pruned_part_over}
use Rattle.flat_facts.proofs.Moved.{fails_with_moved}
use Rattle.flat_facts.proofs.Moved.{fails_when_filled}
use Rattle.flat_facts.proofs.Renumbered.{renumbered_part_fails}
use Rattle.flat_facts.proofs.laws.part_laws.Goals as goal

pub returns-clause-loose : goal.returns-clause-loose
returns-clause-loose c = added_loose

pub returns-clause-pruned : goal.returns-clause-pruned
returns-clause-pruned c = pruned_fails

pub returns-clause-shape : goal.returns-clause-shape
returns-clause-shape c = pruned_part_over

pub returns-clause-moved : goal.returns-clause-moved
returns-clause-moved c = fails_with_moved

pub returns-clause-filled : goal.returns-clause-filled
returns-clause-filled c = fails_when_filled

pub returns-clause-renumbered : goal.returns-clause-renumbered
returns-clause-renumbered c = renumbered_part_fails
