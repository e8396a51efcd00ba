use Rattle.flat_facts.proofs.Follows.{added_follows}
use Rattle.flat_facts.proofs.FiniteReached.{added_suffices}
use Rattle.flat_facts.proofs.Solutions.{nothing_where_implied}
use Rattle.flat_facts.proofs.Existence.{something_added}
use Rattle.flat_facts.proofs.Shapes.{added_determined}
use Rattle.flat_facts.proofs.Shapes.{added_is_apart}
use Rattle.flat_facts.proofs.Follows.{added_over}
use Rattle.flat_facts.proofs.Follows.{added_fits}
use Rattle.flat_facts.proofs.Symbols.{added_symbols}
use Rattle.flat_facts.proofs.laws.added_laws.Goals as goal

pub returns-clause-follows : goal.returns-clause-follows
returns-clause-follows c = added_follows

pub returns-clause-suffices : goal.returns-clause-suffices
returns-clause-suffices c = added_suffices

pub returns-clause-nothing : goal.returns-clause-nothing
returns-clause-nothing c = nothing_where_implied

pub returns-clause-something : goal.returns-clause-something
returns-clause-something c = something_added

pub returns-clause-determined : goal.returns-clause-determined
returns-clause-determined c = added_determined

pub returns-clause-apart : goal.returns-clause-apart
returns-clause-apart c = added_is_apart

pub returns-clause-over : goal.returns-clause-over
returns-clause-over c = added_over

pub returns-clause-fits : goal.returns-clause-fits
returns-clause-fits c = added_fits

pub returns-clause-symbols : goal.returns-clause-symbols
returns-clause-symbols c = added_symbols
