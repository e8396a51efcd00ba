use Rattle.tree_model.specs.Signatures.{Signature}
use Rattle.formula_reader.proofs.Rooms.{room}
use Rattle.formula_reader.proofs.StatementReading.{ReadsSome}
use Rattle.formula_reader.proofs.reader.Reader.parameters.Given as goal

abbrev pub invariant-more : goal.invariant-more
invariant-more l = record { reads : (σ : Signature) → ReadsSome σ l.fn.self l.self }

abbrev pub decreases-more : goal.decreases-more
decreases-more l = room l.self
