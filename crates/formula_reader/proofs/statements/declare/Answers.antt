use Rattle.std.proofs.Common.{Err, ap, subst}
use Rattle.tree_model.specs.Signatures.{Signature}
use Rattle.signature.specs.Names.{HasDistinctNames}
use Rattle.formula_reader.proofs.Declaring.{stands_nowhere}
use Rattle.formula_reader.proofs.statements.declare.Goals as goal

pub unreachable-requires : goal.unreachable-requires
unreachable-requires c =
    stands_nowhere _ _ c.in-Err-Twice.field-0-0
    (subst (λ (σ : Signature). HasDistinctNames σ) c.in-Err-Twice.ensures.unchanged c.in-Err-Twice.ensures.distinct)
    c.requires ((c.in-Err-Twice.ensures.twice c.in-Err-Twice.field-0-0).0 (ap Err c.in-Err-Twice.field-0-is))
