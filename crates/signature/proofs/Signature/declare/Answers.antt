use Rattle.std.proofs.Common.{ℕ, sym, ap, ◌∙◌}
use Rattle.std.proofs.lemmas.Option.{none-some}
use Rattle.signature.specs.Names.{StandsAt}
use Rattle.signature.specs.Kept.{signature_of}
use Rattle.signature.proofs.Standing.{distinct_kept, kept_last}
use Rattle.signature.proofs.Signature.declare.Goals as goal

pub returns-clause-last : goal.returns-clause-last
returns-clause-last c =
    let absent : (place : ℕ) → ¬ StandsAt c.args.self.now c.args.name.now place = λ place stands. none-some _ (sym c.in_default.is ∙ (c.find.ensures.stands place).1 stands) in
    let kept : (place : ℕ) → ¬ StandsAt (signature_of c.self.inside.entries.entries) c.in-Ok.key.bytes.items place = rw (c.self.view_is, c.in-Ok.ensures.ok) absent in
    ap signature_of c.in-Ok-insert.ensures.entries ∙ kept_last _ c.in-Ok.key _ kept ∙ rw (c.self.view_is, c.in-Ok.ensures.ok)

pub returns-clause-distinct : goal.returns-clause-distinct
returns-clause-distinct c = distinct_kept _ c.insert.ensures.unique
