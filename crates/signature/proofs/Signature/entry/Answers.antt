use Rattle.std.proofs.Common.{◌∙◌}
use Rattle.signature.proofs.Standing.{declared_kept}
use Rattle.signature.proofs.Signature.entry.Goals as goal

pub returns : goal.returns
returns c = rw (← c.self.view_is) (declared_kept _ c.args.place ∙ c.index.ensures)
