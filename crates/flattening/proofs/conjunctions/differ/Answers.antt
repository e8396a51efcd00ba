use Rattle.std.proofs.Common.{◌∙◌}
use Rattle.flattening.proofs.Norms.{norm_rolled, none_made}
use Rattle.flattening.proofs.ByForm.{normal_built}
use Rattle.flattening.proofs.conjunctions.differ.Goals as goal

pub returns : goal.returns
returns c =
    norm_rolled _ _ _ ∙ normal_built _ _ _ _ _ _ _ _ c.in_ok-after.ensures.after c.new-basic.ensures c.in_ok-after.ensures.atoms (none_made _ c.new.ensures)
