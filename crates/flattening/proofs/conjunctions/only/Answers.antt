use Rattle.std.proofs.Common.{ap, ◌∙◌}
use Rattle.flat_form.specs.Normals.{join, also, none, norm_of}
use Rattle.flattening.proofs.Norms.{pushed, none_made}
use Rattle.flattening.proofs.conjunctions.only.Goals as goal

pub returns : goal.returns
returns c = pushed _ _ _ c.in_ok-push.ensures.ok ∙ ap (λ ps. join ps (also (norm_of c.args.part) none)) (none_made _ c.new-parts.ensures)
