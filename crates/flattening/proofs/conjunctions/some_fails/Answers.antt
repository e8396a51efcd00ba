use Rattle.std.proofs.Common.{[], ap, ◌∙◌}
use Rattle.flat_form.specs.Normals.{join, norm, also, none, norm_of}
use Rattle.flattening.proofs.Norms.{pushed}
use Rattle.flattening.proofs.conjunctions.some_fails.Goals as goal

pub returns : goal.returns
returns c =
    c.none_of.ensures
    ∙ ap (norm 0 []) (pushed _ _ _ c.in_ok-push.ensures.ok ∙ ap (λ ps. join ps (also (norm_of c.args.second) none)) c.in_ok-parts.ensures)
