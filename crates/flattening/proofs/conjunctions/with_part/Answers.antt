use Rattle.std.proofs.Common.{◌∙◌}
use Rattle.flattening.proofs.Norms.{pushed, norm_rolled}
use Rattle.flattening.proofs.ByForm.{more_by_fields}
use Rattle.flattening.proofs.conjunctions.with_part.Goals as goal

pub returns : goal.returns
returns c = norm_rolled _ _ _ ∙ more_by_fields c.args.normal _ _ (pushed _ _ _ c.in_ok-push.ensures.ok)
