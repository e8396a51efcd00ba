use Rattle.std.proofs.Common.{◌++◌, ◌∷◌, [], ap, ◌∙◌}
use Rattle.game_library.proofs.OverTwo.{applied_over}
use Rattle.game_library.proofs.tests.games.applied.Goals as goal

pub returns : goal.returns
returns c = λ σ over. applied_over σ 0 _ c.args.t (c.in_ok-push.ensures.ok ∙ ap (λ l. l ++ c.args.t ∷ []) c.new-terms.ensures) over
