use Rattle.std.proofs.Common.{ap₂, ◌≡◌, ◌∙◌}
use Rattle.std.proofs.lemmas.Result.{IfOk-weaker}
use Rattle.clap.specs.Simple.{app_of, new_app, with_rule}
use Rattle.command_words.specs.Words.{command, program, file_rule, game_rule}
use Rattle.command_words.proofs.reading.command.Goals as goal

pub returns : goal.returns
unfolding command
returns c =
    let with_file_is : app_of c.in_ok-with_file.with_file ≡ with_rule (new_app program) file_rule =
    c.in_ok-with_file.ensures.shape c.file_argument.ensures.own ∙ ap₂ with_rule c.new.ensures.app c.file_argument.ensures.rule in
    let with_game_is : app_of c.in_ok-with_game.with_game ≡ with_rule (with_rule (new_app program) file_rule) game_rule =
    c.in_ok-with_game.ensures.shape c.game_argument.ensures.own ∙ ap₂ with_rule with_file_is c.game_argument.ensures.rule in
    IfOk-weaker c.arg-3.result _ _
    (λ made h. h.shape c.self_argument.ensures.own ∙ ap₂ with_rule with_game_is c.self_argument.ensures.rule) c.arg-3.ensures
