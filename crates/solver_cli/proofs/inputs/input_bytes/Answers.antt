use Rattle.std.proofs.Common.{◌≡◌, ◌≤◌, sym, ◌∙◌, ap, subst, IfOk}
use Rattle.std.proofs.lemmas.Result.{IfOk-weaker}
use Rattle.command_words.specs.Words as words
use Rattle.command_words.specs.Words.{Input, said, IsKnown}
use Rattle.stored_games.specs.Games.{game_names}
use Rattle.solver_cli.proofs.FileRead.{Takes, takes_game, takes_generated}
use Rattle.solver_cli.proofs.inputs.input_bytes.Goals as goal

pub returns-in-File-clause-all : goal.returns-in-File-clause-all
returns-in-File-clause-all g c =
    let input_is : said c.args.input.now ≡ words.file c.as_str.result.now = ap said c.in-File.is ∙ ap words.file (sym c.as_str.ensures.value) in
    subst (λ (input : Input). IfOk c.read_named.result (λ bytes. Takes g.S.Source.opens g.S.Source.reads g.S.Source.left g.S.Source.files input c.args.source.now c.read_named.new.source bytes.items)) (sym input_is) c.read_named.ensures.all

pub returns-in-Game-clause-all : goal.returns-in-Game-clause-all
returns-in-Game-clause-all g c =
    let input_is : said c.args.input.now ≡ words.game c.as_str-in-Game.result.now = ap said c.in-Game.is ∙ ap words.game (sym c.as_str-in-Game.ensures.value) in
    subst (λ (input : Input). IfOk c.game_bytes.result (λ bytes. Takes g.S.Source.opens g.S.Source.reads g.S.Source.left g.S.Source.files input c.args.source.now c.args.source.now bytes.items)) (sym input_is)
    (IfOk-weaker c.game_bytes.result _ _ (λ bytes is. takes_game g.S.Source.opens g.S.Source.reads g.S.Source.left g.S.Source.files c.as_str-in-Game.result.now c.args.source.now bytes.items is) c.game_bytes.ensures.bytes)

pub returns-in-Generated-clause-all : goal.returns-in-Generated-clause-all
returns-in-Generated-clause-all g c =
    let input_is : said c.args.input.now ≡ words.generated c.in-Generated.questions = ap said c.in-Generated.is in
    let few : c.in-Generated.questions ≤ 1000 = subst (λ (input : Input). IsKnown game_names input) input_is c.requires in
    subst (λ (input : Input). IfOk c.generated_bytes.result (λ bytes. Takes g.S.Source.opens g.S.Source.reads g.S.Source.left g.S.Source.files input c.args.source.now c.args.source.now bytes.items)) (sym input_is)
    (IfOk-weaker c.generated_bytes.result _ _ (λ bytes is. takes_generated g.S.Source.opens g.S.Source.reads g.S.Source.left g.S.Source.files c.in-Generated.questions c.args.source.now bytes.items few is) c.generated_bytes.ensures.bytes)
