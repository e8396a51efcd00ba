use Rattle.std.proofs.Common.{◌≡◌, ◌∙◌, ap, ◌∷◌, Option, codes, option_map, Err}
use Rattle.std.proofs.lemmas.Result.{err_from_is_err_and, IfOk-weaker}
use Rattle.clap.specs.Walk.{Text}
use Rattle.clap.specs.Matches.{found_of, first_value}
use Rattle.command_words.specs.Words.{program, texts, input_of, named, only}
use Rattle.command_words.proofs.Named.{refuses, takes, refused, found, faults_are, no_faults, named_alike}
use Rattle.command_words.proofs.reading.read_words.Goals as goal

pub returns-in_err-matches-clause-usage : goal.returns-in_err-matches-clause-usage
returns-in_err-matches-clause-usage c = λ is_usage.
    let p = err_from_is_err_and c.from_residual-in_err-matches.result c.from_residual-in_err-matches.ensures.1 in
    let was : c.parse.result ≡ Err c.in_err-matches.field-0.0 = c.in_err-matches.was in
    refuses _ _ (faults_are _ _ (ap texts c.as_slice.ensures.value ∙ c.in_ok-all.ensures) (c.in_err-matches.ensures.usage cc))

input_is : (c : goal.After-drop-all-2) → input_of (texts c.args.games.now) (texts c.args.words.now)
    ≡ only (named (texts c.args.games.now) (option_map (λ s. s.now) c.get_str.result) (option_map (λ s. s.now) c.get_str-2.result) (option_map (λ s. s.now) c.get_str-3.result))
input_is c =
    let all_are : texts c.as_slice.result.now ≡ program ∷ texts c.args.words.now = ap texts c.as_slice.ensures.value ∙ c.in_ok-all.ensures in
    let value = λ (id : Text) (text : Option Text) (e : text ≡ first_value (found_of c.in_ok-matches.matches) id).
    found _ _ id (found_of c.in_ok-matches.matches) text all_are c.in_ok-matches.ensures.values e in
    takes _ _ (no_faults _ _ all_are c.in_ok-matches.ensures.taken)
    ∙ named_alike _ _ _ _ _ _ _ (value (codes "FILE") _ c.get_str.ensures) (value (codes "game") _ c.get_str-2.ensures) (value (codes "self") _ c.get_str-3.ensures)

pub returns-clause-input : goal.returns-clause-input
returns-clause-input c = IfOk-weaker c.only.result _ _ (λ read h. input_is c ∙ h) c.only.ensures.input

pub returns-clause-usage : goal.returns-clause-usage
returns-clause-usage c = λ is_usage. input_is c ∙ c.only.ensures.usage is_usage

pub returns-clause-used : goal.returns-clause-used
returns-clause-used c = λ none. refused _ c.only.result (returns-clause-input c) none
