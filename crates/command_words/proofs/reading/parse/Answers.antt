use Rattle.std.proofs.Common.{◌≡◌, ◌∙◌, ap, sym, [], inl, inr}
use Rattle.clap.specs.Simple.{app_of, matches_of, App}
use Rattle.clap.specs.Faults.{fault_of}
use Rattle.command_words.specs.Words.{command, texts}
use Rattle.command_words.proofs.Named.{is_simple_here, is_free_here, among_none}
use Rattle.command_words.specs.declared.input.NoInput.TheVariants.{NoMemory}
use Rattle.command_words.proofs.reading.parse.Goals as goal

pub returns-in-Ok-clause-values : goal.returns-in-Ok-clause-values
returns-in-Ok-clause-values c =
    let e : app_of c.in_ok-command.field-0 ≡ command = c.in_ok-command.ensures in
    (c.in-Ok.ensures.matches (is_simple_here _ e)).0 ∙ ap (λ (app : App). matches_of app (texts c.args.words.now)) e

pub returns-in-Ok-clause-taken : goal.returns-in-Ok-clause-taken
returns-in-Ok-clause-taken c =
    let e : app_of c.in_ok-command.field-0 ≡ command = c.in_ok-command.ensures in
    ap (λ (app : App). fault_of app (texts c.args.words.now)) (sym e) ∙ c.in-Ok.ensures.kinds (is_free_here _ e)

pub returns-in-Err-clause-usage : goal.returns-in-Err-clause-usage
returns-in-Err-clause-usage c = λ said none.
    let e : app_of c.in_ok-command.field-0 ≡ command = c.in_ok-command.ensures in
    let same : fault_of (app_of c.in_ok-command.field-0) (texts c.args.words.now) ≡ [] = ap (λ (app : App). fault_of app (texts c.args.words.now)) e ∙ none in
    elim (c.in-Err.ensures.kinds (is_free_here _ e)) [
      | inl memory ↦ let it : c.reason.result ≡ NoMemory = c.reason.ensures.1 memory in cc
      | inr among ↦ among_none _ _ among same
    ]
