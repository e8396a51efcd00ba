use Rattle.std.proofs.Common.{◌≡◌, ◌∙◌}
use Rattle.std.specs.List.{list_any}
use Rattle.std.specs.Str.{bytes_eq}
use Rattle.clap.proofs.WalkLemmas.{list_any-map}
use Rattle.command_words.proofs.reading.is_among.Goals as goal

pub returns : goal.returns
returns c =
    let here : c.contains.result ≡ list_any (λ other. bytes_eq other.now c.args.name.now) c.args.names.now = c.contains.ensures.value in
    here ∙ list_any-map (λ other. bytes_eq other c.args.name.now) (λ other. other.now) c.args.names.now
