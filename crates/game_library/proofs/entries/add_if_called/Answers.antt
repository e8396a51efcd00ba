use Rattle.std.proofs.Common.{sym, ◌∙◌}
use Rattle.std.proofs.lemmas.Bool.{false≢true}
use Rattle.game_library.proofs.entries.add_if_called.Goals as goal

pub add_call-requires-clause-has : goal.add_call-requires-clause-has
add_call-requires-clause-has g c = c.requires.has (sym c.is_called.ensures ∙ c.if-is_called.true)

pub returns-clause-ok : goal.returns-clause-ok
returns-clause-ok g c = λ covers. absurd (false≢true (sym c.if-is_called.false ∙ c.is_called.ensures ∙ covers))
