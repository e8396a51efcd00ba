-- The texts of the stored games are files of the language.
use Rattle.std.specs.Prelude.{◌≡◌, Some, None}
use Rattle.formula_grammar.specs.Written.{Text}
use Rattle.formula_grammar.specs.FirstFault.{file_fault}
use Rattle.stored_games.specs.Games.{game_text}

-- each text has no first fault
abbrev pub GamesAreFaultless : Type 0
GamesAreFaultless = (name text : Text) → game_text name ≡ Some text → file_fault text ≡ None
