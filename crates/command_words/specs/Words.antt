-- The words of the command line: the input that they name, or that they are refused.
use Rattle.std.specs.Prelude.{◌≡◌, ℕ, ◌≤◌, ◌&&◌, List, [], ◌∷◌, ◌++◌, length, nat_le, Bool, true, false, Option, Some, None, codes, if◌then◌else◌, option_map, option_to_list, map, string_bytes}
use Rattle.std.specs.List.{list_all, list_any}
use Rattle.std.specs.Char.{is_ascii_digit}
use Rattle.std.specs.Str.Parse.{digits_value}
use Rattle.std.specs.Str.{bytes_eq}
use Rattle.std.specs.Borrow.{Bor}
use Rattle.clap.specs.Walk.{Rule, Text, first_of}
use Rattle.clap.specs.Simple.{App, matches_of, new_app, new_rule, with_rule}
use Rattle.clap.specs.Faults.{fault_of}
use Rattle.clap.specs.Kinds.{Kinds}
use Rattle.command_words.specs.declared.input.Input.{Input as Read}
use Rattle.command_words.specs.declared.input.Input.TheVariants as read

-- what is read: a file or the text of a stored game, each by its name, or the text that is generated from a number
pub data Input : Type 0 where
  file : Text → Input
  game : Text → Input
  generated : ℕ → Input

-- the program's name stands in front of the words
abbrev pub program : Text
program = codes "treesolve"

-- a positional word that may be absent
abbrev pub file_rule : Rule
file_rule = new_rule (codes "FILE")

-- options with one value
abbrev pub game_rule : Rule
game_rule = record (new_rule (codes "game")) { long = Some (codes "game") }

abbrev pub self_rule : Rule
self_rule = record (new_rule (codes "self")) { long = Some (codes "self") }

unfoldable pub command : App
command = with_rule (with_rule (with_rule (new_app program) file_rule) game_rule) self_rule

-- the kinds of fault for which clap refuses the words: none where it takes them
unfoldable pub faults_of : List Text → Kinds
faults_of words = fault_of command (program ∷ words)

-- the first value that clap finds for this argument in the words, where it takes them
unfoldable pub value_of : Text → List Text → Option Text
value_of id words = first_of id (matches_of command (program ∷ words))

abbrev pub is_among : List Text → Text → Bool
is_among names name = list_any (λ other. bytes_eq other name) names

-- the game with this name, where it is stored
abbrev pub game_named : List Text → Text → Option Input
game_named games name = if is_among games name then Some (game name) else None

-- one digit or more
abbrev pub is_number : Text → Bool
is_number [] = false
is_number (c ∷ cs) = list_all is_ascii_digit (c ∷ cs)

-- the value of at most 20 digits, where it is not above `most`
unfoldable pub number_of : ℕ → Text → Option ℕ
number_of most text =
    if is_number text && (nat_le (length text) 20 && nat_le (digits_value 10 text) most) then Some (digits_value 10 text) else None

-- the text of so many questions
abbrev pub text_of_questions : Text → Option Input
text_of_questions digits = option_map generated (number_of 1000 digits)

-- what each of FILE, `--game` and `--self` names, from its value where it is given
abbrev pub named : List Text → Option Text → Option Text → Option Text → List (Option Input)
named games file_value game_value self_value = option_to_list (option_map (λ name. Some (file name)) file_value)
    ++ option_to_list (option_map (game_named games) game_value)
    ++ option_to_list (option_map text_of_questions self_value)

-- exactly one of them is given
abbrev pub only : List (Option Input) → Option Input
only (input ∷ []) = input
only inputs = None

-- none where there is a fault
abbrev pub unless : Kinds → Option Input → Option Input
unless [] input = input
unless (fault ∷ faults) input = None

-- the input that the words name, where these are the stored games; none where the words are refused
unfoldable pub input_of : List Text → List Text → Option Input
input_of games words = unless (faults_of words) (only (named games (value_of (codes "FILE") words) (value_of (codes "game") words) (value_of (codes "self") words)))

-- the texts behind references
abbrev pub texts : List (Bor Text) → List Text
texts words = map (λ word. word.now) words

-- what a value of the Rust type says
abbrev pub said : Read → Input
said (read.File name) = file (string_bytes name)
said (read.Game name) = game (string_bytes name)
said (read.Generated questions) = generated questions

-- a game is one of these, and there are at most 1000 questions
abbrev pub IsKnown : List Text → Input → Type 0
IsKnown games (file name) = Unit {0}
IsKnown games (game name) = is_among games name ≡ true
IsKnown games (generated questions) = questions ≤ 1000
