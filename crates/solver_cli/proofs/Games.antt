-- A name among those of the stored games has a text.
use Rattle.std.proofs.Common.{◌≡◌, ◌≢◌, ℕ, true, ◌||◌, List, [], ◌∷◌, Option, Some, None, is_some, refl, sym, ◌∙◌, ap, ap₂, option_map}
use Rattle.std.specs.Bool.{Decides, one_answer}
use Rattle.std.specs.List.{list_any}
use Rattle.std.specs.Map.{lookup, keys_of}
use Rattle.std.specs.Str.{bytes_eq}
use Rattle.std.proofs.lemmas.Map.Made.{is_some-lookup}
use Rattle.std.proofs.lemmas.Slice.Eq.{bytes_eq-Decides}
use Rattle.formula_grammar.specs.Words.{WrittenStatement}
use Rattle.written_files.specs.Files.{file_text}
use Rattle.command_words.specs.Words.{is_among}
use Rattle.stored_games.specs.Games.{games, game_names, game_text}

eq_either_way : (a b : List ℕ) → bytes_eq a b ≡ bytes_eq b a
eq_either_way a b =
    let there = bytes_eq-Decides b a in
    one_answer (bytes_eq a b) (bytes_eq b a) (bytes_eq-Decides a b) (λ is. sym (there.0 is), λ same. there.1 (sym same))

any_either_way : (name : List ℕ) (names : List (List ℕ)) → list_any (λ other. bytes_eq other name) names ≡ list_any (λ other. bytes_eq name other) names
any_either_way name [] = refl
any_either_way name (other ∷ names) = ap₂ ◌||◌ (eq_either_way other name) (any_either_way name names)

still_some : {A B : Type 0} (f : A → B) (o : Option A) → is_some (option_map f o) ≡ is_some o
still_some f None = refl
still_some f (Some x) = refl

is_some_text : (name : List ℕ) → is_some (game_text name) ≡ is_among game_names name
unfolding game_text game_names
is_some_text name =
    still_some file_text (lookup (λ other. bytes_eq name other) games)
    ∙ is_some-lookup (λ other. bytes_eq name other) games
    ∙ sym (any_either_way name (keys_of games))

pub among_has_text : (name : List ℕ) → is_among game_names name ≡ true → game_text name ≢ None
among_has_text name among none = let is : is_some (game_text name) ≡ true = is_some_text name ∙ among in let isnt = ap is_some none in cc
