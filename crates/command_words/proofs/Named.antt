-- What clap makes of the words of the command.
use Rattle.std.proofs.Common.{◌≡◌, ◌≢◌, true, refl, ap, sym, ◌∙◌, List, [], ◌∷◌, codes, Option, Some, None, Result, Ok, Err, IfOk}
use Rattle.clap.specs.Walk.{Text, first_of, rows_of}
use Rattle.clap.specs.Matches.{first_value}
use Rattle.clap.proofs.WalkLemmas.{first_value-rows}
use Rattle.clap.specs.declared.parser.matches.Found.{Found}
use Rattle.clap.specs.Simple.{App, is_simple, matches_of}
use Rattle.clap.specs.Faults.{is_simple_and_free, fault_of}
use Rattle.clap.specs.Kinds.{Kinds, IsAmong}
use Rattle.clap.proofs.OnLiterals.{clap_on_literals}
use Rattle.clap.specs.declared.error.kind.ErrorKind.{ErrorKind}
use Rattle.command_words.specs.declared.input.Input.{Input as Read}
use Rattle.command_words.specs.declared.input.NoInput.{NoInput}
use Rattle.command_words.specs.declared.input.NoInput.TheVariants.{Usage, NoMemory}
use Rattle.command_words.specs.Words.{command, program, Input, said, input_of, faults_of, value_of, only, named, unless}

pub is_simple_here : (app : App) → app ≡ command → is_simple app ≡ true
unfolding command clap_on_literals
is_simple_here app e = ap is_simple e ∙ refl

pub is_free_here : (app : App) → app ≡ command → is_simple_and_free app ≡ true
unfolding command clap_on_literals
is_free_here app e = ap is_simple_and_free e ∙ refl

pub among_none : (k : ErrorKind) (kinds : Kinds) → IsAmong k kinds → kinds ≢ []
among_none k [] h _ = h
among_none k (x ∷ xs) h e = cc

-- where the input is that of the result, and there is none, the result is the one error that is left
pub refused : (input : Option Input) (r : Result Read NoInput) → IfOk r (λ read. input ≡ Some (said read)) → input ≡ None → r ≢ Err NoMemory → r ≡ Err Usage
refused input (Ok read) h none _ = let bad : Some (said read) ≡ None = sym h ∙ none in cc
refused input (Err Usage) h none _ = refl
refused input (Err NoMemory) h none memory = absurd (memory refl)

unless_some : (input : Option Input) (faults : Kinds) → faults ≢ [] → unless faults input ≡ None
unless_some input [] some = absurd (some refl)
unless_some input (fault ∷ faults) some = refl

pub refuses : (games words : List Text) → faults_of words ≢ [] → input_of games words ≡ None
unfolding input_of
refuses games words some = unless_some _ (faults_of words) some

pub takes : (games words : List Text) → faults_of words ≡ [] → input_of games words ≡ only (named games (value_of (codes "FILE") words) (value_of (codes "game") words) (value_of (codes "self") words))
unfolding input_of
takes games words none = ap (λ (faults : Kinds). unless faults (only (named games (value_of (codes "FILE") words) (value_of (codes "game") words) (value_of (codes "self") words)))) none

pub faults_are : (all words : List Text) → all ≡ program ∷ words → fault_of command all ≢ [] → faults_of words ≢ []
unfolding faults_of
faults_are all words e some = λ none. some (ap (fault_of command) e ∙ none)

pub no_faults : (all words : List Text) → all ≡ program ∷ words → fault_of command all ≡ [] → faults_of words ≡ []
unfolding faults_of
no_faults all words e none = ap (fault_of command) (sym e) ∙ none

pub found : (all words : List Text) (id : Text) (found : Found) (value : Option Text) → all ≡ program ∷ words
    → rows_of found ≡ matches_of command all → value ≡ first_value found id → value_of id words ≡ value
unfolding value_of
found all words id f value e rows v = sym (v ∙ first_value-rows f id ∙ ap (first_of id) (rows ∙ ap (matches_of command) e))

pub named_alike : (games : List Text) (f f₁ g g₁ s s₁ : Option Text) → f ≡ f₁ → g ≡ g₁ → s ≡ s₁ → only (named games f g s) ≡ only (named games f₁ g₁ s₁)
named_alike games f f₁ g g₁ s s₁ a b c =
    ap (λ (x : Option Text). only (named games x g s)) a ∙ ap (λ (x : Option Text). only (named games f₁ x s)) b ∙ ap (λ (x : Option Text). only (named games f₁ g₁ x)) c
