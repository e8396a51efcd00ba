-- What the loops and the run use of the definitions below. No other proof of theirs looks inside.
use Rattle.std.proofs.Common.{◌≡◌, ℕ, ◌≤◌, ◌<◌, true, List, length, Option, Some, None, refl}
use Rattle.std.proofs.lemmas.Bool.{lt-ltb}
use Rattle.formula_grammar.specs.declared.fault.FaultKind.TheVariants.{Limit}
use Rattle.formula_grammar.specs.FirstFault.{file_fault}
use Rattle.formula_grammar.proofs.Outcomes as outcomes
use Rattle.written_files.specs.Files.{file_text}
use Rattle.generator.specs.Generated.{generated}
use Rattle.generator.proofs.Large.{is_faultless}
use Rattle.stored_games.specs.Games.{game_text}
use Rattle.stored_games.proofs.Lawful.{faultless}
use Rattle.solver_cli.specs.Language.{File, Fault, ReadsAs, IsFirstFault}

pub never_both : (bytes : List ℕ) (file : File) (fault : Fault) → ReadsAs bytes file → IsFirstFault bytes fault → ⊥
never_both = outcomes.never_both

pub one_fault : (bytes : List ℕ) (a b : Fault) → IsFirstFault bytes a → IsFirstFault bytes b → a ≡ b
one_fault bytes a b is other = cc (is, other)

pub reads_within : (bytes : List ℕ) (file : File) → ReadsAs bytes file → length bytes ≤ 1048576
reads_within bytes file reads = reads.reads.short

-- the one fault of all bytes that are too long
abbrev pub long_fault : Fault
long_fault = record { offset = 1048576; kind = Limit }

pub fault_of_long : (bytes : List ℕ) → 1048576 < length bytes → IsFirstFault bytes long_fault
unfolding file_fault
fault_of_long bytes long = rw (lt-ltb 1048576 (length bytes) long) refl

pub no_fault : (bytes : List ℕ) (fault : Fault) → file_fault bytes ≡ None → IsFirstFault bytes fault → ⊥
no_fault bytes fault none is = cc (none, is)

pub game_is_faultless : (name text : List ℕ) → game_text name ≡ Some text → file_fault text ≡ None
game_is_faultless = faultless

pub generated_is_faultless : (questions : ℕ) → questions ≤ 1000 → file_fault (file_text (generated questions)) ≡ None
generated_is_faultless = is_faultless
