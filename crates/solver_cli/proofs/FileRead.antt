-- What was taken of an input is all of it, or its first bytes and more than a file may have.
use Rattle.std.proofs.Common.{◌≡◌, ◌⊎◌, inl, inr, ⊎_elim, ℕ, ◌≤◌, ◌<◌, List, [], ◌++◌, length, take, Option, Some, None, Result, Ok, IsSomeAnd, refl, sym, ◌∙◌, ap, subst, arith}
use Rattle.std.proofs.lemmas.List.{append-nil, take_all, length-take-le}
use Rattle.std.proofs.lemmas.Bool.{cases_lt}
use Rattle.std.proofs.Math.Seq.{take-append_seam}
use Rattle.std.specs.Io.KnownBytes.{Consumes, IsAtEnd}
use Rattle.io_edge.specs.declared.failed.Failed.{Failed}
use Rattle.io_edge.specs.Edge.{IsFile, OpensAt, bytes_named}
use Rattle.solver_cli.specs.Language.{File, Fault, ReadsAs, IsFirstFault}
use Rattle.solver_cli.specs.Reading.{ReadsAll, Calls}
use Rattle.solver_cli.specs.Reading.Calls.{all}
use Rattle.solver_cli.specs.Files.{OfNamed}
use Rattle.command_words.specs.Words as words
use Rattle.command_words.specs.Words.{Input, IsKnown}
use Rattle.stored_games.specs.Games.{game_names, game_text}
use Rattle.written_files.specs.Files.{file_text}
use Rattle.generator.specs.Generated.{generated}
use Rattle.formula_grammar.specs.FirstFault.{file_fault}
use Rattle.solver_cli.specs.Inputs.{IsFileWith, AreBytesOf, OfBytes}
use Rattle.solver_cli.specs.Run.{OfReading}
use Rattle.solver_cli.proofs.Laws.{one_fault, reads_within, long_fault, fault_of_long, no_fault, game_is_faultless, generated_is_faultless}

-- a file that reads was taken whole
pub whole_of_reads : (bytes : List ℕ) (file : File) → ReadsAs (take 1048577 bytes) file → take 1048577 bytes ≡ bytes
whole_of_reads bytes file reads = ⊎_elim
    (λ long. absurd (omega (arith, length-take-le 1048577 bytes (omega (arith, long)), reads_within (take 1048577 bytes) file reads)))
    (λ short. take_all 1048577 bytes short)
    (cases_lt 1048577 (length bytes))

-- the first fault of what was taken is that of the file
pub fault_of_taken : (bytes : List ℕ) (fault : Fault) → IsFirstFault (take 1048577 bytes) fault → IsFirstFault bytes fault
fault_of_taken bytes fault is = ⊎_elim
    (λ long. subst (λ (f : Fault). IsFirstFault bytes f)
    (one_fault (take 1048577 bytes) long_fault fault (fault_of_long (take 1048577 bytes) (omega (arith, length-take-le 1048577 bytes (omega (arith, long))))) is)
    (fault_of_long bytes (omega (arith, long))))
    (λ short. subst (λ (l : List ℕ). IsFirstFault l fault) (take_all 1048577 bytes short) is)
    (cases_lt 1048577 (length bytes))

-- these bytes begin with those that were taken, which are all of them or so many
taken_of : (bytes taken more : List ℕ) → bytes ≡ taken ++ more → (length taken < 1048577 → more ≡ []) → length taken ≤ 1048577 → take 1048577 bytes ≡ taken
taken_of bytes taken more split end within = ⊎_elim
    (λ short.
    let same : bytes ≡ taken = split ∙ ap (λ (l : List ℕ). taken ++ l) (end short) ∙ append-nil taken in
    take_all 1048577 bytes (omega (arith, ap length same, within)) ∙ same)
    (λ full.
    let size : length taken ≡ 1048577 = omega (arith, full, within) in
    ap (λ (l : List ℕ). take 1048577 l) split ∙ ap (λ (n : ℕ). take n (taken ++ more)) (sym size) ∙ take-append_seam taken more)
    (cases_lt (length taken) 1048577)

-- the bytes of the file of which these were taken
pub record ReadOf (files : Option (List (List ℕ × List ℕ))) (name taken : List ℕ) : Type 0 where
  pub file : List ℕ
  pub is_file : IsFile files name file
  pub front : take 1048577 file ≡ taken

known : (files : List (List ℕ × List ℕ)) (name file : List ℕ) (end : Option (List ℕ)) (taken : List ℕ) → bytes_named files name ≡ Some file → Consumes (Some file) end taken → (length taken < 1048577 → IsAtEnd end) → length taken ≤ 1048577 → ReadOf (Some files) name taken
known files name file None taken is consumed end within = absurd consumed
known files name file (Some more) taken is consumed end within = record {
  file = file;
  is_file = is;
  front = taken_of file taken more consumed end within;
}

named : (files : List (List ℕ × List ℕ)) (name : List ℕ) (found left end : Option (List ℕ)) (taken : List ℕ) → bytes_named files name ≡ found → IsSomeAnd found (λ file. left ≡ Some file)
    → Consumes left end taken → (length taken < 1048577 → IsAtEnd end) → length taken ≤ 1048577 → ReadOf (Some files) name taken
named files name None left end taken is opens consumed at_end within = absurd opens
named files name (Some file) left end taken is opens consumed at_end within =
    known files name file end taken is (subst (λ (l : Option (List ℕ)). Consumes l end taken) opens consumed) at_end within

pub read_of : (files : Option (List (List ℕ × List ℕ))) (name : List ℕ) (left end : Option (List ℕ)) (taken : List ℕ) → OpensAt files name left → Consumes left end taken
    → (length taken < 1048577 → IsAtEnd end) → length taken ≤ 1048577 → ReadOf files name taken
read_of None name left end taken opens consumed at_end within = record { file = taken; is_file = tt; front = take_all 1048577 taken within }
read_of (Some files) name left end taken opens consumed at_end within = named files name (bytes_named files name) left end taken refl opens consumed at_end within

module _ {S : Type 0} (opens : S → List ℕ → Result (Unit {0}) Failed → S → Type 0) (reads : S → ℕ → Result ℕ Failed → List ℕ → S → Type 0) (left : S → Option (List ℕ)) (files : S → Option (List (List ℕ × List ℕ))) (name : List ℕ) where
  pub of_file : (old opened new : S) (taken : List ℕ) → opens old name (Ok tt) opened → OpensAt (files old) name (left opened) → ReadsAll reads left 1048577 opened taken new
      → OfNamed opens reads left files name old new (λ file. taken ≡ take 1048577 file)
  of_file old opened new taken call opens_at reads_all =
      let read : ReadOf (files old) name taken = read_of (files old) name (left opened) (left new) taken opens_at reads_all.known reads_all.at_end reads_all.taken.within in (
        read.file,
        record {
          is_file = read.is_file;
          calls = record {
            opened = opened;
            call = call;
            rest = subst (λ (l : List ℕ). ReadsAll reads left 1048577 opened l new) (sym read.front) reads_all;
          };
        },
        sym read.front,
      )

  pub calls_of_file : (old new : S) (taken : List ℕ) → OfNamed opens reads left files name old new (λ file. taken ≡ take 1048577 file) → (bytes : List ℕ) × Calls opens reads left 1048577 name old bytes new
  calls_of_file old new taken of = (take 1048577 of.0, all of.1.calls)

  -- the first fault of what was taken is that of the file
  pub fault_of_file : (old new : S) (taken : List ℕ) (fault : Fault) → OfNamed opens reads left files name old new (λ file. taken ≡ take 1048577 file) → IsFirstFault taken fault
      → OfNamed opens reads left files name old new (λ bytes. IsFirstFault bytes fault)
  fault_of_file old new taken fault of is = (of.0, of.1, fault_of_taken of.0 fault (subst (λ (l : List ℕ). IsFirstFault l fault) of.2 is))

module _ {S : Type 0} (opens : S → List ℕ → Result (Unit {0}) Failed → S → Type 0) (reads : S → ℕ → Result ℕ Failed → List ℕ → S → Type 0) (left : S → Option (List ℕ)) (files : S → Option (List (List ℕ × List ℕ))) where
  -- these bytes were taken of the input
  abbrev pub Takes : Input → S → S → List ℕ → Type 0
  Takes input old new taken = OfBytes opens reads left files input old new (λ whole. taken ≡ take 1048577 whole)

  -- bytes without a first fault are taken whole
  whole_of_faultless : (bytes : List ℕ) → file_fault bytes ≡ None → bytes ≡ take 1048577 bytes
  whole_of_faultless bytes none = ⊎_elim
      (λ long. absurd (no_fault bytes long_fault none (fault_of_long bytes (omega (arith, long)))))
      (λ short. sym (take_all 1048577 bytes short))
      (cases_lt 1048577 (length bytes))

  pub takes_game : (name : List ℕ) (old : S) (bytes : List ℕ) → game_text name ≡ Some bytes → Takes (words.game name) old old bytes
  takes_game name old bytes is = (bytes, (is, refl), whole_of_faultless bytes (game_is_faultless name bytes is))

  pub takes_generated : (questions : ℕ) (old : S) (bytes : List ℕ) → questions ≤ 1000 → bytes ≡ file_text (generated questions) → Takes (words.generated questions) old old bytes
  takes_generated questions old bytes few is =
      let none : file_fault bytes ≡ None = rw is (generated_is_faultless questions few) in
      (bytes, (is, refl), whole_of_faultless bytes none)

  -- only a file is refused
  pub fault_of_input : (input : Input) (old new : S) (taken : List ℕ) (fault : Fault) → IsKnown game_names input → Takes input old new taken → IsFirstFault taken fault
      → IsFileWith (λ name. OfNamed opens reads left files name old new (λ bytes. IsFirstFault bytes fault)) input
  fault_of_input (words.file name) old new taken fault known of is = fault_of_file opens reads left files name old new taken fault of is
  fault_of_input (words.game name) old new taken fault known of is =
      absurd (no_fault of.0 fault (game_is_faultless name of.0 of.1.0) (fault_of_taken of.0 fault (subst (λ (l : List ℕ). IsFirstFault l fault) of.2 is)))
  fault_of_input (words.generated questions) old new taken fault known of is =
      let none : file_fault of.0 ≡ None = subst (λ (l : List ℕ). file_fault l ≡ None) (sym of.1.0) (generated_is_faultless questions known) in
      absurd (no_fault of.0 fault none (fault_of_taken of.0 fault (subst (λ (l : List ℕ). IsFirstFault l fault) of.2 is)))

  -- where what was taken reads as a file, it is the whole input
  pub reading_of_input : (input : Input) (old new : S) (taken : List ℕ) (P : File → Type 0) → Takes input old new taken → OfReading taken P → OfBytes opens reads left files input old new (λ bytes. OfReading bytes P)
  reading_of_input input old new taken P of reading =
      let whole : take 1048577 of.0 ≡ of.0 = whole_of_reads of.0 reading.0 (subst (λ (l : List ℕ). ReadsAs l reading.0) of.2 reading.1) in
      (of.0, of.1, subst (λ (l : List ℕ). OfReading l P) (of.2 ∙ whole) reading)

  -- nothing is called for what is no file
  pub calls_of_input : (input : Input) (old new : S) (taken : List ℕ) → Takes input old new taken
      → (new ≡ old) ⊎ IsFileWith (λ name. (bytes : List ℕ) × Calls opens reads left 1048577 name old bytes new) input
  calls_of_input (words.file name) old new taken of = inr (calls_of_file opens reads left files name old new taken of)
  calls_of_input (words.game name) old new taken of = inl of.1.1
  calls_of_input (words.generated questions) old new taken of = inl of.1.1
