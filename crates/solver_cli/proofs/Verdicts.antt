-- The status is the one that the bytes ask for.
use Rattle.std.proofs.Common.{◌≡◌, ◌≢◌, ◌↔◌, inl, inr, ℕ, List, [], Option, Some, Result, IsSomeAnd, refl, sym, subst}
use Rattle.std.proofs.KnownBytes.{Appends-nil}
use Rattle.io_edge.specs.declared.failed.Failed.{Failed}
use Rattle.io_edge.specs.Edge.{IsMissing}
use Rattle.solver_cli.specs.Language.{File, Fault, ReadsAs, IsFirstFault}
use Rattle.solver_cli.specs.Writing.{WritesLine}
use Rattle.solver_cli.specs.Writing.WritesWhole.{nothing}
use Rattle.solver_cli.specs.Writing.WritesLine.{whole}
use Rattle.command_words.specs.Words as words
use Rattle.command_words.specs.Words.{Input}
use Rattle.solver_cli.specs.Files.{OfNamed}
use Rattle.solver_cli.specs.Inputs.{named_input, IsFileWith, IsThere, OfBytes}
use Rattle.solver_cli.specs.Lines.{status_of}
use Rattle.solver_cli.specs.declared.outcome.Outcome.{Outcome}
use Rattle.solver_cli.specs.declared.outcome.Outcome.TheVariants as outcome
use Rattle.solver_cli.specs.Run.{OfReading, HasFault, Completes}
use Rattle.solver_cli.specs.declared.status.Status.{Status}
use Rattle.solver_cli.specs.declared.status.Status.TheVariants.{Done, Refused, Usage, ReadFault, WriteFault, Memory}
use Rattle.solver_cli.proofs.Laws.{never_both}

-- the words name an input with P
pub of_words : (texts : List (List ℕ)) (input : Input) (P : Input → Type 0) → named_input texts ≡ Some input → P input → IsSomeAnd (named_input texts) P
of_words texts input P is holds = subst (λ (o : Option Input). IsSomeAnd o P) (sym is) holds

pub of_input : (texts : List (List ℕ)) (input : Input) (P : Input → Type 0) → named_input texts ≡ Some input → IsSomeAnd (named_input texts) P → P input
of_input texts input P is holds = subst (λ (o : Option Input). IsSomeAnd o P) is holds

-- the outcome of a refusal has its fault
pub refused_of : (o : Outcome) → status_of o ≡ Refused → (fault : Fault) × (o ≡ outcome.Refused fault)
refused_of outcome.Done is = cc
refused_of (outcome.Refused fault) is = (fault, refl)
refused_of outcome.Usage is = cc
refused_of outcome.ReadFault is = cc
refused_of outcome.WriteFault is = cc
refused_of outcome.Memory is = cc

pub completes_done : (bytes : List ℕ) (file : File) → ReadsAs bytes file → Completes bytes Done
completes_done bytes file reads = record {
  done = λ other so. refl;
  refused = λ fault is. absurd (never_both bytes file fault reads is);
  either = inl (file, reads);
}

pub completes_refused : (bytes : List ℕ) (fault : Fault) → IsFirstFault bytes fault → Completes bytes Refused
completes_refused bytes fault is = record {
  done = λ file reads. absurd (never_both bytes file fault reads is);
  refused = λ other so. refl;
  either = inr (fault, is);
}

pub not_refused : (bytes : List ℕ) (file : File) (status : Status) → ReadsAs bytes file → status ≢ Refused → (status ≡ Refused) ↔ HasFault bytes
not_refused bytes file status reads other = (λ is. absurd (other is), λ has. absurd (never_both bytes file has.0 reads has.1))

pub no_line : {O : Type 0} (writes : O → List ℕ → Result ℕ Failed → O → Type 0) (taken : O → Option (List ℕ)) (faults : O → ℕ) (old : O) → WritesLine writes taken faults old [] old
no_line writes taken faults old = whole (record { calls = nothing; known = Appends-nil (taken old) })

-- ---- the input of a run, whatever its outcome

-- a file with P is one with Q
pub file_weaker : (P Q : List ℕ → Type 0) (input : Input) → ((name : List ℕ) → P name → Q name) → IsFileWith P input → IsFileWith Q input
file_weaker P Q (words.file name) more of = more name of
file_weaker P Q (words.game name) more of = of
file_weaker P Q (words.generated questions) more of = of

-- what is there is not missing
pub not_missing : (files : Option (List (List ℕ × List ℕ))) (input : Input) → IsThere files input → IsFileWith (λ name. IsMissing files name) input → ⊥
not_missing files (words.file name) there missing = there missing
not_missing files (words.game name) there missing = missing
not_missing files (words.generated questions) there missing = missing

module _ {S : Type 0} (opens : S → List ℕ → Result (Unit {0}) Failed → S → Type 0) (reads : S → ℕ → Result ℕ Failed → List ℕ → S → Type 0) (left : S → Option (List ℕ)) (files : S → Option (List (List ℕ × List ℕ))) where
  of_file : (input : Input) (old new : S) (P : List ℕ → Type 0) → IsFileWith (λ name. OfNamed opens reads left files name old new P) input → OfBytes opens reads left files input old new P
  of_file (words.file name) old new P of = of
  of_file (words.game name) old new P of = absurd of
  of_file (words.generated questions) old new P of = absurd of

  module _ (input : Input) (old new : S) (All Cut : File → Type 0) where
    abbrev Of : (List ℕ → Type 0) → Type 0
    Of P = OfBytes opens reads left files input old new P

    abbrev RefusedOf : Outcome → Type 0
    RefusedOf o = (fault : Fault) → o ≡ outcome.Refused fault → IsFileWith (λ name. OfNamed opens reads left files name old new (λ bytes. IsFirstFault bytes fault)) input

    pub refused_exactly : (o : Outcome) → status_of o ≢ Usage → status_of o ≢ ReadFault → status_of o ≢ Memory → (status_of o ≡ Done → Of (λ bytes. OfReading bytes All))
        → (status_of o ≡ WriteFault → Of (λ bytes. OfReading bytes Cut)) → RefusedOf o → Of (λ bytes. (status_of o ≡ Refused) ↔ HasFault bytes)
    refused_exactly outcome.Done usage read memory done cut refused = let of = done refl in (of.0, of.1, not_refused of.0 of.2.0 Done of.2.1 (λ same. cc))
    refused_exactly (outcome.Refused fault) usage read memory done cut refused =
        let of = of_file input old new (λ bytes. IsFirstFault bytes fault) (refused fault refl) in (of.0, of.1, (λ _. (fault, of.2), λ _. refl))
    refused_exactly outcome.Usage usage read memory done cut refused = absurd (usage refl)
    refused_exactly outcome.ReadFault usage read memory done cut refused = absurd (read refl)
    refused_exactly outcome.WriteFault usage read memory done cut refused = let of = cut refl in (of.0, of.1, not_refused of.0 of.2.0 WriteFault of.2.1 (λ same. cc))
    refused_exactly outcome.Memory usage read memory done cut refused = absurd (memory refl)

    pub completes : (o : Outcome) → status_of o ≢ Usage → status_of o ≢ ReadFault → status_of o ≢ Memory → status_of o ≢ WriteFault → (status_of o ≡ Done → Of (λ bytes. OfReading bytes All))
        → RefusedOf o → Of (λ bytes. Completes bytes (status_of o))
    completes outcome.Done usage read memory write done refused = let of = done refl in (of.0, of.1, completes_done of.0 of.2.0 of.2.1)
    completes (outcome.Refused fault) usage read memory write done refused =
        let of = of_file input old new (λ bytes. IsFirstFault bytes fault) (refused fault refl) in (of.0, of.1, completes_refused of.0 fault of.2)
    completes outcome.Usage usage read memory write done refused = absurd (usage refl)
    completes outcome.ReadFault usage read memory write done refused = absurd (read refl)
    completes outcome.WriteFault usage read memory write done refused = absurd (write refl)
    completes outcome.Memory usage read memory write done refused = absurd (memory refl)
