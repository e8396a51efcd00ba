-- How far the reading loop has come.
use Rattle.std.proofs.Common.{◌≡◌, ℕ, ◌+◌, ◌≤◌, ◌<◌, List, [], ◌++◌, length, take, Option, Result, Ok, Err, refl, ◌∙◌, ap, subst, arith, length-append}
use Rattle.std.proofs.lemmas.List.{append-nil, length-take-le}
use Rattle.std.proofs.KnownBytes.{Consumes-nil, Consumes-trans}
use Rattle.std.specs.Io.KnownBytes.{Consumes, IsAtEnd}
use Rattle.io_edge.specs.declared.failed.Failed.{Failed}
use Rattle.solver_cli.specs.Reading.{ReadsSome, ReadsAll, ReadsFailing}
use Rattle.solver_cli.specs.Reading.Takes.{nothing, more}
use Rattle.solver_cli.specs.Reading.EndsReading.{full, ended}

module _ {S : Type 0} (reads : S → ℕ → Result ℕ Failed → List ℕ → S → Type 0) (left : S → Option (List ℕ)) (most : ℕ) where
  pub begun : (old : S) → ReadsSome reads left most old [] old
  begun old = record { calls = nothing; within = omega arith; known = Consumes-nil (left old) }

  pub stepped : (old middle new : S) (bytes into : List ℕ) (room n : ℕ) → ReadsSome reads left most old bytes middle → room ≡ length into → length bytes + room ≤ most → 1 ≤ n → n ≤ length into
      → reads middle room (Ok n) into new → Consumes (left middle) (left new) (take n into) → ReadsSome reads left most old (bytes ++ take n into) new
  stepped old middle new bytes into room n far size missing some fits call consumed = record {
    calls = more n far.calls (record { some = omega (arith, some, fits); missing = omega (arith, size, missing) }) some fits (subst (λ (r : ℕ). reads middle r (Ok n) into new) size call);
    within = omega (arith, length-append bytes (take n into), length-take-le n into fits, size, missing, fits);
    known = Consumes-trans (left old) (left middle) (left new) bytes (take n into) far.known consumed;
  }

  pub found_end : (old middle new : S) (bytes into : List ℕ) (room n : ℕ) → ReadsSome reads left most old bytes middle → room ≡ length into → length bytes + room ≤ most → 1 ≤ room → n ≡ 0
      → reads middle room (Ok n) into new → Consumes (left middle) (left new) (take n into) → (n ≡ 0 → 0 < length into → IsAtEnd (left new)) → ReadsAll reads left most old bytes new
  found_end old middle new bytes into room n far size missing some none call consumed end = record {
    middle = middle;
    taken = far;
    ends = ended (record { some = omega (arith, size, some); missing = omega (arith, size, missing) })
        (subst (λ (k : ℕ). reads middle (length into) (Ok k) into new) none (subst (λ (r : ℕ). reads middle r (Ok n) into new) size call));
    known = subst (λ (l : List ℕ). Consumes (left old) (left new) l) (ap (λ (k : ℕ). bytes ++ take k into) none ∙ append-nil bytes)
        (Consumes-trans (left old) (left middle) (left new) bytes (take n into) far.known consumed);
    at_end = λ _. end none (omega (arith, size, some));
  }

  pub filled : (old new : S) (bytes : List ℕ) → ReadsSome reads left most old bytes new → most ≤ length bytes → ReadsAll reads left most old bytes new
  filled old new bytes far all = record {
    middle = new;
    taken = far;
    ends = full (omega (arith, far.within, all)) refl;
    known = far.known;
    at_end = λ fewer. absurd (omega (arith, fewer, all));
  }

  pub failed : (old middle new : S) (bytes into : List ℕ) (room : ℕ) → ReadsSome reads left most old bytes middle → room ≡ length into → length bytes + room ≤ most → 1 ≤ room
      → reads middle room (Err (record {})) into new → ReadsFailing reads left most old bytes new
  failed old middle new bytes into room far size missing some call = record {
    middle = middle;
    into = into;
    taken = far;
    room = record { some = omega (arith, size, some); missing = omega (arith, size, missing) };
    call = subst (λ (r : ℕ). reads middle r (Err (record {})) into new) size call;
  }
