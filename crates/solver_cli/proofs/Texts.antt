-- How far the texts that are written of a file have come.
use Rattle.std.proofs.Common.{◌≡◌, ◌⊎◌, ⊎_elim, ℕ, ◌+◌, ◌≤◌, ◌<◌, List, [], ◌∷◌, ◌++◌, length, Option, Result, refl, sym, ◌∙◌, ap, subst, arith, append_assoc}
use Rattle.std.proofs.lemmas.List.{append-nil, get_or_append_left, get_or_push, length_push}
use Rattle.std.proofs.Math.Nat.{eq-or-lt_of_le}
use Rattle.std.proofs.KnownBytes.{Appends-nil, Appends-trans}
use Rattle.std.specs.Io.KnownBytes.{Appends}
use Rattle.io_edge.specs.declared.failed.Failed.{Failed}
use Rattle.solver_cli.specs.Language.{File}
use Rattle.solver_cli.specs.Writing.{WritesWhole, WritesEach, IsWhole, IsCut}
use Rattle.solver_cli.specs.Writing.WritesEach.{none, next}
use Rattle.solver_cli.specs.Run.{Output, text_count, IsRightText, AreFirstTexts, joined, WritesSome, WritesAll, WritesFewer, WritesCut}

joined-push : (texts : List (List ℕ)) (text : List ℕ) → joined (texts ++ text ∷ []) ≡ joined texts ++ text
joined-push [] text = append-nil text
joined-push (t ∷ texts) text = ap (λ (l : List ℕ). t ++ l) (joined-push texts text) ∙ sym (append_assoc t (joined texts) text)

first_push : (output : Output) (file : File) (texts : List (List ℕ)) (text : List ℕ) → AreFirstTexts output file texts → length texts < text_count output file → IsRightText output file (length texts) text
    → AreFirstTexts output file (texts ++ text ∷ [])
first_push output file texts text first room right = record {
  no_more = omega (arith, length_push texts text, room);
  each = λ i lt. ⊎_elim
      (λ last. subst (λ (t : List ℕ). IsRightText output file i t) (sym (get_or_push texts text [] i (sym last))) (subst (λ (k : ℕ). IsRightText output file k text) (sym last) right))
      (λ earlier. subst (λ (t : List ℕ). IsRightText output file i t) (sym (get_or_append_left texts (text ∷ []) [] i earlier)) (first.each i earlier))
      (which i (omega (arith, lt, length_push texts text)));
}
  where
    which : (i : ℕ) → i < length texts + 1 → (i ≡ length texts) ⊎ (i < length texts)
    which i lt = eq-or-lt_of_le (omega (arith, lt))

module _ {O : Type 0} (writes : O → List ℕ → Result ℕ Failed → O → Type 0) where
  whole_push : {old middle new : O} {texts : List (List ℕ)} {text : List ℕ} → WritesEach writes old texts middle → WritesWhole writes middle text new → WritesEach writes old (texts ++ text ∷ []) new
  whole_push none last = next last none
  whole_push (next first rest) last = next first (whole_push rest last)

-- so many of the right texts went out
pub record Reached {O : Type 0} (writes : O → List ℕ → Result ℕ Failed → O → Type 0) (taken : O → Option (List ℕ)) (faults : O → ℕ) (output : Output) (file : File) (place : ℕ) (old now : O) : Type 0 where
  pub some : WritesSome writes taken output file old now
  pub at : length some.texts ≡ place
  pub count : faults old ≤ faults now

module _ {O : Type 0} (writes : O → List ℕ → Result ℕ Failed → O → Type 0) (taken : O → Option (List ℕ)) (faults : O → ℕ) (output : Output) (file : File) where
  pub begun : (old : O) → Reached writes taken faults output file 0 old old
  begun old = record {
    some = record {
      texts = [];
      right = record { no_more = omega arith; each = λ i lt. absurd (omega (arith, lt)) };
      calls = none;
      known = Appends-nil (taken old);
    };
    at = refl;
    count = omega arith;
  }

  right_here : (place : ℕ) (old now : O) (text : List ℕ) (far : Reached writes taken faults output file place old now) → IsRightText output file place text → IsRightText output file (length far.some.texts) text
  right_here place old now text far right = subst (λ (k : ℕ). IsRightText output file k text) (sym far.at) right

  pub stepped : (place : ℕ) (old middle new : O) (text : List ℕ) → Reached writes taken faults output file place old middle → place < text_count output file → IsRightText output file place text
      → IsWhole writes taken middle text new → faults middle ≤ faults new → Reached writes taken faults output file (place + 1) old new
  stepped place old middle new text far room right out count = record {
    some = record {
      texts = far.some.texts ++ text ∷ [];
      right = first_push output file far.some.texts text far.some.right (omega (arith, far.at, room)) (right_here place old middle text far right);
      calls = whole_push writes far.some.calls out.calls;
      known = subst (λ (l : List ℕ). Appends (taken old) (taken new) l) (sym (joined-push far.some.texts text)) (Appends-trans (taken old) (taken middle) (taken new) _ _ far.some.known out.known);
    };
    at = omega (arith, far.at, length_push far.some.texts text);
    count = omega (arith, far.count, count);
  }

  pub ended : (place : ℕ) (old now : O) → Reached writes taken faults output file place old now → place ≡ text_count output file → WritesAll writes taken output file old now
  ended place old now far last = record { some = far.some; all = far.at ∙ last }

  abbrev pub fewer : (place : ℕ) (old now : O) → Reached writes taken faults output file place old now → place < text_count output file → WritesFewer writes taken output file old now
  fewer place old now far room = record { some = far.some; fewer = omega (arith, far.at, room) }

  pub was_cut : (place : ℕ) (old middle new : O) (text : List ℕ) → Reached writes taken faults output file place old middle → place < text_count output file → IsRightText output file place text
      → IsCut writes taken middle text new → WritesCut writes taken output file old new
  was_cut place old middle new text far room right cut = record {
    middle = middle;
    fewer = fewer place old middle far room;
    next = text;
    right = right_here place old middle text far right;
    cut = cut;
  }
