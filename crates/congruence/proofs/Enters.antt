-- A beginning, and turns until nothing waits.
use Rattle.std.proofs.Common.{ℕ, ◌≡◌, Bool, true, false, List, [], ◌∷◌, ◌++◌, length, sym, ◌∙◌, ap, subst, inl, inr, None, arith}
use Rattle.std.specs.Prelude.{slice_index_or, MatchBool}
use Rattle.std.proofs.lemmas.Bool.{cases_lt}
use Rattle.std.proofs.lemmas.List.{get_or_past}
use Rattle.flat_form.specs.declared.atom.Flat.{Flat}
use Rattle.term_graph.specs.Contents.{Contents, target, target_of, IsWellFormed}
use Rattle.term_graph.proofs.Forests.{root_of_root}
use Rattle.settled_facts.specs.Settled.{IsFree, IsMarked}
use Rattle.settled_facts.proofs.Changing.{later_later}
use Rattle.congruence.specs.Agenda.{Agenda, idle}
use Rattle.congruence.specs.Turns.{LeadsOn, Refutes}
use Rattle.congruence.specs.Begun.{IsBegun, RefutesAtom}
use Rattle.congruence.proofs.Atoms.{contains_none}
use Rattle.congruence.proofs.LeadingOn.{owners_now}

pub begun_closed : (c d e : Contents) (owners more : List ℕ) (a : Agenda) (s t : List ℕ) (atom : Flat) → IsWellFormed d → IsBegun c d owners more a s atom → LeadsOn more d e a idle s t → IsBegun c e owners more idle t atom
begun_closed c d e owners more a s t atom formed begun on =
    let free_first : (r : ℕ) → IsFree d r → IsFree c r = λ r free.
    let stop : target_of d.bindings r ≡ None = ap target free in
    let then : target_of c.bindings r ≡ None = begun.later.roots r stop in
    subst (IsFree c) (root_of_root c.bindings r then) (begun.later.free r (subst (IsFree d) (sym (root_of_root d.bindings r stop)) free)) in
    let mark_first : (r : ℕ) → IsMarked d r → IsMarked c r = λ r mark. subst (λ z. slice_index_or z r false ≡ true) begun.marks mark in
    record {
      underway = λ below settled. on.underway (below ++ atom ∷ []) (begun.underway below settled);
      later = later_later c d e begun.later on.later;
      marks = on.marks ∙ begun.marks;
      owned = owners_now more d e a idle s t on begun.owned;
      range = record { equal = λ x y inside. absurd (contains_none (x, y) inside); alike = λ x y inside. absurd (contains_none (x, y) inside) };
      lost = λ r free mark. elim (begun.lost r free mark) [
        | inl still ↦ on.watched.lost r still (subst (λ z. slice_index_or z r false ≡ true) (sym begun.marks) mark)
        | inr inside ↦ inr (on.watched.kept r inside)
      ];
      said = λ u is. on.watched.kept u (begun.said u is);
      each = λ r inside. elim (on.watched.each r inside) [
        | inl was ↦ let it = begun.each r was in (omega (arith, it.0, on.later.variables), it.1)
        | inr (free, mark) ↦ (
          elim (cases_lt r (length d.marks)) [
            | inl low ↦ omega (arith, low, formed.sizes, on.later.variables)
            | inr high ↦ absurd (let past : slice_index_or d.marks r false ≡ false = get_or_past d.marks r false high in cc)
          ],
          inr (free_first r free, mark_first r mark),
        )
      ];
    }

pub begun_refutes : (c d : Contents) (owners more : List ℕ) (a : Agenda) (s : List ℕ) (atom : Flat) → IsBegun c d owners more a s atom → Refutes more d a → RefutesAtom c owners atom
begun_refutes c d owners more a s atom begun none below settled = none (below ++ atom ∷ []) (begun.underway below settled)

pub held_by : (P Q : Type 0) (b : Bool) → b ≡ true → MatchBool b P Q → P
held_by P Q b e is = subst (λ z. MatchBool z P Q) e is

pub failed_by : (P Q : Type 0) (b : Bool) → b ≡ false → MatchBool b P Q → Q
failed_by P Q b e is = subst (λ z. MatchBool z P Q) e is
