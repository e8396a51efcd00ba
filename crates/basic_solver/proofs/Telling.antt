-- What the outcome of solving says of lists of atoms.
use Rattle.std.proofs.Common.{ℕ, zero, suc, ◌≡◌, ◌<◌, ◌≤◌, ◌+◌, Bool, true, false, not, List, [], ◌∷◌, ◌++◌, length, take, get_or, refl, sym, ap, ◌∙◌, subst, arith, rules, Some, None, Result, Ok, Err, append_assoc}
use Rattle.std.specs.Prelude.{◌↔◌, IsTrue, slice_set, slice_get, OnOk}
use Rattle.std.proofs.lemmas.Option.{slice_get_within, get_or_from_slice_get}
use Rattle.std.proofs.lemmas.List.{take_more, take_all, length-append, get_or_append_left}
use Rattle.std.proofs.lemmas.List.Elements.{All-append, All-cons, All-nil}
use Rattle.tree_model.specs.Signatures.{Signature}
use Rattle.flat_form.specs.declared.atom.Flat.{Flat}
use Rattle.flat_form.specs.Fitting.{AtomFits, BasicFits}
use Rattle.flat_form.specs.Numbering.{AtomOver, BasicOver}
use Rattle.flat_form.specs.Meanings.{HasNone}
use Rattle.flat_form.specs.Classes.{Unsolvable}
use Rattle.flat_form.specs.Solved.{IsSolved}
use Rattle.flat_form.specs.Added.{IsSolvedForm}
use Rattle.flat_facts.proofs.Existence.{solvable_solution}
use Rattle.flat_facts.proofs.Follows.{added_over}
use Rattle.flat_facts.proofs.Lists.{both_hold, front_holds, later_holds}
use Rattle.flat_facts.proofs.Shapes.{solved_form_solved}
use Rattle.flat_facts.proofs.Solutions.{solved_form_means}
use Rattle.flat_facts.proofs.Stores.{nothing_to_store}
use Rattle.basic_solver.specs.declared.scope.Scope.{Scope}
use Rattle.basic_solver.specs.Outcomes.{IsOutcome}
use Rattle.basic_solver.specs.Stores.{atoms_of, with_atom, Implies, IsVerdict, SaysMore, IsFormFor, IsExtraFor}
use Rattle.basic_solver.proofs.Storing.{atoms_push}

-- the empty conjunction is solved
pub empty_solved : IsSolved []
empty_solved = record {
  ascending = tt;
  direct = λ u r i. absurd (omega (arith, i.1));
  plain = λ u s xs i. absurd (omega (arith, i.1));
  apart = λ u v s xs i. absurd (omega (arith, i.1));
}

pub form_from : (count : ℕ) (atoms form : List Flat) → BasicOver count atoms → IsOutcome [] atoms (Some form) → IsFormFor count atoms form
form_from count atoms form over added = record {
  form = λ some. added;
  shape = solved_form_solved atoms form added;
  over = added_over count [] atoms form over added;
}

pub form_none : (count : ℕ) (atoms form : List Flat) → form ≡ [] → IsOutcome [] atoms None → IsFormFor count atoms form
form_none count atoms form e none = record {
  form = λ some. absurd (some none);
  shape = subst (λ (z : List Flat). IsSolved z) (sym e) empty_solved;
  over = subst (λ (z : List Flat). BasicOver count z) (sym e) (All-nil (AtomOver count));
}

pub verdict_yes : (atoms form : List Flat) → IsOutcome [] atoms (Some form) → IsVerdict atoms true
verdict_yes atoms form added = added.solvable

-- atoms that can be solved with others can be solved
pub solved_together : (σ : Signature) (lower more : List Flat) → BasicFits σ (lower ++ more) → ¬ Unsolvable (lower ++ more) → ¬ HasNone lower
solved_together σ lower more fits solvable = λ none.
    (solvable_solution σ (lower ++ more) fits).1 solvable (λ (e, holds). none σ e (front_holds e lower more holds))

pub one_over : (count : ℕ) (atoms : List Flat) (atom : Flat) → BasicOver count atoms → AtomOver count atom → BasicOver count (atoms ++ atom ∷ [])
one_over count atoms atom over one = All-append (AtomOver count) atoms (atom ∷ []) over (All-cons (AtomOver count) atom [] one (All-nil (AtomOver count)))

front_fits : (σ : Signature) (lower more : List Flat) → BasicFits σ (lower ++ more) → BasicFits σ lower
front_fits σ lower more fits k d w = subst (λ (z : Flat). AtomFits σ z) (get_or_append_left lower more d k w) (fits k d (omega (arith, length-append lower more)))

-- where both do not fail together, the solved form of the first and the further atoms have a solution
contradicts : (σ : Signature) (lower more form : List Flat) → BasicFits σ (lower ++ more) → ¬ Unsolvable (lower ++ more) → IsSolvedForm lower form → ¬ HasNone (form ++ more)
contradicts σ lower more form fits solvable solved = λ none.
    (solvable_solution σ (lower ++ more) fits).1 solvable
    (λ (e, holds). none σ e (both_hold e form more ((solved_form_means σ lower form e solved).1 (front_holds e lower more holds)) (later_holds e lower more holds)))

not_tells : (b : Bool) (E P : Type 0) → IsTrue b ↔ E → E ↔ P → (not b ≡ false) ↔ P
not_tells true E P t e = (λ q. e.0 (t.0 (search rules)), λ p. refl)
not_tells false E P t e = (λ q. cc, λ p. cc (t.1 (e.1 p)))

pub more_said : (count : ℕ) (atoms form extra : List Flat) (atom : Flat) (b : Bool) → IsFormFor count atoms form → IsOutcome form (form ++ atom ∷ []) (Some extra)
    → IsTrue b ↔ (extra ≡ []) → SaysMore atoms atom (not b)
more_said count atoms form extra atom b f added tells = λ solvable σ fits.
    let solved : IsSolvedForm atoms form = f.form (solved_together σ atoms (atom ∷ []) fits solvable) in
    let law = nothing_to_store σ atoms form (atom ∷ []) extra solved added (front_fits σ atoms (atom ∷ []) fits) in
    not_tells b (extra ≡ []) (Implies σ atoms atom) tells (λ e x holds. (law.0 e x holds).0, λ implied. law.1 (λ x holds. (implied x holds, tt)))

pub more_none : (count : ℕ) (atoms form : List Flat) (atom : Flat) → IsFormFor count atoms form → IsOutcome form (form ++ atom ∷ []) None → SaysMore atoms atom true
more_none count atoms form atom f none = λ solvable σ fits.
    absurd (contradicts σ atoms (atom ∷ []) form fits solvable (f.form (solved_together σ atoms (atom ∷ []) fits solvable)) none)

pub extra_some : (count : ℕ) (lower top form extra : List Flat) → IsFormFor count lower form → IsOutcome form (form ++ top) (Some extra) → IsExtraFor lower top extra
extra_some count lower top form extra f added = λ σ fits solvable. (form, f.form (solved_together σ lower top fits solvable), added)

-- it is over the variables of both
pub extra_over : (count : ℕ) (lower top form extra : List Flat) → IsFormFor count lower form → BasicOver count top → IsOutcome form (form ++ top) (Some extra)
    → BasicOver count extra
extra_over count lower top form extra f over added = added_over count form (form ++ top) extra (All-append (AtomOver count) form top f.over over) added

pub extra_none : (count : ℕ) (lower top form extra : List Flat) → IsFormFor count lower form → IsOutcome form (form ++ top) None → IsExtraFor lower top extra
extra_none count lower top form extra f none = λ σ fits solvable.
    absurd (contradicts σ lower top form fits solvable (f.form (solved_together σ lower top fits solvable)) none)

-- a further scope
pub gather_more : (scopes : List Scope) (i : ℕ) (d : Scope) (atoms : List Flat) → i < length scopes → atoms ≡ atoms_of (take i scopes)
    → atoms ++ (get_or scopes i d).atoms ≡ atoms_of (take (i + 1) scopes)
gather_more scopes i d atoms w e =
    ap (λ (z : List Flat). z ++ (get_or scopes i d).atoms) e ∙ sym (atoms_push (take i scopes) (get_or scopes i d)) ∙ ap atoms_of (sym (take_more scopes i d w))

pub push_more : (first more now new : List Flat) (i : ℕ) (x y : Flat) → now ≡ first ++ take i more → new ≡ now ++ y ∷ [] → y ≡ x → slice_get more i ≡ Some x
    → new ≡ first ++ take (i + 1) more
push_more first more now new i x y e f same at =
    let w : i < length more = slice_get_within more i x at in
    let last : y ≡ get_or more i x = same ∙ sym (get_or_from_slice_get more i x x at) in
    f ∙ ap (λ (z : List Flat). z ++ y ∷ []) e ∙ append_assoc first (take i more) (y ∷ [])
    ∙ ap (λ (z : List Flat). first ++ z) (ap (λ (z : Flat). take i more ++ z ∷ []) last ∙ sym (take_more more i x w))

pub gather_step : (scopes : List Scope) (i : ℕ) (x : Scope) (old new : List Flat) → i < length scopes → x ≡ get_or scopes i x → old ≡ atoms_of (take i scopes)
    → new ≡ old ++ x.atoms → new ≡ atoms_of (take (i + 1) scopes)
gather_step scopes i x old new w is e f =
    f ∙ ap (λ (z : Scope). old ++ z.atoms) is ∙ gather_more scopes i x old w e

pub set_last : (scopes : List Scope) (i : ℕ) (x : Scope) (a : Flat) (new : List Flat) → i + 1 ≡ length scopes → x ≡ get_or scopes i x → new ≡ x.atoms ++ a ∷ []
    → slice_set scopes i (record { variables = x.variables; atoms = new }) ≡ with_atom a scopes
set_last [] i x a new len is e = absurd (omega (arith, len))
set_last (s ∷ []) zero x a new len is e =
    let one : Scope = record { variables = x.variables; atoms = new } in
    let two : Scope = record { variables = x.variables; atoms = x.atoms ++ a ∷ [] } in
    let three : Scope = record { variables = s.variables; atoms = s.atoms ++ a ∷ [] } in
    let f : one ≡ two = ap {B = Scope} (λ (z : List Flat). record { variables = x.variables; atoms = z }) e in
    let g : two ≡ three = ap {B = Scope} (λ (z : Scope). record { variables = z.variables; atoms = z.atoms ++ a ∷ [] }) is in
    ap (λ (z : Scope). z ∷ []) (f ∙ g)
set_last (s ∷ []) (suc i) x a new len is e = absurd (omega (arith, len))
set_last (s ∷ t ∷ rest) zero x a new len is e = absurd (omega (arith, len))
set_last (s ∷ t ∷ rest) (suc i) x a new len is e = ap (λ (z : List Scope). s ∷ z) (set_last (t ∷ rest) i x a new (omega (arith, len)) is e)

pub on_ok : {T E : Type 0} (r : Result T E) (P Q : Type 0) → (P → Q) → OnOk r P → OnOk r Q
on_ok (Ok x) P Q f h = f h
on_ok (Err e) P Q f h = tt

pub all_taken_atoms : (scopes : List Scope) (n : ℕ) → length scopes ≤ n → atoms_of (take n scopes) ≡ atoms_of scopes
all_taken_atoms scopes n w = ap atoms_of (take_all n scopes w)
