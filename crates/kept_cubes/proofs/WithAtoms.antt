-- Scopes with further atoms in the top one.
use Rattle.std.proofs.Common.{ℕ, ◌≡◌, ◌<◌, ◌≤◌, ◌+◌, Bool, true, false, List, [], ◌∷◌, ◌++◌, length, take, drop, get_or, refl, sym, ap, ◌∙◌, subst, arith, append_assoc}
use Rattle.std.specs.Prelude.{All}
use Rattle.std.proofs.lemmas.List.{append-nil, take_more, take_all, take-append-drop, length-append}
use Rattle.tree_model.specs.Signatures.{Signature}
use Rattle.tree_model.specs.Valuations.{Valuation}
use Rattle.flat_form.specs.declared.atom.Flat.{Flat}
use Rattle.flat_form.specs.Meanings.{BasicHolds, HasNone}
use Rattle.flat_form.specs.Numbering.{AtomOver, BasicOver}
use Rattle.flat_facts.proofs.Lists.{both_hold, front_holds, later_holds}
use Rattle.basic_solver.specs.declared.scope.Scope.{Scope}
use Rattle.basic_solver.specs.declared.scope.Asserted.TheVariants.{Clash, Kept}
use Rattle.basic_solver.specs.Stores.{atoms_of, open_in, below, top_of, with_atom, IsAnswer}
use Rattle.basic_solver.proofs.Storing.{atoms_with, open_with, length_with, below_with, atoms_push, open_push, below_push, top_push}
use Rattle.kept_cubes.specs.Asking.{with_atoms, IsOverSame, AreAsserted}

pub with_one_more : (xs : List Flat) (a : Flat) (scopes : List Scope) → with_atoms (xs ++ a ∷ []) scopes ≡ with_atom a (with_atoms xs scopes)
with_one_more [] a scopes = refl
with_one_more (x ∷ xs) a scopes = with_one_more xs a (with_atom x scopes)

pub length_with_all : (xs : List Flat) (scopes : List Scope) → length (with_atoms xs scopes) ≡ length scopes
length_with_all [] scopes = refl
length_with_all (x ∷ xs) scopes = length_with_all xs (with_atom x scopes) ∙ length_with scopes x

pub open_with_all : (xs : List Flat) (scopes : List Scope) → open_in (with_atoms xs scopes) ≡ open_in scopes
open_with_all [] scopes = refl
open_with_all (x ∷ xs) scopes = open_with_all xs (with_atom x scopes) ∙ open_with scopes x

pub below_with_all : (xs : List Flat) (scopes : List Scope) → below (with_atoms xs scopes) ≡ below scopes
below_with_all [] scopes = refl
below_with_all (x ∷ xs) scopes = below_with_all xs (with_atom x scopes) ∙ below_with scopes x

pub atoms_with_all : (xs : List Flat) (scopes : List Scope) → 0 < length scopes → atoms_of (with_atoms xs scopes) ≡ atoms_of scopes ++ xs
atoms_with_all [] scopes w = sym (append-nil (atoms_of scopes))
atoms_with_all (x ∷ xs) scopes w =
    atoms_with_all xs (with_atom x scopes) (omega (arith, w, length_with scopes x))
    ∙ ap (λ (z : List Flat). z ++ xs) (atoms_with scopes x w)
    ∙ append_assoc (atoms_of scopes) (x ∷ []) xs

top_with : (scopes : List Scope) (a : Flat) → 0 < length scopes → top_of (with_atom a scopes) ≡ top_of scopes ++ a ∷ []
top_with [] a w = absurd (omega (arith, w))
top_with (x ∷ []) a w = refl
top_with (x ∷ y ∷ []) a w = refl
top_with (x ∷ y ∷ z ∷ rest) a w = top_with (y ∷ z ∷ rest) a (omega arith)

pub top_with_all : (xs : List Flat) (scopes : List Scope) → 0 < length scopes → top_of (with_atoms xs scopes) ≡ top_of scopes ++ xs
top_with_all [] scopes w = sym (append-nil (top_of scopes))
top_with_all (x ∷ xs) scopes w =
    top_with_all xs (with_atom x scopes) (omega (arith, w, length_with scopes x))
    ∙ ap (λ (z : List Flat). z ++ xs) (top_with scopes x w)
    ∙ append_assoc (top_of scopes) (x ∷ []) xs

-- the scopes after some of the atoms were asserted
module _ (old now : List Scope) (atoms : List Flat) (i : ℕ) (so_far : now ≡ with_atoms (take i atoms) old) where
  pub still_over_same : IsOverSame old now
  still_over_same = record {
    below_is = ap below so_far ∙ below_with_all (take i atoms) old;
    as_many = ap length so_far ∙ length_with_all (take i atoms) old;
  }

  pub still_open : open_in now ≡ open_in old
  still_open = ap open_in so_far ∙ open_with_all (take i atoms) old

  pub all_asserted : length atoms ≤ i → AreAsserted old atoms now true
  all_asserted end = so_far ∙ ap (λ (z : List Flat). with_atoms z old) (take_all i atoms end)

  module _ (atom : Flat) (within : i < length atoms) (is : atom ≡ get_or atoms i atom) where
    next_taken : take (i + 1) atoms ≡ take i atoms ++ atom ∷ []
    next_taken = take_more atoms i atom within ∙ ap (λ (z : Flat). take i atoms ++ z ∷ []) (sym is)

    pub next_over : BasicOver (open_in old) atoms → AtomOver (open_in now) atom
    next_over over = subst (λ (n : ℕ). AtomOver n atom) (sym still_open) (subst (λ (z : Flat). AtomOver (open_in old) z) (sym is) (over i atom within))

    pub one_kept : (new : List Scope) (added : Bool) → IsAnswer now new atom (Kept added) → new ≡ with_atoms (take (i + 1) atoms) old
    one_kept new added answer =
        answer.0
        ∙ ap (with_atom atom) so_far
        ∙ sym (with_one_more (take i atoms) atom old)
        ∙ ap (λ (z : List Flat). with_atoms z old) (sym next_taken)

    front_is : 0 < length old → atoms_of now ++ atom ∷ [] ≡ atoms_of old ++ take (i + 1) atoms
    front_is some =
        ap (λ (z : List Scope). atoms_of z ++ atom ∷ []) so_far
        ∙ ap (λ (z : List Flat). z ++ atom ∷ []) (atoms_with_all (take i atoms) old some)
        ∙ append_assoc (atoms_of old) (take i atoms) (atom ∷ [])
        ∙ ap (λ (z : List Flat). atoms_of old ++ z) (sym next_taken)

    pub one_clashes : 0 < length old → (new : List Scope) → IsAnswer now new atom Clash → AreAsserted old atoms new false
    one_clashes some new answer σ e = λ holds.
        let mine : BasicHolds e atoms = later_holds e (atoms_of old) atoms holds in
        let front : BasicHolds e (take (i + 1) atoms) =
        front_holds e (take (i + 1) atoms) (drop (i + 1) atoms) (subst (λ (z : List Flat). BasicHolds e z) (sym (take-append-drop (i + 1) atoms)) mine) in
        let both : BasicHolds e (atoms_of old ++ take (i + 1) atoms) = both_hold e (atoms_of old) (take (i + 1) atoms) (front_holds e (atoms_of old) atoms holds) front in
        answer.1 σ e (subst (λ (z : List Flat). BasicHolds e z) (sym (front_is some)) both)

-- a scope that was opened, and what is asserted in one that was empty
pub pushed_over : (old new : List Scope) (s : Scope) → new ≡ old ++ s ∷ [] → below new ≡ old
pushed_over old new s e = ap below e ∙ below_push old s

pub pushed_open : (old new : List Scope) (s : Scope) → new ≡ old ++ s ∷ [] → open_in new ≡ open_in old + s.variables
pushed_open old new s e = ap open_in e ∙ open_push old s

pub pushed_top : (old new : List Scope) (s : Scope) → new ≡ old ++ s ∷ [] → top_of new ≡ s.atoms
pushed_top old new s e = ap top_of e ∙ top_push old s

pub pushed_atoms : (old new : List Scope) (s : Scope) → new ≡ old ++ s ∷ [] → s.atoms ≡ [] → atoms_of new ≡ atoms_of old
pushed_atoms old new s e empty = ap atoms_of e ∙ atoms_push old s ∙ ap (λ (z : List Flat). atoms_of old ++ z) empty ∙ append-nil (atoms_of old)

pub popped : (old opened new last : List Scope) (s : Scope) → opened ≡ old ++ s ∷ [] → IsOverSame opened new → last ≡ below new → last ≡ old
popped old opened new last s e over is = is ∙ over.below_is ∙ pushed_over old opened s e
