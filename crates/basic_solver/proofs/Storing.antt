-- Lists of scopes.
use Rattle.std.proofs.Common.{ℕ, suc, ◌≡◌, ◌<◌, ◌≤◌, ◌+◌, List, [], ◌∷◌, ◌++◌, length, refl, sym, ap, ◌∙◌, subst, arith, append_assoc}
use Rattle.std.specs.Prelude.{Contains}
use Rattle.std.proofs.lemmas.List.{append-nil, length-append}
use Rattle.std.proofs.lemmas.List.Elements.{All-weaker, All-append, All-cons, All-nil, Contains-append_left}
use Rattle.flat_form.specs.declared.atom.Flat.{Flat}
use Rattle.flat_form.specs.declared.atom.Flat.TheVariants.{VarVar, VarTerm, Finite}
use Rattle.flat_form.specs.Numbering.{AtomOver, BasicOver}
use Rattle.flat_form.specs.Classes.{Class, itself, turned, joined, stated, inward, outward, Reached, marked, child, Walk, step, more, Unsolvable, clash, loop}
use Rattle.basic_solver.specs.declared.scope.Scope.{Scope}
use Rattle.basic_solver.specs.Stores.{atoms_of, open_in, below, top_of, with_atom, AreOver, IsStore}

-- what more atoms leave as it is
module _ (some all : List Flat) (sub : (a : Flat) → Contains some a → Contains all a) where
  class_in : {u v : ℕ} → Class some u v → Class all u v
  class_in (itself u) = itself u
  class_in (turned c) = turned (class_in c)
  class_in (joined c d) = joined (class_in c) (class_in d)
  class_in (stated {u} {v} i) = stated (sub (VarVar u v) i)
  class_in (inward {u} {v} s xs ys a b len c i w) = inward s xs ys (sub (VarTerm u s xs) a) (sub (VarTerm v s ys) b) len (class_in c) i w
  class_in (outward {u} {v} s xs ys a b len c) = outward s xs ys (sub (VarTerm u s xs) a) (sub (VarTerm v s ys) b) len (λ i w. class_in (c i w))

  reached_in : {v : ℕ} → Reached some v → Reached all v
  reached_in (marked {u} {v} i c) = marked (sub (Finite u) i) (class_in c)
  reached_in (child {u} {w} s xs r i k l c) = child s xs (reached_in r) (sub (VarTerm u s xs) i) k l (class_in c)

  walk_in : {u w : ℕ} → Walk some u w → Walk all u w
  walk_in (step {u} {v} {w} s xs c i k l d) = step s xs (class_in c) (sub (VarTerm v s xs) i) k l (class_in d)
  walk_in (more a b) = more (walk_in a) (walk_in b)

  pub unsolvable_in : Unsolvable some → Unsolvable all
  unsolvable_in (clash c) = clash (record {
    left = c.left;
    right = c.right;
    left_symbol = c.left_symbol;
    right_symbol = c.right_symbol;
    xs = c.xs;
    ys = c.ys;
    one_class = class_in c.one_class;
    left_stands = sub (VarTerm c.left c.left_symbol c.xs) c.left_stands;
    right_stands = sub (VarTerm c.right c.right_symbol c.ys) c.right_stands;
    differ = c.differ;
  })
  unsolvable_in (loop r w) = loop (reached_in r) (walk_in w)

pub atom_wider : (m n : ℕ) → m ≤ n → (a : Flat) → AtomOver m a → AtomOver n a
atom_wider m n le (VarVar u v) o = (omega (arith, o.0), omega (arith, o.1))
atom_wider m n le (VarTerm u s xs) o = (omega (arith, o.0), λ k d w. omega (arith, o.1 k d w), o.2)
atom_wider m n le (Finite u) o = omega (arith, o)

pub basic_wider : (m n : ℕ) → m ≤ n → (atoms : List Flat) → BasicOver m atoms → BasicOver n atoms
basic_wider m n le atoms o = All-weaker (AtomOver m) (AtomOver n) (atom_wider m n le) atoms o

pub atoms_push : (scopes : List Scope) (s : Scope) → atoms_of (scopes ++ s ∷ []) ≡ atoms_of scopes ++ s.atoms
atoms_push [] s = append-nil s.atoms
atoms_push (x ∷ xs) s = ap (λ z. x.atoms ++ z) (atoms_push xs s) ∙ sym (append_assoc x.atoms (atoms_of xs) s.atoms)

pub open_push : (scopes : List Scope) (s : Scope) → open_in (scopes ++ s ∷ []) ≡ open_in scopes + s.variables
open_push [] s = omega arith
open_push (x ∷ xs) s = omega (arith, open_push xs s)

pub over_push : (n : ℕ) (scopes : List Scope) (s : Scope) → AreOver n scopes → BasicOver (n + open_in scopes + s.variables) s.atoms → AreOver n (scopes ++ s ∷ [])
over_push n [] s o b = (basic_wider (n + 0 + s.variables) (n + s.variables) (omega arith) s.atoms b, tt)
over_push n (x ∷ xs) s o b = (
  o.0,
  over_push (n + x.variables) xs s o.1 (basic_wider (n + (x.variables + open_in xs) + s.variables) (n + x.variables + open_in xs + s.variables) (omega arith) s.atoms b),
)

pub over_front : (n : ℕ) (scopes : List Scope) (s : Scope) → AreOver n (scopes ++ s ∷ []) → AreOver n scopes
over_front n [] s o = tt
over_front n (x ∷ xs) s o = (o.0, over_front (n + x.variables) xs s o.1)

pub over_all : (n : ℕ) (scopes : List Scope) → AreOver n scopes → BasicOver (n + open_in scopes) (atoms_of scopes)
over_all n [] o = All-nil (AtomOver (n + 0))
over_all n (x ∷ xs) o = All-append (AtomOver (n + (x.variables + open_in xs))) x.atoms (atoms_of xs)
    (basic_wider (n + x.variables) (n + (x.variables + open_in xs)) (omega arith) x.atoms o.0)
    (basic_wider (n + x.variables + open_in xs) (n + (x.variables + open_in xs)) (omega arith) (atoms_of xs) (over_all (n + x.variables) xs o.1))

pub below_push : (scopes : List Scope) (s : Scope) → below (scopes ++ s ∷ []) ≡ scopes
below_push [] s = refl
below_push (x ∷ []) s = refl
below_push (x ∷ y ∷ rest) s = ap (λ z. x ∷ z) (below_push (y ∷ rest) s)

pub top_push : (scopes : List Scope) (s : Scope) → top_of (scopes ++ s ∷ []) ≡ s.atoms
top_push [] s = refl
top_push (x ∷ []) s = refl
top_push (x ∷ y ∷ rest) s = top_push (y ∷ rest) s

pub parts : (scopes : List Scope) → atoms_of scopes ≡ atoms_of (below scopes) ++ top_of scopes
parts [] = refl
parts (x ∷ []) = append-nil x.atoms
parts (x ∷ y ∷ rest) = ap (λ z. x.atoms ++ z) (parts (y ∷ rest)) ∙ sym (append_assoc x.atoms (atoms_of (below (y ∷ rest))) (top_of (y ∷ rest)))

pub atoms_with : (scopes : List Scope) (a : Flat) → 0 < length scopes → atoms_of (with_atom a scopes) ≡ atoms_of scopes ++ a ∷ []
atoms_with [] a w = absurd (omega (arith, w))
atoms_with (x ∷ []) a w = append-nil (x.atoms ++ a ∷ []) ∙ ap (λ z. z ++ a ∷ []) (sym (append-nil x.atoms))
atoms_with (x ∷ y ∷ rest) a w = ap (λ z. x.atoms ++ z) (atoms_with (y ∷ rest) a (omega arith)) ∙ sym (append_assoc x.atoms (atoms_of (y ∷ rest)) (a ∷ []))

pub open_with : (scopes : List Scope) (a : Flat) → open_in (with_atom a scopes) ≡ open_in scopes
open_with [] a = refl
open_with (x ∷ []) a = refl
open_with (x ∷ y ∷ rest) a = ap (λ z. x.variables + z) (open_with (y ∷ rest) a)

pub length_with : (scopes : List Scope) (a : Flat) → length (with_atom a scopes) ≡ length scopes
length_with [] a = refl
length_with (x ∷ []) a = refl
length_with (x ∷ y ∷ rest) a = ap suc (length_with (y ∷ rest) a)

pub below_with : (scopes : List Scope) (a : Flat) → below (with_atom a scopes) ≡ below scopes
below_with [] a = refl
below_with (x ∷ []) a = refl
below_with (x ∷ y ∷ []) a = refl
below_with (x ∷ y ∷ z ∷ rest) a = ap (λ w. x ∷ w) (below_with (y ∷ z ∷ rest) a)

pub over_with : (n : ℕ) (scopes : List Scope) (a : Flat) → AreOver n scopes → AtomOver (n + open_in scopes) a → AreOver n (with_atom a scopes)
over_with n [] a o b = tt
over_with n (x ∷ []) a o b = (
  All-append (AtomOver (n + x.variables)) x.atoms (a ∷ []) o.0
      (All-cons (AtomOver (n + x.variables)) a [] (atom_wider (n + (x.variables + 0)) (n + x.variables) (omega arith) a b) (All-nil (AtomOver (n + x.variables)))),
  tt,
)
over_with n (x ∷ y ∷ rest) a o b = (
  o.0,
  over_with (n + x.variables) (y ∷ rest) a o.1 (atom_wider (n + (x.variables + open_in (y ∷ rest))) (n + x.variables + open_in (y ∷ rest)) (omega arith) a b),
)

-- a store without its top scope, with a further one, and with a further atom
pub store_front : (count : ℕ) (scopes : List Scope) (s : Scope) → 0 < length scopes → IsStore count (scopes ++ s ∷ []) → (less : ℕ) → less + s.variables ≡ count
    → IsStore less scopes
store_front count scopes s w store less e = record {
  some = w;
  counted = omega (arith, store.counted, open_push scopes s, e);
  over = over_front 0 scopes s store.over;
  solvable = λ u. store.solvable
      (unsolvable_in (atoms_of scopes) (atoms_of (scopes ++ s ∷ []))
      (λ a i. let P : List Flat → Type 0 = λ z. Contains z a in subst P (sym (atoms_push scopes s)) (Contains-append_left (atoms_of scopes) s.atoms a i)) u);
}

pub store_push : (count : ℕ) (scopes : List Scope) (s : Scope) → s.atoms ≡ [] → IsStore count scopes → IsStore (count + s.variables) (scopes ++ s ∷ [])
store_push count scopes s e store = record {
  some = omega (arith, store.some, length-append scopes (s ∷ []));
  counted = omega (arith, store.counted, open_push scopes s);
  over = over_push 0 scopes s store.over (subst (λ (z : List Flat). BasicOver (0 + open_in scopes + s.variables) z) (sym e) (All-nil (AtomOver (0 + open_in scopes + s.variables))));
  solvable = λ u. store.solvable
      (subst (λ (z : List Flat). Unsolvable z) (atoms_push scopes s ∙ ap (λ z. atoms_of scopes ++ z) e ∙ append-nil (atoms_of scopes)) u);
}

pub store_with : (count : ℕ) (scopes : List Scope) (a : Flat) → IsStore count scopes → AtomOver (open_in scopes) a → ¬ Unsolvable (atoms_of scopes ++ a ∷ [])
    → IsStore count (with_atom a scopes)
store_with count scopes a store over solvable = record {
  some = omega (arith, store.some, length_with scopes a);
  counted = store.counted ∙ sym (open_with scopes a);
  over = over_with 0 scopes a store.over (atom_wider (open_in scopes) (0 + open_in scopes) (omega arith) a over);
  solvable = λ u. solvable (subst (λ (z : List Flat). Unsolvable z) (atoms_with scopes a store.some) u);
}
