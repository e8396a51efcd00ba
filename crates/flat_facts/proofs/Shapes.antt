-- The shape of what is added.
use Rattle.std.proofs.Common.{ℕ, ◌≡◌, ◌<◌, ◌≤◌, List, [], ◌++◌, length, refl, sym, ap, ◌∙◌, arith}
use Rattle.std.specs.Prelude.{slice_index, Contains}
use Rattle.std.proofs.lemmas.List.Elements.{Contains-append_left}
use Rattle.tree_model.specs.declared.tree.Symbol.{Symbol}
use Rattle.tree_facts.specs.Equations.{Equation, equals_variable, equals_term, left_of, HasDistinctLefts}
use Rattle.flat_form.specs.declared.atom.Flat.{Flat}
use Rattle.flat_form.specs.declared.atom.Flat.TheVariants.{VarVar, VarTerm, Finite}
use Rattle.flat_form.specs.Classes.{Class, itself, turned, joined, outward}
use Rattle.flat_form.specs.Solved.{variable_of, Ascends, IsOpen}
use Rattle.flat_form.specs.Added.{IsHead, by_term, by_root, IsAdded}
use Rattle.flat_facts.specs.AddedLaws.{AddedIsDetermined, AddedIsApart, SolvedFormIsSolved}
use Rattle.flat_facts.proofs.Heads.{head_class, head_unique, head_moves, own_head}
use Rattle.flat_facts.proofs.Lists.{one_each, one_list, equations_of, atom_of, atom_stands}

-- an ascending list whose equations with variables are direct has distinct left sides
equation_from : Equation → Flat → Equation
equation_from d (VarVar u r) = equals_variable u r
equation_from d (VarTerm u s xs) = equals_term u s xs
equation_from d (Finite u) = d

from_own : (d q : Equation) → equation_from d (atom_of q) ≡ q
unfolding equation_from
from_own d (equals_variable u r) = refl
from_own d (equals_term u s xs) = refl

left_is : (q : Equation) → variable_of (atom_of q) ≡ left_of q
left_is (equals_variable u r) = refl
left_is (equals_term u s xs) = refl

pub distinct_lefts : (atoms : List Flat) → Ascends atoms → ((u r w : ℕ) → Contains atoms (VarVar u r) → ¬ Contains atoms (VarVar r w))
    → HasDistinctLefts (equations_of atoms)
distinct_lefts atoms up direct = record {
  one_each = λ p q a b e. sym (from_own p p)
      ∙ ap (equation_from p) (one_each atoms up (atom_of p) (atom_of q) (atom_stands atoms p a) (atom_stands atoms q b) (left_is p ∙ e ∙ sym (left_is q)))
      ∙ from_own p q;
  direct = λ u r w a b. direct u r w (atom_stands atoms (equals_variable u r) a) (atom_stands atoms (equals_variable r w) b);
}

no_one : {v w r : ℕ} → ¬ (Finite v ≡ VarVar w r)
no_one = λ e. cc e

no_two : {v w : ℕ} {s : Symbol} {xs : List ℕ} → ¬ (Finite v ≡ VarTerm w s xs)
no_two = λ e. cc e

-- in an ascending list, finite variables are roots
pub finite_open : (atoms : List Flat) → Ascends atoms → (u : ℕ) → Contains atoms (Finite u) → IsOpen atoms u
finite_open atoms up u i = record {
  no_variable = λ r j. no_one (one_each atoms up (Finite u) (VarVar u r) i j refl);
  no_term = λ s xs j. no_two (one_each atoms up (Finite u) (VarTerm u s xs) i j refl);
}

pub added_determined : AddedIsDetermined
added_determined base atoms one other a b =
    one_list one other a.ascending b.ascending (λ x i. b.all x (a.each x i)) (λ x i. a.all x (b.each x i))

module _ (base atoms added : List Flat) (adds : IsAdded base atoms added) where
  -- a head has no variable equation
  head_plain : (v h r : ℕ) → IsHead base atoms v h → ¬ Contains added (VarVar h r)
  head_plain v h r head = λ i. let new = adds.each (VarVar h r) i in new.differ (head_unique base atoms h h r (own_head base atoms v h head) new.head)

  pub added_direct : (u r w : ℕ) → Contains added (VarVar u r) → ¬ Contains added (VarVar r w)
  added_direct u r w i = head_plain u r w (adds.each (VarVar u r) i).head

  pub added_plain : (u : ℕ) (s : Symbol) (ys : List ℕ) → Contains added (VarTerm u s ys) → (i : ℕ) → i < length ys
      → (r : ℕ) → ¬ Contains added (VarVar (slice_index ys i) r)
  added_plain u s ys i k w r = let new = adds.each (VarTerm u s ys) i in
      head_plain (slice_index new.xs k) (slice_index ys k) r (new.heads k (omega (arith, new.as_many)))

  -- no two added equations are equal
  pub added_apart : (u v : ℕ) (s : Symbol) (ys : List ℕ) → Contains added (VarTerm u s ys) → Contains added (VarTerm v s ys) → u ≡ v
  added_apart u v s ys i j =
      let a = adds.each (VarTerm u s ys) i in
      let b = adds.each (VarTerm v s ys) j in
      let inside : Class atoms a.variable b.variable = outward s a.xs b.xs a.stands b.stands (sym a.as_many ∙ b.as_many)
      (λ k w. joined (head_class base atoms (slice_index a.xs k) (slice_index ys k) (a.heads k w))
      (turned (head_class base atoms (slice_index b.xs k) (slice_index ys k) (b.heads k (omega (arith, a.as_many, b.as_many, w)))))) in
      let across : Class atoms u v = joined a.one_class (joined inside (turned b.one_class)) in
      sym (head_unique base atoms u v u (head_moves base atoms v u v (turned across) b.head) a.head)

  -- nor is one equal to one of the base
  pub added_new : ((a : Flat) → Contains base a → Contains atoms a) → (u v : ℕ) (s : Symbol) (ys : List ℕ)
      → Contains base (VarTerm u s ys) → ¬ Contains added (VarTerm v s ys)
  added_new sub u v s ys i = λ j.
      let b = adds.each (VarTerm v s ys) j in
      let inside : Class atoms u b.variable = outward s ys b.xs (sub (VarTerm u s ys) i) b.stands b.as_many
      (λ k w. turned (head_class base atoms (slice_index b.xs k) (slice_index ys k) (b.heads k (omega (arith, b.as_many, w))))) in
      let across : Class atoms v u = joined b.one_class (turned inside) in
      elim b.head [
        | by_term c (t, zs, l) least ↦ b.bare.no_term t zs l
        | by_root none c o least ↦ none u across (s, ys, i)
      ]

pub added_is_apart : AddedIsApart
added_is_apart base more added u v s xs adds stands = (
  λ i. added_new base (base ++ more) added adds (Contains-append_left base more) v u s xs i stands,
  λ i. added_apart base (base ++ more) added adds u v s xs stands i,
)

nothing : (a : Flat) → ¬ Contains [] a
nothing a = λ i. omega (arith, i.1)

pub all_open : (v : ℕ) → IsOpen [] v
all_open v = record { no_variable = λ r. nothing (VarVar v r); no_term = λ s xs. nothing (VarTerm v s xs) }

pub solved_form_solved : SolvedFormIsSolved
solved_form_solved atoms form adds = record {
  ascending = adds.ascending;
  direct = λ u r i. let new = adds.each (VarVar u r) i in (smaller u r new.head new.differ, λ w. added_direct [] atoms form adds u r w i);
  plain = added_plain [] atoms form adds;
  apart = added_apart [] atoms form adds;
}
  where
    smaller : (u r : ℕ) → IsHead [] atoms u r → ¬ (u ≡ r) → r < u
    smaller u r (by_term c (s, xs, i) least) differ = absurd (nothing (VarTerm r s xs) i)
    smaller u r (by_root none c o least) differ = let le : r ≤ u = least u (itself u) (all_open u) in grind (arith, le, differ)
