-- Places of atoms in an ascending conjunction.
use Rattle.std.proofs.Common.{ℕ, ◌≡◌, ◌<◌, ◌≤◌, ◌+◌, List, get_or, refl, sym, ap, ◌∙◌, subst, arith, inl, inr, ◌⊎◌, Some}
use Rattle.std.specs.Prelude.{slice_get, Contains}
use Rattle.std.proofs.lemmas.List.{get_or_default}
use Rattle.std.proofs.lemmas.Option.{slice_get_within, get_or_from_slice_get}
use Rattle.tree_model.specs.declared.tree.Symbol.{Symbol}
use Rattle.flat_form.specs.declared.atom.Flat.{Flat}
use Rattle.flat_form.specs.declared.atom.Flat.TheVariants.{VarVar, VarTerm}
use Rattle.flat_form.specs.Solved.{variable_of, Ascends, HasTerm}
use Rattle.flat_form.proofs.Shapes.{rises_from}
use Rattle.flat_facts.specs.Spread.{IsTarget}
use Rattle.flat_facts.proofs.Lists.{one_each}
use Rattle.finiteness.specs.Places.{StandsAt, HasTermAt}

pub stands_read : (xs : List Flat) (i : ℕ) (a : Flat) → slice_get xs i ≡ Some a → StandsAt xs i a
stands_read xs i a e = (slice_get_within xs i a e, get_or_from_slice_get xs i a a e)

pub stands_as : (xs : List Flat) (i : ℕ) (a b : Flat) → slice_get xs i ≡ Some a → a ≡ b → StandsAt xs i b
stands_as xs i a b e is = subst (λ z. StandsAt xs i z) is (stands_read xs i a e)

pub one_atom : (xs : List Flat) (i : ℕ) (a b : Flat) → StandsAt xs i a → StandsAt xs i b → a ≡ b
one_atom xs i a b p q = sym p.1 ∙ get_or_default xs i a b p.0 ∙ q.1

pub in_list : (xs : List Flat) (i : ℕ) (a : Flat) → StandsAt xs i a → Contains xs a
in_list xs i a p = (i, p.0, p.1)

pub term_in : (xs : List Flat) (i v : ℕ) → HasTermAt xs i v → HasTerm xs v
term_in xs i v (s, ys, p) = (s, ys, in_list xs i (VarTerm v s ys) p)

less_cases : (m n : ℕ) → (m < n) ⊎ ((m ≡ n) ⊎ (n < m))
less_cases m n = grind arith

module _ (xs : List Flat) (up : Ascends xs) where
  pub rises : (i j : ℕ) (a b : Flat) → StandsAt xs i a → StandsAt xs j b → i < j → variable_of a < variable_of b
  rises i j a b p q l =
      let ea : get_or xs i a ≡ a = p.1 in
      let eb : get_or xs j a ≡ b = get_or_default xs j a b q.0 ∙ q.1 in
      omega (arith, rises_from xs up i j a l q.0, ap variable_of ea, ap variable_of eb)

  pub one_place : (i j : ℕ) (a b : Flat) → StandsAt xs i a → StandsAt xs j b → variable_of a ≡ variable_of b → i ≡ j
  one_place i j a b p q e = elim (less_cases i j) [
    | inl l ↦ absurd (omega (arith, rises i j a b p q l, e))
    | inr (inl s) ↦ s
    | inr (inr l) ↦ absurd (omega (arith, rises j i b a q p l, e))
  ]

  pub one_term_place : (i j v : ℕ) → HasTermAt xs i v → HasTermAt xs j v → i ≡ j
  one_term_place i j v (s, ys, p) (t, zs, q) = one_place i j (VarTerm v s ys) (VarTerm v t zs) p q refl

  -- where the first place from which variables are not below v has an atom for another variable, v has none
  pub absent : (v n : ℕ) (a b : Flat)
      → ((i : ℕ) (atom : Flat) → StandsAt xs i atom → i < n → variable_of atom < v)
      → StandsAt xs n a → v ≤ variable_of a → Contains xs b → variable_of b ≡ v → a ≡ b
  absent v n a b below p above (k, w, e) is = elim (less_cases k n) [
    | inl l ↦ absurd (omega (arith, below k b (w, e) l, is))
    | inr (inl s) ↦ one_atom xs n a b p (subst (λ z. StandsAt xs z b) s (w, e))
    | inr (inr l) ↦ absurd (omega (arith, rises n k a b p (w, e) l, is, above))
  ]

module _ (xs : List Flat) (up : Ascends xs) (v m : ℕ) (a : Flat) (at : slice_get xs m ≡ Some a) where
  pub before_more : variable_of a < v → (i : ℕ) (b : Flat) → StandsAt xs i b → i < m + 1 → variable_of b < v
  before_more less i b p l = elim (less_cases i m) [
    | inl k ↦ omega (arith, rises xs up i m b a p (stands_read xs m a at) k, less)
    | inr (inl s) ↦ omega (arith, less, ap variable_of (one_atom xs m b a (subst (λ z. StandsAt xs z b) s p) (stands_read xs m a at)))
    | inr (inr k) ↦ absurd (omega (arith, k, l))
  ]

  pub from_more : v ≤ variable_of a → (i : ℕ) (b : Flat) → StandsAt xs i b → m ≤ i → v ≤ variable_of b
  from_more less i b p l = elim (less_cases m i) [
    | inl k ↦ omega (arith, rises xs up m i a b (stands_read xs m a at) p k, less)
    | inr (inl s) ↦ omega (arith, less, ap variable_of (one_atom xs m b a (subst (λ z. StandsAt xs z b) (sym s) p) (stands_read xs m a at)))
    | inr (inr k) ↦ absurd (omega (arith, k, l))
  ]

-- what is found at the first place from which variables are not below v
pub record IsFirst (xs : List Flat) (v n : ℕ) (a : Flat) : Type 0 where
  pub up : Ascends xs
  pub at : slice_get xs n ≡ Some a
  pub before : (i : ℕ) (atom : Flat) → StandsAt xs i atom → i < n → variable_of atom < v
  pub from : (i : ℕ) (atom : Flat) → StandsAt xs i atom → n ≤ i → v ≤ variable_of atom

module _ (xs : List Flat) (v n : ℕ) (a : Flat) (f : IsFirst xs v n a) where
  pub only_first : (b : Flat) → Contains xs b → variable_of b ≡ v → a ≡ b
  only_first b i e = absent xs f.up v n a b f.before (stands_read xs n a f.at) (f.from n a (stands_read xs n a f.at) (omega arith)) i e

  -- it is its own target, where that atom is no equation of it with a variable
  pub own_target : ((r : ℕ) → ¬ (a ≡ VarVar v r)) → IsTarget xs v v
  own_target none = inr (refl, λ r i. none r (only_first (VarVar v r) i refl))

  pub no_term : ((s : Symbol) (ys : List ℕ) → ¬ (a ≡ VarTerm v s ys)) → ¬ HasTerm xs v
  no_term none = λ (s, ys, i). none s ys (only_first (VarTerm v s ys) i refl)

-- a variable has one target
pub one_target : (basic : List Flat) → Ascends basic → (v a b : ℕ) → IsTarget basic v a → IsTarget basic v b → a ≡ b
one_target basic up v a b (inl p) (inl q) = let e : VarVar v a ≡ VarVar v b = one_each basic up (VarVar v a) (VarVar v b) p q refl in cc
one_target basic up v a b (inl p) (inr q) = absurd (q.1 a p)
one_target basic up v a b (inr p) (inl q) = absurd (p.1 b q)
one_target basic up v a b (inr p) (inr q) = sym p.0 ∙ q.0
