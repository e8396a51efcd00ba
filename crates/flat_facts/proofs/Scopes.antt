-- The variables of classes.
use Rattle.std.proofs.Common.{ℕ, suc, ◌≡◌, ◌<◌, ◌≤◌, List, [], ◌∷◌, length, refl, sym, ap, ◌∙◌, subst, arith, inl, inr, ◌⊎◌}
use Rattle.std.specs.Prelude.{slice_index, Contains, sum_by}
use Rattle.std.proofs.lemmas.List.Sums.{get_or-le-sum_by}
use Rattle.tree_model.specs.declared.tree.Symbol.{Symbol}
use Rattle.tree_facts.proofs.Members.{contains_first, argument_occurs}
use Rattle.flat_form.specs.declared.atom.Flat.{Flat}
use Rattle.flat_form.specs.declared.atom.Flat.TheVariants.{VarVar, VarTerm, Finite}
use Rattle.flat_form.specs.Parts.{variables_of, AllBelow}
use Rattle.flat_form.specs.Classes.{Class, itself, turned, joined, stated, inward, outward, Reached, marked, child}

-- a number above all variables
abbrev pub above : List Flat → ℕ
above atoms = suc (sum_by (λ a. sum_by (λ v. v) (variables_of a)) atoms)

element_le_sum : {A : Type 0} (f : A → ℕ) (xs : List A) (x : A) → Contains xs x → f x ≤ sum_by f xs
element_le_sum f xs x (k, w, e) = rw (ap f e) at (get_or-le-sum_by f xs k x w)

pub all_below : (atoms : List Flat) → AllBelow (above atoms) atoms
all_below atoms a inside v occurs =
    omega (arith, element_le_sum (λ b. sum_by (λ v. v) (variables_of b)) atoms a inside, element_le_sum (λ v. v) (variables_of a) v occurs)

module _ (n : ℕ) (atoms : List Flat) (scope : AllBelow n atoms) where
  left_low : (a : Flat) → Contains atoms a → (v : ℕ) (more : List ℕ) → variables_of a ≡ v ∷ more → v < n
  left_low a inside v more e = scope a inside v (subst (λ z. Contains z v) (sym e) (contains_first v more))

  right_low : (u v : ℕ) → Contains atoms (VarVar u v) → v < n
  right_low u v inside = scope (VarVar u v) inside v (argument_occurs u (v ∷ []) 0 (omega arith))

  pub argument_low : (u : ℕ) (s : Symbol) (xs : List ℕ) → Contains atoms (VarTerm u s xs) → (i : ℕ) → i < length xs → slice_index xs i < n
  argument_low u s xs inside i w = scope (VarTerm u s xs) inside (slice_index xs i) (argument_occurs u xs i w)

  pub term_low : (u : ℕ) (s : Symbol) (xs : List ℕ) → Contains atoms (VarTerm u s xs) → u < n
  term_low u s xs inside = left_low (VarTerm u s xs) inside u xs refl

  pub class_below : {u v : ℕ} → Class atoms u v → (u < n → v < n) × (v < n → u < n)
  class_below (itself u) = (λ w. w, λ w. w)
  class_below (turned c) = let p = class_below c in (p.1, p.0)
  class_below (joined c d) = let p = class_below c in let q = class_below d in (λ w. q.0 (p.0 w), λ w. p.1 (q.1 w))
  class_below (stated {u} {v} i) = (λ w. right_low u v i, λ w. left_low (VarVar u v) i u (v ∷ []) refl)
  class_below (inward {u} {v} s xs ys a b len c i w) = (λ x. argument_low v s ys b i (omega (arith, len)), λ x. argument_low u s xs a i w)
  class_below (outward {u} {v} s xs ys a b len c) = (λ w. term_low v s ys b, λ w. term_low u s xs a)

  pub reached_below : {v : ℕ} → Reached atoms v → v < n
  reached_below (marked {u} i c) = (class_below c).0 (left_low (Finite u) i u [] refl)
  reached_below (child {u} s xs r i k w c) = (class_below c).0 (argument_low u s xs i k w)

  -- two different variables of one class stand in the atoms
  pub class_apart : {u v : ℕ} → Class atoms u v → (u ≡ v) ⊎ ((u < n) × (v < n))
  class_apart (itself u) = inl refl
  class_apart (turned c) = elim (class_apart c) [ inl e ↦ inl (sym e) | inr p ↦ inr (p.1, p.0) ]
  class_apart (joined {u} {v} {w} c d) = elim (class_apart c) [
    | inl e ↦ elim (class_apart d) [ inl f ↦ inl (e ∙ f) | inr q ↦ inr (subst (λ z. z < n) (sym e) q.0, q.1) ]
    | inr p ↦ inr (p.0, (class_below d).0 p.1)
  ]
  class_apart (stated {u} {v} i) = inr (left_low (VarVar u v) i u (v ∷ []) refl, right_low u v i)
  class_apart (inward {u} {v} s xs ys a b len c i w) = inr (argument_low u s xs a i w, argument_low v s ys b i (omega (arith, len)))
  class_apart (outward {u} {v} s xs ys a b len c) = inr (term_low u s xs a, term_low v s ys b)
