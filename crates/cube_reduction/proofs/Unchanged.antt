-- Numbers that change nothing.
use Rattle.std.proofs.Common.{ℕ, ◌≡◌, List, [], ◌∷◌, map, length, refl, sym, ap, ◌∙◌, ◌+◌, arith}
use Rattle.flat_form.specs.declared.atom.Flat.{Flat}
use Rattle.flat_form.specs.declared.atom.Flat.TheVariants.{VarVar, VarTerm, Finite}
use Rattle.flat_form.specs.declared.cube.Part.{Part}
use Rattle.flat_form.specs.Parts.{renumbered}
use Rattle.cube_reduction.specs.Numbers.{moved_into}

-- a list whose items are their own images
pub map_same : {A : Type 0} (f : A → A) → ((x : A) → f x ≡ x) → (xs : List A) → map f xs ≡ xs
map_same f is [] = refl
map_same f is (x ∷ xs) = cc (is x, map_same f is xs)

module _ (f : ℕ → ℕ) (is : (v : ℕ) → f v ≡ v) where
  same_atom : (atom : Flat) → renumbered f atom ≡ atom
  same_atom (VarVar u v) = cc (is u, is v)
  same_atom (VarTerm u symbol xs) = cc (is u, map_same f is xs)
  same_atom (Finite u) = cc (is u)

  same_part : (part : Part) → moved_into f 0 [] part ≡ part
  same_part part =
      let inner : 0 + part.inner ≡ part.inner = omega arith in
      ap (λ (n : ℕ). record { inner = n; basic = map (renumbered f) part.basic }) inner
      ∙ ap (λ (z : List Flat). record { inner = part.inner; basic = z }) (map_same (renumbered f) same_atom part.basic)

  pub same_parts : (parts : List Part) → map (moved_into f 0 []) parts ≡ parts
  same_parts parts = map_same (moved_into f 0 []) same_part parts

  -- the same with sizes that turn out to be none
  pub unchanged : (more : ℕ) (moved : List Flat) (parts : List Part) → more ≡ 0 → length moved ≡ 0 → parts ≡ map (moved_into f more moved) parts
  unchanged more [] parts e none = sym (ap (λ (k : ℕ). map (moved_into f k []) parts) e ∙ same_parts parts)
  unchanged more (atom ∷ rest) parts e none = absurd (cc none)
