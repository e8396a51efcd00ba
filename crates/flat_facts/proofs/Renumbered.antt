-- Atoms fail under new numbers exactly where they did.
use Rattle.std.proofs.Common.{ℕ, ◌≡◌, ◌<◌, ◌≤◌, List, map, refl, sym, ◌∙◌, subst, arith, inl, inr, ◌⊎◌}
use Rattle.std.specs.Prelude.{Contains}
use Rattle.tree_model.specs.Signatures.{Signature, TreeOver, Alike}
use Rattle.tree_model.specs.Trees.{at}
use Rattle.tree_model.specs.Valuations.{Valuation}
use Rattle.flat_form.specs.declared.atom.Flat.{Flat}
use Rattle.flat_form.specs.Parts.{variables_of, renumbered}
use Rattle.flat_facts.specs.PartLaws.{Fails, RenumberedFails}
use Rattle.flat_facts.proofs.Atoms.{atom_moves, all_from_renumbered, all_to_renumbered}
use Rattle.flat_facts.proofs.Lists.{holds_in, all_hold}

pub split : (v m : ℕ) → (v < m) ⊎ (m ≤ v)
split v m = grind arith

pick : {A : Type 0} {v m : ℕ} → A → A → (v < m) ⊎ (m ≤ v) → A
pick a b (inl w) = a
pick a b (inr le) = b

pick_low : {A : Type 0} (v m : ℕ) (a b : A) (c : (v < m) ⊎ (m ≤ v)) → v < m → pick a b c ≡ a
unfolding pick
pick_low v m a b (inl x) w = refl
pick_low v m a b (inr le) w = absurd (omega arith)

pick_high : {A : Type 0} (v m : ℕ) (a b : A) (c : (v < m) ⊎ (m ≤ v)) → m ≤ v → pick a b c ≡ b
unfolding pick
pick_high v m a b (inl x) w = absurd (omega arith)
pick_high v m a b (inr le) w = refl

-- the values of e below m, of d from there on
pub spliced : {σ : Signature} (m : ℕ) (e d : Valuation σ) → Valuation σ
spliced m e d v = pick (e v) (d v) (split v m)

pub spliced_low : {σ : Signature} (m : ℕ) (e d : Valuation σ) (v : ℕ) → v < m → Alike (spliced m e d v) (e v)
unfolding spliced
spliced_low {σ} m e d v w path = let P : TreeOver σ → Type 0 = λ t. at t.graph path ≡ at (e v).graph path in
    subst P (sym (pick_low v m (e v) (d v) (split v m) w)) refl

pub spliced_high : {σ : Signature} (m : ℕ) (e d : Valuation σ) (v : ℕ) → m ≤ v → Alike (spliced m e d v) (d v)
unfolding spliced
spliced_high {σ} m e d v w path = let P : TreeOver σ → Type 0 = λ t. at t.graph path ≡ at (d v).graph path in
    subst P (sym (pick_high v m (e v) (d v) (split v m) w)) refl

module _ {σ : Signature} (m k : ℕ) (f g : ℕ → ℕ) (part : List Flat) (d e : Valuation σ)
    (back : (a : Flat) → Contains part a → (v : ℕ) → Contains (variables_of a) v → g (f v) ≡ v)
    (low : (a : Flat) → Contains part a → (v : ℕ) → Contains (variables_of a) v → v < m → (f v < k) × Alike (d v) (e (f v)))
    (high : (a : Flat) → Contains part a → (v : ℕ) → Contains (variables_of a) v → m ≤ v → k ≤ f v) where
  old_values : Valuation σ → Valuation σ
  old_values z = spliced m d (λ v. z (f v))

  renumbered_fails : Fails m d part → Fails k e (map (renumbered f) part)
  unfolding old_values
  renumbered_fails fails z like = λ holds. fails (old_values z) (λ v w. spliced_low m d (λ v. z (f v)) v w)
      (all_hold (old_values z) part (λ a i. atom_moves a (λ v. z (f v)) (old_values z) (λ v o path. elim (split v m) [
        | inl w ↦ like (f v) (low a i v o w).0 path ∙ sym ((low a i v o w).1 path) ∙ sym (spliced_low m d (λ v. z (f v)) v w path)
        | inr le ↦ sym (spliced_high m d (λ v. z (f v)) v le path)
      ]) (all_from_renumbered f z part holds a i)))

  new_values : Valuation σ → Valuation σ
  new_values z = spliced k e (λ v. z (g v))

  taken_back : (z : Valuation σ) (v : ℕ) → g (f v) ≡ v → Alike (z v) (z (g (f v)))
  taken_back z v same = let Q : ℕ → Type 0 = λ u. Alike (z v) (z u) in subst Q (sym same) (λ path. refl)

  fails_renumbered : Fails k e (map (renumbered f) part) → Fails m d part
  unfolding new_values
  fails_renumbered fails z like = λ holds. fails (new_values z) (λ v w. spliced_low k e (λ v. z (g v)) v w)
      (all_to_renumbered f (new_values z) part (λ a i. atom_moves a z (λ v. new_values z (f v)) (λ v o path. elim (split v m) [
        | inl w ↦ like v w path ∙ (low a i v o w).1 path ∙ sym (spliced_low k e (λ v. z (g v)) (f v) (low a i v o w).0 path)
        | inr le ↦ taken_back z v (back a i v o) path ∙ sym (spliced_high k e (λ v. z (g v)) (f v) (high a i v o le) path)
      ]) (holds_in z part a holds i)))

pub renumbered_part_fails : RenumberedFails
renumbered_part_fails σ m k f g part d e back low high =
    (renumbered_fails m k f g part d e back low high, fails_renumbered m k f g part d e back low high)
