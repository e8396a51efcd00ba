-- Numbers that are moved up, and taken back.
use Rattle.std.specs.Prelude.{ltb, cond}
use Rattle.std.proofs.Common.{ℕ, ◌≡◌, ◌+◌, ◌-◌, ◌<◌, ◌≤◌, true, false, refl, ap, ◌∙◌, arith, inl, inr}
use Rattle.std.proofs.lemmas.Bool.Decides.{nat_tests}
use Rattle.flat_form.specs.Raws.{raised}
use Rattle.flat_facts.proofs.Renumbered.{split}

pub lowered : ℕ → ℕ → ℕ → ℕ
lowered k s v = cond (ltb v k) v (v - s)

pub raised_low : (k s v : ℕ) → v < k → raised k s v ≡ v
raised_low k s v w = let t : ltb v k ≡ true = grind (arith, nat_tests) in rw t refl

pub raised_high : (k s v : ℕ) → k ≤ v → raised k s v ≡ v + s
raised_high k s v w = let t : ltb v k ≡ false = grind (arith, nat_tests) in rw t refl

lowered_low : (k s v : ℕ) → v < k → lowered k s v ≡ v
unfolding lowered
lowered_low k s v w = let t : ltb v k ≡ true = grind (arith, nat_tests) in rw t refl

lowered_high : (k s v : ℕ) → k ≤ v → lowered k s v ≡ v - s
unfolding lowered
lowered_high k s v w = let t : ltb v k ≡ false = grind (arith, nat_tests) in rw t refl

pub taken_back : (k s v : ℕ) → lowered k s (raised k s v) ≡ v
taken_back k s v = elim (split v k) [
  | inl w ↦ ap (lowered k s) (raised_low k s v w) ∙ lowered_low k s v w
  | inr le ↦ ap (lowered k s) (raised_high k s v le) ∙ (lowered_high k s (v + s) (omega arith) ∙ omega arith)
]
