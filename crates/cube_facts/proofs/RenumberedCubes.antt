-- A cube holds under new numbers exactly where it did.
use Rattle.std.proofs.Common.{ℕ, ◌+◌, ◌<◌, sym, ◌∙◌, subst, refl, inl, inr}
use Rattle.classical.proofs.Stable.{◌>>=◌}
use Rattle.tree_model.specs.Signatures.{Signature, Alike}
use Rattle.tree_model.specs.Valuations.{Valuation}
use Rattle.flat_form.specs.declared.atom.Flat.{Flat}
use Rattle.flat_form.specs.declared.cube.Cube.{Cube}
use Rattle.flat_form.specs.Meanings.{AtomHolds, CubeHolds, Extends}
use Rattle.flat_form.specs.Parts.{renumbered}
use Rattle.flat_facts.proofs.Atoms.{atom_moves, from_renumbered, to_renumbered}
use Rattle.flat_facts.proofs.Lists.{holds_in, all_hold}
use Rattle.flat_facts.proofs.Renumbered.{spliced, spliced_low, spliced_high}
use Rattle.cube_facts.specs.Renumbered.{StandsInCube, in_basic, in_part, IsRenumberedCube, RenumberedMeans}
use Rattle.cube_facts.proofs.PartsMove.{alike_at, parts_move}
use Rattle.cube_facts.proofs.Places.{side}

module _ (σ : Signature) (old new : Cube) (f g : ℕ → ℕ) (d e : Valuation σ) (is : IsRenumberedCube f g old new)
    (alike : (v : ℕ) → v < old.free → StandsInCube old v → Alike (d v) (e (f v))) where
  -- the values of the old variables, where the new free ones have theirs
  ahead : Valuation σ → Valuation σ
  ahead y = spliced new.free e (λ w. y (g w))

  same_ahead : (y : Valuation σ) → Extends old.free d y → (v : ℕ) → StandsInCube old v → Alike (y v) (ahead y (f v))
  unfolding ahead
  same_ahead y like v stands path = elim (side v old.free) [
    | inl w ↦ like v w path ∙ (alike v w stands path ∙ sym (spliced_low new.free e (λ w. y (g w)) (f v) ((is.free v stands).low w) path))
    | inr le ↦ alike_at y v (g (f v)) (sym (is.free v stands).back) path
        ∙ sym (spliced_high new.free e (λ w. y (g w)) (f v) ((is.free v stands).high le) path)
  ]

  there : CubeHolds d old → CubeHolds e new
  unfolding ahead
  there holds out = do
    (y, (like, h, fail)) ← holds
    let z : Valuation σ = ahead y in
        let same = same_ahead y like in
        out (
          z,
          (
            (λ v w. spliced_low new.free e (λ w. y (g w)) v w),
            all_hold z new.basic (λ a i.
                let (b, stands, known) = (is.basic_is a).0 i in
                subst (λ (x : Flat). AtomHolds z x) (sym known) (to_renumbered f z b
                (atom_moves b y (λ v. z (f v)) (λ v o. same v (in_basic (b, stands, o))) (holds_in y old.basic b h stands)))),
            (parts_move (old.free + old.outer) (new.free + new.outer) f g y z old.parts new.parts
                (λ p i v s. is.moves v (in_part p i s)) (λ p i v s w. same v (in_part p i s)) is.parts_are).0 fail,
          ),
        )

  -- and the other way round
  behind : Valuation σ → Valuation σ
  behind y = spliced old.free d (λ v. y (f v))

  same_behind : (y : Valuation σ) → Extends new.free e y → (v : ℕ) → StandsInCube old v → Alike (behind y v) (y (f v))
  unfolding behind
  same_behind y like v stands path = elim (side v old.free) [
    | inl w ↦ spliced_low old.free d (λ v. y (f v)) v w path ∙ (alike v w stands path ∙ sym (like (f v) ((is.free v stands).low w) path))
    | inr le ↦ spliced_high old.free d (λ v. y (f v)) v le path
  ]

  back : CubeHolds e new → CubeHolds d old
  unfolding behind
  back holds out = do
    (y, (like, h, fail)) ← holds
    let z : Valuation σ = behind y in
        let same = same_behind y like in
        out (
          z,
          (
            (λ v w. spliced_low old.free d (λ v. y (f v)) v w),
            all_hold z old.basic (λ b i. atom_moves b (λ v. y (f v)) z (λ v o path. sym (same v (in_basic (b, i, o)) path))
                (from_renumbered f y b (holds_in y new.basic (renumbered f b) h ((is.basic_is (renumbered f b)).1 (b, i, refl))))),
            (parts_move (old.free + old.outer) (new.free + new.outer) f g z y old.parts new.parts
                (λ p i v s. is.moves v (in_part p i s)) (λ p i v s w. same v (in_part p i s)) is.parts_are).1 fail,
          ),
        )

pub renumbered_means : RenumberedMeans
renumbered_means σ old new f g d e is alike = (there σ old new f g d e is alike, back σ old new f g d e is alike)
