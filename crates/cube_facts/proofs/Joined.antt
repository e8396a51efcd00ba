-- Two cubes in one hold where both do.
use Rattle.std.specs.Prelude.{◌↔◌}
use Rattle.std.proofs.Common.{ℕ, ◌≡◌, ◌<◌, ◌+◌, map, refl, sym, ◌∙◌, arith, inl, inr}
use Rattle.classical.proofs.Stable.{◌>>=◌}
use Rattle.tree_model.specs.Signatures.{Signature, Alike}
use Rattle.tree_model.specs.Valuations.{Valuation}
use Rattle.flat_form.specs.declared.cube.Cube.{Cube}
use Rattle.flat_form.specs.Meanings.{Extends, AllFail, CubeHolds}
use Rattle.flat_form.specs.Numbering.{IsWellNumbered}
use Rattle.flat_form.specs.Parts.{renumbered}
use Rattle.flat_form.specs.Orders.{renumbered_part}
use Rattle.flat_form.specs.Raws.{raised, joined}
use Rattle.flat_facts.proofs.Atoms.{atom_moves, all_from_renumbered, all_to_renumbered}
use Rattle.flat_facts.proofs.Follows.{over_below}
use Rattle.flat_facts.proofs.Lists.{holds_in, all_hold, both_hold, front_holds, later_holds}
use Rattle.flat_facts.proofs.Renumbered.{split, spliced, spliced_low, spliced_high}
use Rattle.cube_facts.specs.Renumbered.{MovesNumber}
use Rattle.cube_facts.specs.Raws.{JoinedMeans}
use Rattle.cube_facts.proofs.Raised.{lowered, raised_low, raised_high, taken_back}
use Rattle.cube_facts.proofs.PartsMove.{alike_at, bases_of_renumbered, parts_move, both_fail, each_fail}

module _ {σ : Signature} (e : Valuation σ) (l r : Cube) (same : l.free ≡ r.free) (known : IsWellNumbered l) where
  whole : ℕ
  whole = l.free + (l.outer + r.outer)

  left_moves : (v : ℕ) → MovesNumber (l.free + l.outer) whole (raised (l.free + l.outer) r.outer) (lowered (l.free + l.outer) r.outer) v
  unfolding whole
  left_moves v = record {
    back = taken_back (l.free + l.outer) r.outer v;
    low = λ w. omega (arith, raised_low (l.free + l.outer) r.outer v w);
    high = λ w. omega (arith, raised_high (l.free + l.outer) r.outer v w);
  }

  right_moves : (v : ℕ) → MovesNumber (r.free + r.outer) whole (raised l.free l.outer) (lowered l.free l.outer) v
  unfolding whole
  right_moves v = record {
    back = taken_back l.free l.outer v;
    low = λ w. elim (split v l.free) [
      | inl x ↦ omega (arith, raised_low l.free l.outer v x)
      | inr le ↦ omega (arith, raised_high l.free l.outer v le, same)
    ];
    high = λ w. omega (arith, raised_high l.free l.outer v (omega (arith, same, w)), same);
  }

  left_parts : (d z : Valuation σ) → ((v : ℕ) → v < l.free + l.outer → Alike (d v) (z v))
      → AllFail (l.free + l.outer) d l.parts ↔ AllFail whole z (map (renumbered_part (raised (l.free + l.outer) r.outer) 0) l.parts)
  left_parts d z alike =
      parts_move (l.free + l.outer) whole (raised (l.free + l.outer) r.outer) (lowered (l.free + l.outer) r.outer) d z l.parts _
      (λ p i v s. left_moves v)
      (λ p i v s w path. alike v w path ∙ alike_at z v (raised (l.free + l.outer) r.outer v) (sym (raised_low (l.free + l.outer) r.outer v w)) path)
      (bases_of_renumbered (raised (l.free + l.outer) r.outer) 0 l.parts)

  right_parts : (d z : Valuation σ) → ((v : ℕ) → Alike (d v) (z (raised l.free l.outer v)))
      → AllFail (r.free + r.outer) d r.parts ↔ AllFail whole z (map (renumbered_part (raised l.free l.outer) 0) r.parts)
  right_parts d z alike =
      parts_move (r.free + r.outer) whole (raised l.free l.outer) (lowered l.free l.outer) d z r.parts _
      (λ p i v s. right_moves v) (λ p i v s w. alike v) (bases_of_renumbered (raised l.free l.outer) 0 r.parts)

  left_holds : CubeHolds e (joined l r) → CubeHolds e l
  unfolding whole
  left_holds holds out = do
    (d, (like, h, fail)) ← holds
    out (
      d,
      (
        like,
        front_holds d l.basic (map (renumbered (raised l.free l.outer)) r.basic) h,
        (left_parts d d (λ v w path. refl)).1 (each_fail whole d (map (renumbered_part (raised (l.free + l.outer) r.outer) 0) l.parts) _ fail).0,
      ),
    )

  right_holds : CubeHolds e (joined l r) → CubeHolds e r
  unfolding whole
  right_holds holds out = do
    (d, (like, h, fail)) ← holds
    let z : Valuation σ = λ v. d (raised l.free l.outer v) in
        out (
          z,
          (
            (λ v w path. alike_at d (raised l.free l.outer v) v (raised_low l.free l.outer v (omega (arith, w, same))) path ∙ like v (omega (arith, w, same)) path),
            all_hold z r.basic (all_from_renumbered (raised l.free l.outer) d r.basic (later_holds d l.basic (map (renumbered (raised l.free l.outer)) r.basic) h)),
            (right_parts z d (λ v path. refl)).1 (each_fail whole d (map (renumbered_part (raised (l.free + l.outer) r.outer) 0) l.parts) _ fail).1,
          ),
        )

  -- the values of l below its parts, those of r behind
  beside : Valuation σ → Valuation σ → Valuation σ
  beside x y = spliced (l.free + l.outer) x (λ w. y (lowered l.free l.outer w))

  on_left : (x y : Valuation σ) (v : ℕ) → v < l.free + l.outer → Alike (x v) (beside x y v)
  unfolding beside
  on_left x y v w path = sym (spliced_low (l.free + l.outer) x (λ w. y (lowered l.free l.outer w)) v w path)

  on_right : (x y : Valuation σ) → Extends l.free e x → Extends r.free e y → (v : ℕ) → Alike (y v) (beside x y (raised l.free l.outer v))
  unfolding beside
  on_right x y at_x at_y v path = elim (split v l.free) [
    | inl w ↦ at_y v (omega (arith, w, same)) path ∙ (sym (at_x v w path) ∙ (on_left x y v (omega arith) path
        ∙ alike_at (beside x y) v (raised l.free l.outer v) (sym (raised_low l.free l.outer v w)) path))
    | inr le ↦ alike_at y v (lowered l.free l.outer (raised l.free l.outer v)) (sym (taken_back l.free l.outer v)) path
        ∙ sym (spliced_high (l.free + l.outer) x (λ w. y (lowered l.free l.outer w)) (raised l.free l.outer v)
        (omega (arith, raised_high l.free l.outer v le)) path)
  ]

  both : CubeHolds e l → CubeHolds e r → CubeHolds e (joined l r)
  unfolding whole
  both at_left at_right out = do
    (x, (like_x, hx, fail_x)) ← at_left
    (y, (like_y, hy, fail_y)) ← at_right
    let z : Valuation σ = beside x y in
        let right = on_right x y like_x like_y in
        out (
          z,
          (
            (λ v w path. sym (on_left x y v (omega (arith, w)) path) ∙ like_x v w path),
            both_hold z l.basic (map (renumbered (raised l.free l.outer)) r.basic)
                (all_hold z l.basic (λ a i. atom_moves a x z (λ v o. on_left x y v (over_below (l.free + l.outer) l.basic known.basic a i v o)) (holds_in x l.basic a hx i)))
                (all_to_renumbered (raised l.free l.outer) z r.basic
                (λ a i. atom_moves a y (λ v. z (raised l.free l.outer v)) (λ v o. right v) (holds_in y r.basic a hy i))),
            both_fail whole z _ _ ((left_parts x z (on_left x y)).0 fail_x) ((right_parts y z right).0 fail_y),
          ),
        )

pub joined_means : JoinedMeans
joined_means σ l r e same known = (
  (λ holds. (left_holds e l r same known holds, right_holds e l r same known holds)),
  (λ holds. both e l r same known holds.0 holds.1),
)
