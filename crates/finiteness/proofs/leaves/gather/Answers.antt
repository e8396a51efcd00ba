use Rattle.std.proofs.Common.{◌≡◌, ◌<◌, ◌⊎◌, ◌+◌, take, List, ℕ, length, get_or, sym, ap, ◌∙◌, subst, arith}
use Rattle.std.specs.Prelude.{◌↔◌, Contains, slice_index}
use Rattle.finiteness.specs.Marks.{IsBareIn}
use Rattle.finiteness.proofs.Standing.{term_in}
use Rattle.finiteness.proofs.Gathering.{gather_bare, gather_term, gather_whole}
use Rattle.finiteness.proofs.leaves.gather.Goals as goal
use Rattle.finiteness.proofs.leaves.gather.Goals.{in-Some, in-None+in_ok-push-in-None}

pub loop-x-preserved : goal.loop-x-preserved
loop-x-preserved c =
    let basic = c.args.b.now in
    let first = c.args.found.now.items in
    let now = c.loop-x.found.items in
    let xs = c.args.xs.now in
    let i = c.loop-x.x-index in
    let items = c.as_slice-x-items.result.now in
    let x = get_or items i 0 in
    let within : i < length xs = omega (arith, ap (λ (z : List ℕ). length z) c.as_slice-x-items.ensures) in
    let is : x ≡ slice_index xs i = ap (λ (z : List ℕ). get_or z i 0) c.as_slice-x-items.ensures in
    elim c.match-term_place.branch [
      | in-Some w ↦
          subst (λ (z : List ℕ). (u : ℕ) → Contains z u ↔ (Contains first u ⊎ IsBareIn basic (take (i + 1) xs) u)) (sym (ap (λ v. v.items) w.found-is))
          (gather_term xs i x within is basic first now c.loop-x.invariant (term_in basic w.in-Some.field-0 x w.in-Some.ensures))
      | in-None+in_ok-push-in-None w ↦
          gather_bare xs i x within is basic first now c.loop-x.invariant c.match-term_place.found.items w.in-None.ensures
          (ap (λ v. v.items) w.found-is ∙ w.in_ok-push-in-None.ensures.items)
    ]

pub returns : goal.returns
returns c =
    gather_whole c.args.b.now c.args.found.now.items c.loop-x.found.items c.args.xs.now c.loop-x.x-index
    (omega (arith, ap (λ (z : List ℕ). length z) c.as_slice-x-items.ensures)) c.loop-x.invariant
