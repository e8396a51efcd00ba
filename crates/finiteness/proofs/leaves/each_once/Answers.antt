use Rattle.std.proofs.Common.{◌≡◌, ◌<◌, ◌+◌, ◌-◌, ◌++◌, ◌∷◌, [], take, List, ℕ, refl, sym, ◌∙◌, subst, arith}
use Rattle.std.specs.Prelude.{IsTrue, false, ◌↔◌, Contains, slice_index}
use Rattle.std.specs.List.Sorted.{IsStrictlyIncreasing}
use Rattle.std.proofs.lemmas.List.{take_all}
use Rattle.finiteness.proofs.Gathering.{once_more, same_more, same_repeated}
use Rattle.finiteness.proofs.leaves.each_once.Goals as goal
use Rattle.finiteness.proofs.leaves.each_once.Goals.{then-not-is_repeated+in_ok-push, else-not-is_repeated}

pub loop-i-preserved : goal.loop-i-preserved
loop-i-preserved c =
    let xs = c.args.numbers.now in
    let i = c.loop-i.i in
    let once = c.loop-i.once in
    elim c.if-not-is_repeated.branch [
      | then-not-is_repeated+in_ok-push w ↦
          let new : ¬ ((0 < i) × (slice_index xs (i - 1) ≡ slice_index xs i)) = λ h. let no_true : IsTrue false = w.if-not-is_repeated.ensures.1 h in cc in
          let pushed : c.if-not-is_repeated.once ≡ once ++ slice_index xs i ∷ [] = w.once-is ∙ w.in_ok-push.ensures.ok in
          record {
            ascending = subst (λ (z : List ℕ). IsStrictlyIncreasing z) (sym pushed)
                (once_more xs c.requires once i (slice_index xs i) (omega arith) refl c.loop-i.invariant.same new c.loop-i.invariant.ascending);
            same = subst (λ (z : List ℕ). (u : ℕ) → Contains z u ↔ Contains (take (i + 1) xs) u) (sym pushed)
                (same_more xs c.requires once i (slice_index xs i) (omega arith) refl c.loop-i.invariant.same);
          }
      | else-not-is_repeated w ↦ record {
        ascending = subst (λ (z : List ℕ). IsStrictlyIncreasing z) (sym w.once-is) c.loop-i.invariant.ascending;
        same = subst (λ (z : List ℕ). (u : ℕ) → Contains z u ↔ Contains (take (i + 1) xs) u) (sym w.once-is)
            (same_repeated xs once i (omega arith) (w.if-not-is_repeated.ensures.0 refl) c.loop-i.invariant.same);
      }
    ]

pub returns-clause-same : goal.returns-clause-same
returns-clause-same c =
    subst (λ (z : List ℕ). (u : ℕ) → Contains c.loop-i.once u ↔ Contains z u) (take_all c.loop-i.i c.args.numbers.now (omega arith)) c.loop-i.invariant.same
