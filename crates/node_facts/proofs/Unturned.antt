-- Negated conjunctions before the first turn.
use Rattle.std.specs.Prelude.{◌↔◌}
use Rattle.std.proofs.Common.{ℕ, ◌≡◌, ◌+◌, List, ◌++◌, refl, ap, ◌∙◌, arith}
use Rattle.tree_model.specs.Signatures.{Signature}
use Rattle.tree_model.specs.Valuations.{Valuation}
use Rattle.flat_form.specs.declared.atom.Flat.{Flat}
use Rattle.flat_form.specs.Meanings.{NormHolds, NormsHold}
use Rattle.flat_form.specs.Normals.{Norm, Norms, norm, none, also}
use Rattle.flat_form.specs.Numbering.{NormOver, NormsOver}
use Rattle.node_facts.specs.Agreement.{IsHeld, AllHeld}
use Rattle.node_facts.specs.Branches.{norm_in, norms_in, unturned, all_unturned, waiting, all_waiting, with_parts, all_with_parts, BranchHolds, BranchesHold, BranchOver, BranchesOver}
use Rattle.node_facts.specs.CountLaws.{UnturnedIs}

mutual
  same_norm : (x : Norm) → norm_in (unturned x) ≡ x
  same_norm (norm bound basic parts) = ap (λ (z : Norms). norm bound basic z) (same_norms parts)

  same_norms : (xs : Norms) → norms_in (all_unturned xs) ≡ xs
  same_norms none = refl
  same_norms (also part rest) = ap (λ (z : Norm). also z (norms_in (all_unturned rest))) (same_norm part) ∙ ap (λ (z : Norms). also part z) (same_norms rest)

mutual
  counted : (x : Norm) → waiting (unturned x) ≡ with_parts x
  counted (norm bound basic none) = refl
  counted (norm bound basic (also part rest)) = omega (arith, counted part, all_counted rest)

  all_counted : (xs : Norms) → all_waiting (all_unturned xs) ≡ all_with_parts xs
  all_counted none = refl
  all_counted (also part rest) = omega (arith, counted part, all_counted rest)

mutual
  unturned_over : (n : ℕ) (x : Norm) → NormOver n x → BranchOver n (unturned x)
  unturned_over n (norm bound basic parts) over = (over.0, all_unturned_over (n + bound) parts over.1, tt)

  all_unturned_over : (n : ℕ) (xs : Norms) → NormsOver n xs → BranchesOver n (all_unturned xs)
  all_unturned_over n none over = tt
  all_unturned_over n (also part rest) over = (unturned_over n part over.0, all_unturned_over n rest over.1)

mutual
  unturned_held : (n : ℕ) (round : List Flat) (x : Norm) → IsHeld n round (unturned x)
  unturned_held n round (norm bound basic parts) = (all_unturned_held (n + bound) (round ++ basic) parts, tt)

  all_unturned_held : (n : ℕ) (round : List Flat) (xs : Norms) → AllHeld n round (all_unturned xs)
  all_unturned_held n round none = tt
  all_unturned_held n round (also part rest) = (unturned_held n round part, all_unturned_held n round rest)

module _ (σ : Signature) where
  mutual
    unturned_means : (n : ℕ) (e : Valuation σ) (x : Norm) → BranchHolds n e (unturned x) ↔ NormHolds n e x
    unturned_means n e (norm bound basic parts) = (
      (λ never d like h each. never d like h ((all_unturned_mean (n + bound) d parts).1 each)),
      (λ never d like h each. never d like h ((all_unturned_mean (n + bound) d parts).0 each)),
    )

    all_unturned_mean : (n : ℕ) (e : Valuation σ) (xs : Norms) → BranchesHold n e (all_unturned xs) ↔ NormsHold n e xs
    all_unturned_mean n e none = ((λ each. each), (λ each. each))
    all_unturned_mean n e (also part rest) =
        let one = unturned_means n e part in
        let others = all_unturned_mean n e rest in ((λ each. (one.0 each.0, others.0 each.1)), (λ each. (one.1 each.0, others.1 each.1)))

pub unturned_is : UnturnedIs
unturned_is = record { norm = same_norm; count = counted; over = unturned_over; held = unturned_held; means = unturned_means }
