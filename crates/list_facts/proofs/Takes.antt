-- The steps taken on each raw cube of a list.
use Rattle.std.specs.Prelude.{Contains, All, Some, None}
use Rattle.std.proofs.Common.{ℕ, ◌≡◌, List, [], ◌∷◌, ◌++◌, ◌∙◌, subst, arith, inl, inr, ◌⊎◌}
use Rattle.std.proofs.lemmas.List.Elements.{All-contains, Contains-append_cases, Contains-append_left, Contains-append_right}
use Rattle.lists.specs.Distinct.{IsDistinct}
use Rattle.tree_model.specs.Signatures.{Signature}
use Rattle.tree_model.specs.Valuations.{Valuation}
use Rattle.tree_facts.proofs.Members.{contains_first, contains_later, contains_cases}
use Rattle.flat_form.specs.declared.cube.Cube.{Cube}
use Rattle.flat_form.specs.Fitting.{CubeFits}
use Rattle.flat_form.specs.Meanings.{CubeHolds, SomeHolds}
use Rattle.flat_form.specs.Numbering.{IsWellNumbered}
use Rattle.flat_form.specs.Reduced.{IsReduced}
use Rattle.flat_form.specs.Steps.{Outcome}
use Rattle.flat_form.proofs.Symbols.{each_of}
use Rattle.step_facts.specs.Lists.{TakesSteps}
use Rattle.step_facts.proofs.Cleared.{distinct_more}
use Rattle.step_facts.proofs.StepFits.{outcome_fits}
use Rattle.step_facts.proofs.OutcomeMeans.{outcome_means}
use Rattle.step_facts.proofs.ReducedOutcomes.{outcome_is_over, outcome_is_reduced}
use Rattle.list_facts.specs.Lists.{AreRaw, AreReduced, StepsMean}
use Rattle.list_facts.proofs.Some.{in_some, from_some}

abbrev pub Over : ℕ → Cube → Type 0
Over n cube = (cube.free ≡ n) × IsWellNumbered cube

-- what is there stays
pub stays : (done raws out : List Cube) → TakesSteps done raws out → (cube : Cube) → Contains done cube → Contains out cube
stays done raws out (TakesSteps.all_done all) cube i = i
stays done raws out (TakesSteps.without all raw rest end outcome more) cube i = stays all rest end more cube i
stays done raws out (TakesSteps.twice all raw it rest end outcome there more) cube i = stays all rest end more cube i
stays done raws out (TakesSteps.new all raw it rest end outcome none more) cube i =
    stays (all ++ it ∷ []) rest end more cube (Contains-append_left all (it ∷ []) cube i)

-- what is new is what a raw cube comes to
pub record ComesFrom (raws : List Cube) (cube : Cube) : Type 0 where
  pub raw : Cube
  pub stands : Contains raws raw
  pub outcome : Outcome raw (Some cube)

later_from : (raw : Cube) (rest : List Cube) (cube : Cube) → ComesFrom rest cube → ComesFrom (raw ∷ rest) cube
later_from raw rest cube from = record { raw = from.raw; stands = contains_later raw from.raw rest from.stands; outcome = from.outcome }

pub comes_from : (done raws out : List Cube) → TakesSteps done raws out → (cube : Cube) → Contains out cube → Contains done cube ⊎ ComesFrom raws cube
comes_from done raws out (TakesSteps.all_done all) cube i = inl i
comes_from done raws out (TakesSteps.without all raw rest end outcome more) cube i = elim (comes_from all rest end more cube i) [
  | inl j ↦ inl j
  | inr from ↦ inr (later_from raw rest cube from)
]
comes_from done raws out (TakesSteps.twice all raw it rest end outcome there more) cube i = elim (comes_from all rest end more cube i) [
  | inl j ↦ inl j
  | inr from ↦ inr (later_from raw rest cube from)
]
comes_from done raws out (TakesSteps.new all raw it rest end outcome none more) cube i = elim (comes_from (all ++ it ∷ []) rest end more cube i) [
  | inr from ↦ inr (later_from raw rest cube from)
  | inl j ↦ elim (Contains-append_cases all (it ∷ []) cube j) [
    | inl k ↦ inl k
    | inr k ↦ elim (contains_cases it cube [] k) [
      | inl e ↦ inr (record { raw = raw; stands = contains_first raw rest; outcome = subst (λ (z : Cube). Outcome raw (Some z)) e outcome })
      | inr last ↦ absurd (omega (arith, last.1))
    ]
  ]
]

pub takes_distinct : (done raws out : List Cube) → TakesSteps done raws out → IsDistinct done → IsDistinct out
takes_distinct done raws out (TakesSteps.all_done all) distinct = distinct
takes_distinct done raws out (TakesSteps.without all raw rest end outcome more) distinct = takes_distinct all rest end more distinct
takes_distinct done raws out (TakesSteps.twice all raw it rest end outcome there more) distinct = takes_distinct all rest end more distinct
takes_distinct done raws out (TakesSteps.new all raw it rest end outcome none more) distinct =
    takes_distinct (all ++ it ∷ []) rest end more (distinct_more all it distinct none)

module _ {σ : Signature} (e : Valuation σ) where
  -- a raw cube that holds leaves one that holds
  there : (done raws out : List Cube) → TakesSteps done raws out
      → (raw : Cube) → Contains raws raw → IsWellNumbered raw → CubeFits σ raw → CubeHolds e raw → SomeHolds e out
  there done raws out (TakesSteps.all_done all) one i known fits holds = absurd (omega (arith, i.1))
  there done raws out (TakesSteps.without all raw rest end outcome more) one i known fits holds = elim (contains_cases raw one rest i) [
    | inl same ↦ absurd (outcome_means σ one None e known fits (subst (λ (z : Cube). Outcome z None) same outcome) holds)
    | inr later ↦ there all rest end more one later known fits holds
  ]
  there done raws out (TakesSteps.twice all raw it rest end outcome stands more) one i known fits holds = elim (contains_cases raw one rest i) [
    | inl same ↦ in_some e end it (stays all rest end more it stands)
        ((outcome_means σ one (Some it) e known fits (subst (λ (z : Cube). Outcome z (Some it)) same outcome)).0 holds)
    | inr later ↦ there all rest end more one later known fits holds
  ]
  there done raws out (TakesSteps.new all raw it rest end outcome none more) one i known fits holds = elim (contains_cases raw one rest i) [
    | inl same ↦ in_some e end it (stays (all ++ it ∷ []) rest end more it (Contains-append_right all (it ∷ []) it (contains_first it [])))
        ((outcome_means σ one (Some it) e known fits (subst (λ (z : Cube). Outcome z (Some it)) same outcome)).0 holds)
    | inr later ↦ there (all ++ it ∷ []) rest end more one later known fits holds
  ]

  pub steps_mean : (n : ℕ) (raws out : List Cube) → AreRaw σ n raws → TakesSteps [] raws out
      → (SomeHolds e out → SomeHolds e raws) × (SomeHolds e raws → SomeHolds e out)
  steps_mean n raws out are takes = (
    (λ some. from_some e e out raws some (λ cube i holds. elim (comes_from [] raws out takes cube i) [
      | inl j ↦ absurd (omega (arith, j.1))
      | inr from ↦ in_some e raws from.raw from.stands
          ((outcome_means σ from.raw (Some cube) e (All-contains (Over n) raws from.raw are.over from.stands).1
          (All-contains (CubeFits σ) raws from.raw are.fit from.stands) from.outcome).1 holds)
    ])),
    (λ some. from_some e e raws out some (λ raw i holds.
        there [] raws out takes raw i (All-contains (Over n) raws raw are.over i).1 (All-contains (CubeFits σ) raws raw are.fit i) holds)),
  )

module _ (σ : Signature) (n : ℕ) (raws out : List Cube) (are : AreRaw σ n raws) (takes : TakesSteps [] raws out) where
  each_new : (P : Cube → Type 0) → ((raw cube : Cube) → (raw.free ≡ n) → IsWellNumbered raw → CubeFits σ raw → Outcome raw (Some cube) → P cube) → All P out
  each_new P each = each_of P out (λ cube i. elim (comes_from [] raws out takes cube i) [
    | inl j ↦ absurd (omega (arith, j.1))
    | inr from ↦
        let over : Over n from.raw = All-contains (Over n) raws from.raw are.over from.stands in
        each from.raw cube over.0 over.1 (All-contains (CubeFits σ) raws from.raw are.fit from.stands) from.outcome
  ])

  pub steps_reduced : AreReduced σ n out
  steps_reduced = record {
    over = each_new (Over n) (λ raw cube free known fits outcome.
        let over = outcome_is_over raw cube known outcome in (over.0 ∙ free, over.1));
    fit = each_new (CubeFits σ) (λ raw cube free known fits outcome. outcome_fits σ raw cube fits outcome);
    reduced = each_new IsReduced (λ raw cube free known fits outcome. outcome_is_reduced σ raw cube known fits outcome);
    distinct = takes_distinct [] raws out takes tt;
  }

pub steps_mean_all : StepsMean
steps_mean_all = record {
  means = λ σ n raws out e are takes. steps_mean e n raws out are takes;
  reduced = λ σ n raws out are takes. steps_reduced σ n raws out are takes;
}
