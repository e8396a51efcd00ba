-- What stands at a place, as a relation and by the order of places.
use Rattle.std.proofs.Common.{ℕ, zero, suc, ◌≡◌, ◌+◌, ◌-◌, ◌<◌, List, ◌++◌, Option, refl, sym, ap, ◌∙◌, subst, arith, inl, inr}
use Rattle.std.proofs.lemmas.Bool.{cases_lt}
use Rattle.flat_form.specs.declared.atom.Flat.{Flat}
use Rattle.flat_form.specs.declared.cube.Cube.{Cube}
use Rattle.node_facts.specs.Branches.{Branch, Branches, branch, no_branch, one_more, size, sizes}
use Rattle.node_facts.specs.Places.{At, AtOne}
use Rattle.node_facts.proofs.Counts.{at_low}
use Rattle.working_rules.specs.Forests.{joined, from_place, first_of, branch_at}
use Rattle.working_rules.specs.StandingLaws.{StandsInOrder, StandsSome, StandsInside}
use Rattle.working_rules.proofs.Forests.{from_more, from_one}

mutual
  -- what stands at a place is the first of what stands from there on
  pub stands_first : (n i m : ℕ) (round under : List Flat) (root x : Branch) (more : Branches) → At n round root i m under x
      → (rest : Branches) × (from_place i (one_more root more) ≡ one_more x rest)
  stands_first n zero m round under (branch bound basic parts list) x more (same_n, same_round, same) = (more, ap (λ (z : Branch). one_more z more) (sym same))
  stands_first n (suc i) m round under (branch bound basic parts list) x more at = one_stands_first (n + bound) i m (round ++ basic) under parts x more at

  pub one_stands_first : (n i m : ℕ) (round under : List Flat) (parts : Branches) (x : Branch) (more : Branches) → AtOne n round parts i m under x
      → (rest : Branches) × (from_place i (joined parts more) ≡ one_more x rest)
  one_stands_first n i m round under no_branch x more at = absurd at
  one_stands_first n i m round under (one_more part rest) x more (inl (low, at)) = stands_first n i m round under part x (joined rest more) at
  one_stands_first n i m round under (one_more part rest) x more (inr (k, same, at)) =
      let found = one_stands_first n k m round under rest x more at in (
        found.0,
        ap (λ (j : ℕ). from_place j (one_more part (joined rest more))) same
            ∙ from_more (size part) k (one_more part (joined rest more))
            ∙ ap (λ (z : Branches). from_place k z) (from_one part (joined rest more))
            ∙ found.1,
      )

pub stands_at : (n i m : ℕ) (round under : List Flat) (root x : Branch) → At n round root i m under x → branch_at i root ≡ x
stands_at n i m round under root x at = let found = stands_first n i m round under root x no_branch at in ap (λ (z : Branches). first_of z) found.1

mutual
  -- at each place a branch stands
  pub some_stands : (n i : ℕ) (round : List Flat) (root : Branch) → i < size root
      → (m : ℕ) × (under : List Flat) × (x : Branch) × At n round root i m under x
  some_stands n zero round (branch bound basic parts list) low = (n, round, branch bound basic parts list, (refl, refl, refl))
  some_stands n (suc i) round (branch bound basic parts list) low =
      let found = one_stands (n + bound) i (round ++ basic) parts (omega (arith, low)) in (found.0, found.1, found.2, found.3)

  one_stands : (n i : ℕ) (round : List Flat) (parts : Branches) → i < sizes parts
      → (m : ℕ) × (under : List Flat) × (x : Branch) × AtOne n round parts i m under x
  one_stands n i round no_branch low = absurd (omega (arith, low))
  one_stands n i round (one_more part rest) low = elim (cases_lt i (size part)) [
    | inl here ↦ let found = some_stands n i round part here in (found.0, found.1, found.2, inl (here, found.3))
    | inr past ↦
        let e : i ≡ size part + (i - size part) = omega (arith, past) in
        let found = one_stands n (i - size part) round rest (omega (arith, low, past)) in (found.0, found.1, found.2, inr (i - size part, e, found.3))
  ]

pub stands_in_order : StandsInOrder
stands_in_order = stands_at

pub stands_some : StandsSome
stands_some n i round root low =
    let found = some_stands n i round root low in (
      found.0,
      found.1,
      subst (λ (z : Branch). At n round root i found.0 found.1 z) (sym (stands_at n i found.0 round found.1 root found.2 found.3)) found.3,
    )

-- what stands inside a branch

further : (n i j k : ℕ) (round within : List Flat) (bound : ℕ) (basic : List Flat) (parts : Branches) (list : Option (List Cube)) (x : Branch)
    → AtOne (n + bound) (round ++ basic) parts (i + j) k within x → At n round (branch bound basic parts list) (suc i + j) k within x
further n i j k round within bound basic parts list x at =
    let e : suc (i + j) ≡ suc i + j = omega arith in
    subst (λ (p : ℕ). At n round (branch bound basic parts list) p k within x) e at

mutual
  inside : (n i m j k : ℕ) (round under within : List Flat) (root : Branch) (bound : ℕ) (basic : List Flat) (parts : Branches) (list : Option (List Cube)) (x : Branch)
      → At n round root i m under (branch bound basic parts list) → AtOne (m + bound) (under ++ basic) parts j k within x
      → At n round root (i + suc j) k within x
  inside n zero m j k round under within (branch own atoms all kept) bound basic parts list x (same_n, same_round, same) at =
      let e : suc j ≡ 0 + suc j = omega arith in
      let here : At m under (branch bound basic parts list) (suc j) k within x = at in
      subst (λ (p : ℕ). At n round (branch own atoms all kept) p k within x) e
      (subst (λ (z : Branch). At n round z (suc j) k within x) same
      (subst (λ (z : List Flat). At n z (branch bound basic parts list) (suc j) k within x) same_round
      (subst (λ (p : ℕ). At p under (branch bound basic parts list) (suc j) k within x) same_n here)))
  inside n (suc i) m j k round under within (branch own atoms all kept) bound basic parts list x stands at =
      further n i (suc j) k round within own atoms all kept x
      (inside_one (n + own) i m j k (round ++ atoms) under within all bound basic parts list x stands at)

  inside_one : (n i m j k : ℕ) (round under within : List Flat) (all : Branches) (bound : ℕ) (basic : List Flat) (parts : Branches) (list : Option (List Cube)) (x : Branch)
      → AtOne n round all i m under (branch bound basic parts list) → AtOne (m + bound) (under ++ basic) parts j k within x
      → AtOne n round all (i + suc j) k within x
  inside_one n i m j k round under within no_branch bound basic parts list x stands at = absurd stands
  inside_one n i m j k round under within (one_more part rest) bound basic parts list x (inl (low, stands)) at =
      let there = inside n i m j k round under within part bound basic parts list x stands at in
      inl (at_low n (i + suc j) k round within part x there, there)
  inside_one n i m j k round under within (one_more part rest) bound basic parts list x (inr (p, same, stands)) at =
      let there = inside_one n p m j k round under within rest bound basic parts list x stands at in inr (p + suc j, omega (arith, same), there)

pub stands_inside : StandsInside
stands_inside n i m j k round under within root bound basic parts list x stands at =
    let e : i + suc j ≡ i + 1 + j = omega arith in
    subst (λ (p : ℕ). At n round root p k within x) e (inside n i m j k round under within root bound basic parts list x stands at)
