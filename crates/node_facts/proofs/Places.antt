-- What is had at places, and what a change at one place keeps.
use Rattle.std.proofs.Common.{ℕ, ◌≡◌, ◌+◌, List, ◌++◌, Option, Some, None, refl, sym, ap, subst}
use Rattle.std.proofs.lemmas.List.Elements.{All-append}
use Rattle.lists.specs.Distinct.{IsDistinct}
use Rattle.tree_model.specs.Signatures.{Signature}
use Rattle.tree_model.specs.Valuations.{Valuation}
use Rattle.flat_form.specs.declared.atom.Flat.{Flat}
use Rattle.flat_form.specs.declared.cube.Cube.{Cube}
use Rattle.flat_form.specs.Fitting.{AtomFits, BasicFits, NormFits, NormsFit}
use Rattle.flat_form.specs.Meanings.{Extends, BasicHolds}
use Rattle.flat_form.specs.Normals.{Norm, Norms, norm, also}
use Rattle.flat_form.specs.Numbering.{BasicOver, CubesOver}
use Rattle.flat_facts.proofs.Lists.{both_hold}
use Rattle.node_facts.specs.Branches.{Branch, Branches, branch, no_branch, one_more, norm_in, norms_in, with_list, BranchesHold, BranchOver, BranchesOver, BranchFits, BranchesFit}
use Rattle.node_facts.specs.Places.{At}
use Rattle.node_facts.specs.Agreement.{AgreesAt, IsHeld, AllHeld}
use Rattle.node_facts.specs.Nested.{IsNested}
use Rattle.node_facts.specs.PlaceLaws.{PlacesHave, ChangedKeepsWhole, ListedIsSameNorm, ListedIsOver, HeldStays}
use Rattle.node_facts.proofs.At.{at_has, changed_has}
use Rattle.node_facts.proofs.Beside.{holds_on}
use Rattle.node_facts.proofs.Nested.{nested_fits, round_and_own}

-- what is had at each place

abbrev Over : ℕ → List Flat → Branch → Type 0
Over n round x = BranchOver n x × BasicOver n round

abbrev AllOver : ℕ → List Flat → Branches → Type 0
AllOver n round parts = BranchesOver n parts × BasicOver n round

pub over_at : (n i m : ℕ) (round under : List Flat) (root x : Branch) → At n round root i m under x → BranchOver n root → BasicOver n round
    → BranchOver m x × BasicOver m under
over_at n i m round under root x at over at_round = at_has Over AllOver
    (λ n round bound basic parts list has. (has.0.1, round_and_own n bound round basic has.1 has.0.0))
    (λ n round part rest has. (has.0.0, has.1)) (λ n round part rest has. (has.0.1, has.1)) n i m round under root x at (over, at_round)

module _ (σ : Signature) where
  abbrev Fits : ℕ → List Flat → Branch → Type 0
  Fits n round x = BranchFits σ x × BasicFits σ round

  abbrev AllFit : ℕ → List Flat → Branches → Type 0
  AllFit n round parts = BranchesFit σ parts × BasicFits σ round

  pub fits_at : (n i m : ℕ) (round under : List Flat) (root x : Branch) → At n round root i m under x → BranchFits σ root → BasicFits σ round
      → BranchFits σ x × BasicFits σ under
  fits_at n i m round under root x at fits at_round = at_has Fits AllFit
      (λ n round bound basic parts list has. (has.0.1, All-append (AtomFits σ) round basic has.1 has.0.0))
      (λ n round part rest has. (has.0.0, has.1)) (λ n round part rest has. (has.0.1, has.1)) n i m round under root x at (fits, at_round)

  abbrev NormFit : ℕ → List Flat → Branch → Type 0
  NormFit n round x = NormFits σ (norm_in x) × BasicFits σ round

  abbrev AllNormFit : ℕ → List Flat → Branches → Type 0
  AllNormFit n round parts = NormsFit σ (norms_in parts) × BasicFits σ round

  pub norm_fits_at : (n i m : ℕ) (round under : List Flat) (root x : Branch) → At n round root i m under x → NormFits σ (norm_in root) → BasicFits σ round
      → NormFits σ (norm_in x) × BasicFits σ under
  norm_fits_at n i m round under root x at fits at_round = at_has NormFit AllNormFit
      (λ n round bound basic parts list has. (has.0.1, All-append (AtomFits σ) round basic has.1 has.0.0))
      (λ n round part rest has. (has.0.0, has.1)) (λ n round part rest has. (has.0.1, has.1)) n i m round under root x at (fits, at_round)

pub held_at : (n i m : ℕ) (round under : List Flat) (root x : Branch) → At n round root i m under x → IsHeld n round root → IsHeld m under x
held_at n i m round under root x at held = at_has IsHeld AllHeld
    (λ n round bound basic parts list has. has.0) (λ n round part rest has. has.0) (λ n round part rest has. has.1) n i m round under root x at held

pub places_have : PlacesHave
places_have = record { over = over_at; fit = fits_at; norm_fits = norm_fits_at; held = held_at }

-- the whole means the same

abbrev Agree : Signature → ℕ → List Flat → Branch → Branch → Type 0
Agree σ n round x y = BranchOver n x → BasicOver n round → AgreesAt σ n round x y

abbrev AllAgree : Signature → ℕ → List Flat → Branches → Branches → Type 0
AllAgree σ n round xs ys =
    BranchesOver n xs → BasicOver n round → (e : Valuation σ) → BranchesFit σ xs → BranchesFit σ ys → BasicFits σ round
    → BasicHolds e round → (BranchesHold n e xs → BranchesHold n e ys) × (BranchesHold n e ys → BranchesHold n e xs)

agree_up : (σ : Signature) (n : ℕ) (round : List Flat) (bound : ℕ) (basic : List Flat) (old new : Branches) (list : Option (List Cube))
    → AllAgree σ (n + bound) (round ++ basic) old new → Agree σ n round (branch bound basic old list) (branch bound basic new list)
agree_up σ n round bound basic old new (Some list) agree over at_round e f g r holds = ((λ some. some), (λ some. some))
agree_up σ n round bound basic old new None agree over at_round e f g r holds =
    let inside = λ (d : Valuation σ) (like : Extends n e d) (h : BasicHolds d basic).
    agree over.1 (round_and_own n bound round basic at_round over.0) d f.1 g.1 (All-append (AtomFits σ) round basic r f.0)
    (both_hold d round basic (holds_on n round e d at_round like holds) h) in (
      (λ never d like h each. never d like h ((inside d like h).1 each)),
      (λ never d like h each. never d like h ((inside d like h).0 each)),
    )

agree_head : (σ : Signature) (n : ℕ) (round : List Flat) (old new : Branch) (rest : Branches) → Agree σ n round old new → AllAgree σ n round (one_more old rest) (one_more new rest)
agree_head σ n round old new rest agree over at_round e f g r holds =
    let one = agree over.0 at_round e f.0 g.0 r holds in ((λ each. (one.0 each.0, each.1)), (λ each. (one.1 each.0, each.1)))

agree_tail : (σ : Signature) (n : ℕ) (round : List Flat) (part : Branch) (old new : Branches) → AllAgree σ n round old new → AllAgree σ n round (one_more part old) (one_more part new)
agree_tail σ n round part old new agree over at_round e f g r holds =
    let others = agree over.1 at_round e f.1 g.1 r holds in ((λ each. (each.0, others.0 each.1)), (λ each. (each.0, others.1 each.1)))

pub changed_keeps_whole : ChangedKeepsWhole
changed_keeps_whole f σ n i m round under root x at over at_round agrees =
    changed_has f (Agree σ) (AllAgree σ) (agree_up σ) (agree_head σ) (agree_tail σ) n i m round under root x at (λ o r. agrees) over at_round

-- the negated conjunction is the same

abbrev SameNorm : ℕ → List Flat → Branch → Branch → Type 0
SameNorm n round x y = norm_in y ≡ norm_in x

abbrev SameNorms : ℕ → List Flat → Branches → Branches → Type 0
SameNorms n round xs ys = norms_in ys ≡ norms_in xs

list_norm : (list : List Cube) (x : Branch) → norm_in (with_list list x) ≡ norm_in x
list_norm list (branch bound basic parts other) = refl

pub listed_is_same_norm : ListedIsSameNorm
listed_is_same_norm n i m round under root x list at = changed_has (with_list list) SameNorm SameNorms
    (λ n round bound basic old new option same. ap (λ (z : Norms). norm bound basic z) same)
    (λ n round old new rest same. ap (λ (z : Norm). also z (norms_in rest)) same)
    (λ n round part old new same. ap (λ (z : Norms). also (norm_in part) z) same) n i m round under root x at (list_norm list x)

-- the branch is well numbered again

abbrev OverToo : ℕ → List Flat → Branch → Branch → Type 0
OverToo n round x y = BranchOver n x → BranchOver n y

abbrev AllOverToo : ℕ → List Flat → Branches → Branches → Type 0
AllOverToo n round xs ys = BranchesOver n xs → BranchesOver n ys

list_over : (n : ℕ) (list : List Cube) (x : Branch) → CubesOver n list → IsDistinct list → BranchOver n x → BranchOver n (with_list list x)
list_over n list (branch bound basic parts other) cubes distinct over = (over.0, over.1, (cubes, distinct))

pub listed_is_over : ListedIsOver
listed_is_over n i m round under root x list at cubes distinct = changed_has (with_list list) OverToo AllOverToo
    (λ n round bound basic old new option too over. (over.0, too over.1, over.2))
    (λ n round old new rest too over. (too over.0, over.1))
    (λ n round part old new too over. (over.0, too over.1)) n i m round under root x at (list_over m list x cubes distinct)

-- all lists are held again

abbrev Stays : ℕ → List Flat → Branch → Branch → Type 0
Stays n round x y = IsHeld n round x → (norm_in y ≡ norm_in x) × IsHeld n round y

abbrev AllStay : ℕ → List Flat → Branches → Branches → Type 0
AllStay n round xs ys = AllHeld n round xs → (norms_in ys ≡ norms_in xs) × AllHeld n round ys

stays_up : (n : ℕ) (round : List Flat) (bound : ℕ) (basic : List Flat) (old new : Branches) (list : Option (List Cube))
    → AllStay (n + bound) (round ++ basic) old new → Stays n round (branch bound basic old list) (branch bound basic new list)
stays_up n round bound basic old new None stay held = let (same, all) = stay held.0 in (ap (λ (z : Norms). norm bound basic z) same, (all, tt))
stays_up n round bound basic old new (Some list) stay held =
    let (same, all) = stay held.0 in
    (ap (λ (z : Norms). norm bound basic z) same, (all, subst (λ (z : Norms). IsNested n round (norm bound basic z) list) (sym same) held.1))

stays_head : (n : ℕ) (round : List Flat) (old new : Branch) (rest : Branches) → Stays n round old new → AllStay n round (one_more old rest) (one_more new rest)
stays_head n round old new rest stay held = let (same, one) = stay held.0 in (ap (λ (z : Norm). also z (norms_in rest)) same, (one, held.1))

stays_tail : (n : ℕ) (round : List Flat) (part : Branch) (old new : Branches) → AllStay n round old new → AllStay n round (one_more part old) (one_more part new)
stays_tail n round part old new stay held = let (same, all) = stay held.1 in (ap (λ (z : Norms). also (norm_in part) z) same, (held.0, all))

list_stays : (n : ℕ) (round : List Flat) (list : List Cube) (x : Branch) → IsNested n round (norm_in x) list → Stays n round x (with_list list x)
list_stays n round list (branch bound basic parts other) nested held = (refl, (held.0, nested))

pub held_stays : HeldStays
held_stays n i m round under root x list at held nested =
    (changed_has (with_list list) Stays AllStay stays_up stays_head stays_tail n i m round under root x at (list_stays m under list x nested) held).1

-- held lists fit

module _ (σ : Signature) where
  mutual
    pub held_fits : (n : ℕ) (round : List Flat) (x : Branch) → NormFits σ (norm_in x) → IsHeld n round x → BranchFits σ x
    held_fits n round (branch bound basic parts None) fits held = (fits.0, all_held_fit (n + bound) (round ++ basic) parts fits.1 held.0, tt)
    held_fits n round (branch bound basic parts (Some list)) fits held =
        (fits.0, all_held_fit (n + bound) (round ++ basic) parts fits.1 held.0, nested_fits σ n round (norm bound basic (norms_in parts)) list fits held.1)

    all_held_fit : (n : ℕ) (round : List Flat) (xs : Branches) → NormsFit σ (norms_in xs) → AllHeld n round xs → BranchesFit σ xs
    all_held_fit n round no_branch fits held = tt
    all_held_fit n round (one_more part rest) fits held = (held_fits n round part fits.0 held.0, all_held_fit n round rest fits.1 held.1)
