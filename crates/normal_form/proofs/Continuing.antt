-- Steps that are taken on raw cubes one after the other.
use Rattle.std.specs.Prelude.{All, Some, None}
use Rattle.std.proofs.Common.{ℕ, ◌≡◌, ◌+◌, List, [], ◌∷◌, ◌++◌, drop, sym, subst, inl, inr, arith}
use Rattle.std.proofs.lemmas.List.{append-nil}
use Rattle.std.proofs.lemmas.List.Elements.{All-contains, Contains-push_cases}
use Rattle.flat_form.specs.declared.atom.Flat.{Flat}
use Rattle.flat_form.specs.declared.cube.Part.{Part}
use Rattle.flat_form.specs.declared.cube.Cube.{Cube}
use Rattle.flat_form.specs.Normals.{Norm, norm}
use Rattle.flat_form.specs.Numbering.{CubesOver}
use Rattle.flat_form.specs.Steps.{Outcome}
use Rattle.flat_form.proofs.Symbols.{each_of}
use Rattle.step_facts.specs.Lists.{TakesSteps, KeepsFirst, DeniesEach, IsPlain}
use Rattle.lists.specs.Distinct.{IsDistinct}
use Rattle.list_facts.proofs.Takes.{takes_distinct}
use Rattle.normal_form.specs.Taking.{Continues, KeepsOne}

pub none_continues : (done : List Cube) (raw : Cube) → Outcome raw None → Continues done (raw ∷ []) done
none_continues done raw outcome rest out more = TakesSteps.without done raw rest out outcome more

pub some_continues : (done next : List Cube) (raw cube : Cube) → Outcome raw (Some cube) → KeepsOne done cube next → Continues done (raw ∷ []) next
some_continues done next raw cube outcome kept rest out more = elim kept [
  | inl old ↦ TakesSteps.twice done raw cube rest out outcome old.0 (subst (λ (z : List Cube). TakesSteps z rest out) old.1 more)
  | inr last ↦ TakesSteps.new done raw cube rest out outcome last.0 (subst (λ (z : List Cube). TakesSteps z rest out) last.1 more)
]

pub kept_all : (P : Cube → Type 0) (done next : List Cube) (cube : Cube) → KeepsOne done cube next → P cube → All P done → All P next
kept_all P done next cube kept here each = elim kept [
  | inl old ↦ subst (λ (z : List Cube). All P z) (sym old.1) each
  | inr last ↦ subst (λ (z : List Cube). All P z) (sym last.1) (each_of P (done ++ cube ∷ []) (λ other i. elim (Contains-push_cases done cube other i) [
    | inl j ↦ All-contains P done other each j
    | inr e ↦ subst P e here
  ]))
]

-- over so many variables, by another name
pub over_more : (n k : ℕ) (done next : List Cube) → k ≡ n → (CubesOver k done → CubesOver k next) → CubesOver n done → CubesOver n next
over_more n k done next same step over = subst (λ (m : ℕ). CubesOver m next) same (step (subst (λ (m : ℕ). CubesOver m done) (sym same) over))

-- The raw cubes of the items that are left are a function of these. One item further, and behind the last one:
module _ (raws_of : List Cube → List Cube) (cubes : List Cube) (P : List Cube → Type 0) (i : ℕ) where
  pub further : (done next raws : List Cube) (cube : Cube) → drop i cubes ≡ cube ∷ drop (i + 1) cubes
      → raws_of (cube ∷ drop (i + 1) cubes) ≡ raws ++ raws_of (drop (i + 1) cubes) → ((out : List Cube) → TakesSteps done (raws_of (drop i cubes)) out → P out)
      → Continues done raws next → (out : List Cube) → TakesSteps next (raws_of (drop (i + 1) cubes)) out → P out
  further done next raws cube at is before step out more =
      before out (subst (λ (z : List Cube). TakesSteps done (raws_of z) out) (sym at)
      (subst (λ (z : List Cube). TakesSteps done z out) (sym is) (step (raws_of (drop (i + 1) cubes)) out more)))

  pub ended : (done : List Cube) → drop i cubes ≡ [] → raws_of [] ≡ [] → ((out : List Cube) → TakesSteps done (raws_of (drop i cubes)) out → P out) → P done
  ended done past none before =
      before done (subst (λ (z : List Cube). TakesSteps done (raws_of z) done) (sym past) (subst (λ (z : List Cube). TakesSteps done z done) (sym none) (TakesSteps.all_done done)))

pub denies_distinct : (cubes so_far out : List Cube) → IsDistinct so_far → DeniesEach so_far cubes out → IsDistinct out
denies_distinct [] so_far out distinct is = subst (λ (z : List Cube). IsDistinct z) (sym is) distinct
denies_distinct (cube ∷ rest) so_far out distinct (negation, next, takes, both, more) =
    denies_distinct rest next out (takes_distinct [] _ next both tt) more

pub kept_more : (start cubes : List Cube) (i : ℕ) (done next : List Cube) (cube : Cube) → drop i cubes ≡ cube ∷ drop (i + 1) cubes → KeepsOne done cube next
    → ((rest all : List Cube) → KeepsFirst done (drop i cubes ++ rest) all → KeepsFirst start (cubes ++ rest) all)
    → (rest all : List Cube) → KeepsFirst next (drop (i + 1) cubes ++ rest) all → KeepsFirst start (cubes ++ rest) all
kept_more start cubes i done next cube at kept before rest all more =
    before rest all (subst (λ (z : List Cube). KeepsFirst done (z ++ rest) all) (sym at) (elim kept [
      | inl old ↦ KeepsFirst.twice done cube (drop (i + 1) cubes ++ rest) all old.0 (subst (λ (z : List Cube). KeepsFirst z (drop (i + 1) cubes ++ rest) all) old.1 more)
      | inr last ↦ KeepsFirst.new done cube (drop (i + 1) cubes ++ rest) all last.0 (subst (λ (z : List Cube). KeepsFirst z (drop (i + 1) cubes ++ rest) all) last.1 more)
    ]))

-- the cubes of one list, then those of another
pub kept_of_both : (left right one other start middle out : List Cube) → one ≡ left → other ≡ right → start ≡ []
    → ((rest all : List Cube) → KeepsFirst middle rest all → KeepsFirst start (one ++ rest) all)
    → ((rest all : List Cube) → KeepsFirst out rest all → KeepsFirst middle (other ++ rest) all) → KeepsFirst [] (left ++ right) out
kept_of_both left right one other start middle out at_left at_right empty first second =
    subst (λ (z : List Cube). KeepsFirst z (left ++ right) out) empty (subst (λ (z : List Cube). KeepsFirst start (z ++ right) out) at_left
    (first right out (subst (λ (z : List Cube). KeepsFirst middle z out) (append-nil right)
    (subst (λ (z : List Cube). KeepsFirst middle (z ++ []) out) at_right (second [] out (KeepsFirst.all_done out))))))

pub plain_distinct : (n : ℕ) (x : Norm) (out : List Cube) → IsPlain n x out → IsDistinct out
plain_distinct n (norm bound basic parts) out (first, all, lists, is_first, are_plain, is_joined, (shut, is_shut, none)) =
    denies_distinct shut _ out ((λ i. omega (arith, i.1)), tt) none

-- one raw cube, of atoms alone
pub first_taken : (n : ℕ) (basic copy : List Flat) (parts : List Part) (start out : List Cube) → copy ≡ basic → parts ≡ [] → start ≡ []
    → Continues start (record { free = n; outer = 0; basic = copy; parts = parts } ∷ []) out
    → TakesSteps [] (record { free = n; outer = 0; basic = basic; parts = [] } ∷ []) out
first_taken n basic copy parts start out same none empty step =
    subst (λ (z : List Cube). TakesSteps z (record { free = n; outer = 0; basic = basic; parts = [] } ∷ []) out) empty
    (subst (λ (z : List Flat). TakesSteps start (record { free = n; outer = 0; basic = z; parts = [] } ∷ []) out) same
    (subst (λ (z : List Part). TakesSteps start (record { free = n; outer = 0; basic = copy; parts = z } ∷ []) out) none (step [] out (TakesSteps.all_done out))))
