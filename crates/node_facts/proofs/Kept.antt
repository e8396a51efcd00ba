-- The cubes that are kept beside atoms.
use Rattle.std.specs.Prelude.{Contains, All}
use Rattle.std.proofs.Common.{ℕ, ◌≡◌, List, [], ◌∷◌, refl, sym, ap, ◌∙◌, subst, arith, inl, inr}
use Rattle.std.proofs.lemmas.List.Elements.{All-contains, All-head, All-tail}
use Rattle.classical.proofs.Stable.{◌>>=◌}
use Rattle.lists.specs.Distinct.{IsDistinct}
use Rattle.tree_model.specs.Signatures.{Signature}
use Rattle.tree_model.specs.Valuations.{Valuation}
use Rattle.tree_facts.proofs.Members.{contains_first, contains_later, contains_cases}
use Rattle.flat_form.specs.declared.atom.Flat.{Flat}
use Rattle.flat_form.specs.declared.cube.Cube.{Cube}
use Rattle.flat_form.specs.Fitting.{BasicFits, CubeFits}
use Rattle.flat_form.specs.Meanings.{BasicHolds, CubeHolds, SomeHolds}
use Rattle.flat_form.specs.Numbering.{BasicOver}
use Rattle.flat_form.specs.Reduced.{IsReduced}
use Rattle.flat_form.specs.Symbols.{CubesFit}
use Rattle.flat_form.proofs.Symbols.{each_of}
use Rattle.flat_facts.proofs.Lists.{front_holds}
use Rattle.cube_facts.proofs.Solution.{reduced_solution}
use Rattle.list_facts.specs.Lists.{AreRaw, AreReduced}
use Rattle.list_facts.proofs.Some.{in_some, from_some}
use Rattle.list_facts.proofs.Takes.{Over}
use Rattle.node_facts.specs.Nested.{beside, CanHold, NeverHolds, HoldsWith, Keeps}
use Rattle.node_facts.specs.KeepLaws.{KeepsMeans, KeepsShape, KeepsIsOne, KeepsAll, KeepsNone}
use Rattle.node_facts.proofs.Beside.{beside_means, beside_fits}

-- what is kept stands in the list
pub kept_among : (atoms : List Flat) (cubes out : List Cube) (cube : Cube) → Keeps atoms cubes out → Contains out cube → Contains cubes cube
kept_among atoms [] out cube is i = subst (λ (z : List Cube). Contains z cube) is i
kept_among atoms (first ∷ cubes) out cube (inl (can, rest, more, same)) i =
    elim (contains_cases first cube rest (subst (λ (z : List Cube). Contains z cube) same i)) [
      | inl e ↦ subst (λ (z : Cube). Contains (first ∷ cubes) z) e (contains_first first cubes)
      | inr j ↦ contains_later first cube cubes (kept_among atoms cubes rest cube more j)
    ]
kept_among atoms (first ∷ cubes) out cube (inr (never, more)) i = contains_later first cube cubes (kept_among atoms cubes out cube more i)

-- and has what each cube of the list has
pub kept_all : (P : Cube → Type 0) (atoms : List Flat) (cubes out : List Cube) → Keeps atoms cubes out → All P cubes → All P out
kept_all P atoms cubes out is all = each_of P out (λ cube i. All-contains P cubes cube all (kept_among atoms cubes out cube is i))

pub kept_distinct : (atoms : List Flat) (cubes out : List Cube) → Keeps atoms cubes out → IsDistinct cubes → IsDistinct out
kept_distinct atoms [] out is distinct = subst (λ (z : List Cube). IsDistinct z) (sym is) tt
kept_distinct atoms (first ∷ cubes) out (inl (can, rest, more, same)) distinct =
    subst (λ (z : List Cube). IsDistinct z) (sym same)
    ((λ i. distinct.0 (kept_among atoms cubes rest first more i)), kept_distinct atoms cubes rest more distinct.1)
kept_distinct atoms (first ∷ cubes) out (inr (never, more)) distinct = kept_distinct atoms cubes out more distinct.1

pub kept_reduced : (σ : Signature) (n : ℕ) (atoms : List Flat) (cubes out : List Cube) → Keeps atoms cubes out → AreReduced σ n cubes → AreReduced σ n out
kept_reduced σ n atoms cubes out is are = record {
  over = kept_all (Over n) atoms cubes out is are.over;
  fit = kept_all (CubeFits σ) atoms cubes out is are.fit;
  reduced = kept_all IsReduced atoms cubes out is are.reduced;
  distinct = kept_distinct atoms cubes out is are.distinct;
}

-- a cube of the list is kept, or has no solution with the atoms
data IsTold (atoms : List Flat) (out : List Cube) (cube : Cube) : Type 0 where
  stays : Contains out cube → IsTold atoms out cube
  goes : NeverHolds (beside atoms cube) → IsTold atoms out cube

told : (atoms : List Flat) (cubes out : List Cube) (cube : Cube) → Keeps atoms cubes out → Contains cubes cube → IsTold atoms out cube
told atoms [] out cube is i = absurd (omega (arith, i.1))
told atoms (first ∷ cubes) out cube (inl (can, rest, more, same)) i = elim (contains_cases first cube cubes i) [
  | inl e ↦ stays (subst (λ (z : List Cube). Contains z cube) (sym same) (subst (λ (z : Cube). Contains (first ∷ rest) z) e (contains_first first rest)))
  | inr j ↦ elim (told atoms cubes rest cube more j) [
    | stays k ↦ stays (subst (λ (z : List Cube). Contains z cube) (sym same) (contains_later first cube rest k))
    | goes never ↦ goes never
  ]
]
told atoms (first ∷ cubes) out cube (inr (never, more)) i = elim (contains_cases first cube cubes i) [
  | inl e ↦ goes (subst (λ (z : Cube). NeverHolds (beside atoms z)) e never)
  | inr j ↦ told atoms cubes out cube more j
]

-- each that is kept can hold with the atoms
kept_can : (atoms : List Flat) (cubes out : List Cube) (cube : Cube) → Keeps atoms cubes out → Contains out cube → CanHold (beside atoms cube)
kept_can atoms [] out cube is i = let empty = subst (λ (z : List Cube). Contains z cube) is i in absurd (omega (arith, empty.1))
kept_can atoms (first ∷ cubes) out cube (inl (can, rest, more, same)) i =
    elim (contains_cases first cube rest (subst (λ (z : List Cube). Contains z cube) same i)) [
      | inl e ↦ subst (λ (z : Cube). CanHold (beside atoms z)) e can
      | inr j ↦ kept_can atoms cubes rest cube more j
    ]
kept_can atoms (first ∷ cubes) out cube (inr (never, more)) i = kept_can atoms cubes out cube more i

module _ (σ : Signature) (n : ℕ) (atoms : List Flat) (cubes out : List Cube) (are : AreRaw σ n cubes) (over : BasicOver n atoms)
    (fits : BasicFits σ atoms) (is : Keeps atoms cubes out) where
  cube_over : (cube : Cube) → Contains cubes cube → BasicOver cube.free atoms
  cube_over cube i = subst (λ (k : ℕ). BasicOver k atoms) (sym (All-contains (Over n) cubes cube are.over i).0) over

  both_fit : (cube : Cube) → Contains cubes cube → CubeFits σ (beside atoms cube)
  both_fit cube i = beside_fits σ atoms cube fits (All-contains (CubeFits σ) cubes cube are.fit i)

  still : (e : Valuation σ) → BasicHolds e atoms → (cube : Cube) → Contains cubes cube → CubeHolds e cube → IsTold atoms out cube → SomeHolds e out
  still e holds cube i h (stays j) = in_some e out cube j h
  still e holds cube i h (goes never) = absurd (never σ e (both_fit cube i) ((beside_means σ atoms cube e (cube_over cube i)).1 (holds, h)))

  pub kept_means : (e : Valuation σ) → BasicHolds e atoms → (SomeHolds e out → SomeHolds e cubes) × (SomeHolds e cubes → SomeHolds e out)
  kept_means e holds = (
    (λ some. from_some e e out cubes some (λ cube i h. in_some e cubes cube (kept_among atoms cubes out cube is i) h)),
    (λ some. from_some e e cubes out some (λ cube i h. still e holds cube i h (told atoms cubes out cube is i))),
  )

  pub kept_together : All (HoldsWith σ atoms) out
  kept_together = each_of (HoldsWith σ atoms) out (λ cube j none. do
    let i : Contains cubes cube = kept_among atoms cubes out cube is j
    (e, h) ← kept_can atoms cubes out cube is j σ (both_fit cube i)
    none (e, (beside_means σ atoms cube e (cube_over cube i)).0 h))

-- one list only
module _ (σ : Signature) (atoms : List Flat) (fits : BasicFits σ atoms) where
  not_both : (cube : Cube) → CubeFits σ cube → CanHold (beside atoms cube) → ¬ NeverHolds (beside atoms cube)
  not_both cube f can = λ never. do
    (e, h) ← can σ (beside_fits σ atoms cube fits f)
    never σ e (beside_fits σ atoms cube fits f) h

  pub kept_one : (cubes one other : List Cube) → CubesFit σ cubes → Keeps atoms cubes one → Keeps atoms cubes other → one ≡ other
  kept_one [] one other f a b = a ∙ sym b
  kept_one (cube ∷ cubes) one other f (inl (can, rest, more, same)) (inl (also_can, also_rest, also_more, also_same)) =
      same ∙ (ap (λ z. cube ∷ z) (kept_one cubes rest also_rest (All-tail (CubeFits σ) cube cubes f) more also_more) ∙ sym also_same)
  kept_one (cube ∷ cubes) one other f (inl (can, rest, more, same)) (inr (never, others)) = absurd (not_both cube (All-head (CubeFits σ) cube cubes f) can never)
  kept_one (cube ∷ cubes) one other f (inr (never, others)) (inl (can, rest, more, same)) = absurd (not_both cube (All-head (CubeFits σ) cube cubes f) can never)
  kept_one (cube ∷ cubes) one other f (inr (never, more)) (inr (also_never, others)) = kept_one cubes one other (All-tail (CubeFits σ) cube cubes f) more others

pub kept_no_other : KeepsIsOne
kept_no_other σ atoms cubes one other f fits a b = kept_one σ atoms fits cubes one other f a b

-- all, and none

pub keeps_all : KeepsAll
keeps_all [] all = refl
keeps_all (cube ∷ cubes) all = inl (
  (λ σ fits. reduced_solution σ cube (All-head IsReduced cube cubes all) fits),
  cubes,
  keeps_all cubes (All-tail IsReduced cube cubes all),
  refl,
)

pub keeps_none : KeepsNone
keeps_none atoms [] none = refl
keeps_none atoms (cube ∷ cubes) none = inr (
  (λ σ e fits holds. do
    (d, (like, h, fail)) ← holds
    none σ d (front_holds d atoms cube.basic h)),
  keeps_none atoms cubes none,
)

pub keeps_means : KeepsMeans
keeps_means σ n atoms cubes out e are over fits is holds = kept_means σ n atoms cubes out are over fits is e holds

pub keeps_shape : KeepsShape
keeps_shape = record { among = kept_among; distinct = kept_distinct; reduced = kept_reduced }
