-- Two lists of reduced cubes, one for what is asked of the values of some variables and one for its denial.
use Rattle.std.proofs.Common.{◌≡◌, ◌↔◌, ℕ, ◌+◌, List, [], ◌∷◌, length, slice_index, slice_get, Some, All, Contains, refl, sym, subst, arith}
use Rattle.std.proofs.lemmas.List.Elements.{All-head, All-get_or}
use Rattle.std.proofs.lemmas.Option.{slice_get_within, get_or_from_slice_get}
use Rattle.classical.proofs.Stable.{left, some}
use Rattle.lists.specs.Distinct.{IsDistinct}
use Rattle.tree_model.specs.Signatures.{Signature, Alike}
use Rattle.tree_model.specs.Valuations.{Valuation}
use Rattle.flat_form.specs.declared.atom.Flat.{Flat}
use Rattle.flat_form.specs.declared.cube.Part.{Part}
use Rattle.flat_form.specs.declared.cube.Cube.{Cube}
use Rattle.flat_form.specs.Fitting.{CubeFits}
use Rattle.flat_form.specs.Meanings.{BasicHolds, AllFail, CubeHolds, SomeHolds}
use Rattle.flat_form.specs.Numbering.{IsWellNumbered, CubesOver}
use Rattle.flat_form.specs.Orders.{place_of}
use Rattle.flat_form.specs.Reduced.{IsReduced}
use Rattle.flat_form.specs.Symbols.{CubesFit}
use Rattle.flat_form.proofs.Symbols.{each_of}
use Rattle.flattening.specs.Conditions.{GivesRanks}
use Rattle.explicit_form.specs.Shape.{IsNotEmpty}
use Rattle.cube_facts.proofs.Solution.{reduced_solution}
use Rattle.list_facts.proofs.Plain.{closed_is_fixed}
use Rattle.list_facts.proofs.Some.{in_some}
use Rattle.numbering.proofs.Numbers.{place_of_item}

-- ---- values by rank and by variable

module _ {σ : Signature} (ranks : List ℕ) where
  -- the values of the variables, by rank
  abbrev pub by_rank : Valuation σ → Valuation σ
  by_rank d i = d (slice_index ranks i)

  pub gives_by_rank : (d : Valuation σ) → GivesRanks ranks d (by_rank d)
  gives_by_rank d i within path = refl

  -- values for the variables, where their ranks have values
  abbrev pub by_variable : Valuation σ → Valuation σ
  by_variable e v = e (place_of ranks v)

  pub gives_by_variable : IsDistinct ranks → (e : Valuation σ) → GivesRanks ranks (by_variable e) e
  gives_by_variable distinct e i within =
      subst (λ (k : ℕ). Alike (e k) (e i)) (sym (place_of_item ranks i distinct within)) (λ path. refl)

-- ---- one list

-- the cubes are reduced, over as many free variables as there are ranks, and one of them holds exactly where P does
pub record IsListOf {σ : Signature} (ranks : List ℕ) (P : Valuation σ → Type 0) (cubes : List Cube) : Type 0 where
  pub over : CubesOver (length ranks) cubes
  pub reduced : All IsReduced cubes
  pub fits : CubesFit σ cubes
  pub means : (d e : Valuation σ) → GivesRanks ranks d e → SomeHolds e cubes ↔ P d

module _ {σ : Signature} (ranks : List ℕ) (P : Valuation σ → Type 0) where
  -- an empty list holds nowhere
  pub holds_nowhere : IsListOf ranks P [] → (d : Valuation σ) → ¬ P d
  holds_nowhere list d holds = (list.means d (by_rank ranks d) (gives_by_rank ranks d)).1 holds

  -- and a list with a cube holds somewhere, since a reduced cube has a solution
  pub holds_somewhere : IsDistinct ranks → (cube : Cube) (rest : List Cube) → IsListOf ranks P (cube ∷ rest) → ¬ ((d : Valuation σ) → ¬ P d)
  holds_somewhere distinct cube rest list none =
      reduced_solution σ cube (All-head IsReduced cube rest list.reduced) (All-head (CubeFits σ) cube rest list.fits)
      (λ (e, holds). none (by_variable ranks e) ((list.means (by_variable ranks e) e (gives_by_variable ranks distinct e)).0 (left holds)))

  -- where a cube holds under all values, P does
  pub holds_everywhere : (cubes : List Cube) → IsListOf ranks P cubes → (cube : Cube) → Contains cubes cube
      → ((e : Valuation σ) → CubeHolds e cube) → (d : Valuation σ) → P d
  holds_everywhere cubes list cube has always d =
      (list.means d (by_rank ranks d) (gives_by_rank ranks d)).0 (in_some (by_rank ranks d) cubes cube has (always (by_rank ranks d)))

  -- a cube over no variable holds somewhere, and so everywhere
  pub closed_holds : length ranks ≡ 0 → (cube : Cube) (rest : List Cube) → IsListOf ranks P (cube ∷ rest) → (d : Valuation σ) → ¬ ¬ P d
  closed_holds closed cube rest list d fails =
      reduced_solution σ cube (All-head IsReduced cube rest list.reduced) (All-head (CubeFits σ) cube rest list.fits)
      (λ (e, holds). fails (holds_everywhere (cube ∷ rest) list cube (0, omega arith, refl)
      (λ other. closed_is_fixed σ cube e other (omega (arith, closed, (All-head (λ (c : Cube). (c.free ≡ length ranks) × IsWellNumbered c) cube rest list.over).0)) holds) d))

-- ---- both lists

-- a cube with neither atoms nor parts holds everywhere
empty_holds : {σ : Signature} (cube : Cube) → cube.basic ≡ [] → cube.parts ≡ [] → (e : Valuation σ) → CubeHolds e cube
empty_holds cube no_atoms no_parts e =
    some e (
      (λ v w path. refl),
      subst (λ (basic : List Flat). BasicHolds e basic) (sym no_atoms) tt,
      subst (λ (parts : List Part). AllFail (cube.free + cube.outer) e parts) (sym no_parts) tt,
    )

module _ {σ : Signature} (ranks : List ℕ) (P Q : Valuation σ → Type 0) (apart : (d : Valuation σ) → P d → Q d → ⊥) where
  -- where both lists have a cube, no cube of the first holds everywhere
  fails_somewhere : IsDistinct ranks → (cubes : List Cube) → IsListOf ranks P cubes → (other : Cube) (others : List Cube) → IsListOf ranks Q (other ∷ others)
      → (cube : Cube) → Contains cubes cube → ¬ ((e : Valuation σ) → CubeHolds e cube)
  fails_somewhere distinct cubes list other others denial cube has always =
      holds_somewhere ranks Q distinct other others denial
      (λ d holds. apart d (holds_everywhere ranks P cubes list cube has always d) holds)

  -- so each says something
  pub not_empty : IsDistinct ranks → (cubes : List Cube) → IsListOf ranks P cubes → (other : Cube) (others : List Cube) → IsListOf ranks Q (other ∷ others)
      → All IsNotEmpty cubes
  not_empty distinct cubes list other others denial =
      each_of IsNotEmpty cubes (λ cube has empty.
      fails_somewhere distinct cubes list other others denial cube has (empty_holds cube empty.0 empty.1))

-- what holds of each item holds of the one at a place
pub at_place : {X : Type 0} (P : X → Type 0) (xs : List X) (i : ℕ) (x : X) → All P xs → slice_get xs i ≡ Some x → P x
at_place P xs i x all got = subst P (get_or_from_slice_get xs i x x got) (All-get_or P xs i x (slice_get_within xs i x got) all)

pub stands_at : {X : Type 0} (xs : List X) (i : ℕ) (x : X) → slice_get xs i ≡ Some x → Contains xs x
stands_at xs i x got = (i, slice_get_within xs i x got, get_or_from_slice_get xs i x x got)
