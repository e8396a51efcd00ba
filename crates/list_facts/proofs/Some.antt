-- Lists of cubes of which one holds, by their members.
use Rattle.std.specs.Prelude.{Contains}
use Rattle.std.proofs.Common.{List, [], ◌∷◌, sym, subst, arith, inl, inr}
use Rattle.classical.specs.Classical.{Exists}
use Rattle.classical.proofs.Stable.{◌>>=◌}
use Rattle.tree_model.specs.Signatures.{Signature}
use Rattle.tree_model.specs.Valuations.{Valuation}
use Rattle.tree_facts.proofs.Members.{contains_first, contains_later, contains_cases}
use Rattle.flat_form.specs.declared.cube.Cube.{Cube}
use Rattle.flat_form.specs.Meanings.{CubeHolds, SomeHolds}

module _ {σ : Signature} (e : Valuation σ) where
  pub some_stable : (cubes : List Cube) → ¬ ¬ SomeHolds e cubes → SomeHolds e cubes
  some_stable [] not = not (λ none. none)
  some_stable (cube ∷ rest) not = λ out. not (λ some. some out)

  pub some_of : (cubes : List Cube) → SomeHolds e cubes → Exists (λ (cube : Cube). Contains cubes cube × CubeHolds e cube)
  some_of [] some = absurd some
  some_of (cube ∷ rest) some = λ out. do
    c ← some
    elim c [
      | inl holds ↦ out (cube, (contains_first cube rest, holds))
      | inr later ↦ do
        (other, (i, holds)) ← some_of rest later
        out (other, (contains_later cube other rest i, holds))
    ]

  pub in_some : (cubes : List Cube) (cube : Cube) → Contains cubes cube → CubeHolds e cube → SomeHolds e cubes
  in_some [] cube i holds = absurd (omega (arith, i.1))
  in_some (first ∷ rest) cube i holds = λ out. elim (contains_cases first cube rest i) [
    | inl same ↦ out (inl (subst (λ (z : Cube). CubeHolds e z) (sym same) holds))
    | inr more ↦ out (inr (in_some rest cube more holds))
  ]

-- where some cube of one list makes some cube of another hold
pub from_some : {σ : Signature} (e d : Valuation σ) (cubes out : List Cube) → SomeHolds e cubes
    → ((cube : Cube) → Contains cubes cube → CubeHolds e cube → SomeHolds d out) → SomeHolds d out
from_some e d cubes out some each = some_stable d out (λ no. do
  (cube, (i, holds)) ← some_of e cubes some
  no (each cube i holds))
