-- Quantifiers on lists whose cubes have so many free variables each.
use Rattle.std.specs.Prelude.{All, ◌↔◌}
use Rattle.std.proofs.Common.{ℕ, ◌≡◌, ◌-◌, ◌≤◌, List, [], ◌∷◌, refl, sym, subst, arith}
use Rattle.std.proofs.lemmas.List.Elements.{All-contains}
use Rattle.classical.specs.Classical.{Exists}
use Rattle.lists.specs.Distinct.{IsDistinct}
use Rattle.tree_model.specs.Signatures.{Signature}
use Rattle.tree_model.specs.Valuations.{Valuation}
use Rattle.tree_facts.proofs.Members.{contains_first}
use Rattle.flat_form.specs.declared.cube.Cube.{Cube}
use Rattle.flat_form.specs.Meanings.{Extends, SomeHolds}
use Rattle.flat_form.specs.Numbering.{CubesOver, IsWellNumbered}
use Rattle.flat_form.specs.Reduced.{IsReduced}
use Rattle.flat_form.specs.Symbols.{CubesFit}
use Rattle.step_facts.specs.Lists.{TakesSteps, IsExists}
use Rattle.list_facts.proofs.Takes.{Over}
use Rattle.list_facts.proofs.Lists.{exists_means, exists_reduced}

abbrev pub AreOpen : ℕ → List Cube → Type 0
AreOpen quantified cubes = All (λ (cube : Cube). (quantified ≤ cube.free) × IsWellNumbered cube) cubes

none_taken : (out : List Cube) → TakesSteps [] [] out → out ≡ []
none_taken out (TakesSteps.all_done done) = refl

within : (n quantified : ℕ) (cube : Cube) (rest : List Cube) → AreOpen quantified (cube ∷ rest) → CubesOver n (cube ∷ rest) → quantified ≤ n
within n quantified cube rest are_open over =
    let here : (quantified ≤ cube.free) × IsWellNumbered cube =
    All-contains (λ (it : Cube). (quantified ≤ it.free) × IsWellNumbered it) (cube ∷ rest) cube are_open (contains_first cube rest) in
    let at : Over n cube = All-contains (Over n) (cube ∷ rest) cube over (contains_first cube rest) in
    omega (arith, here.0, at.0)

pub opened_reduced : (σ : Signature) (n quantified : ℕ) (cubes out : List Cube) → AreOpen quantified cubes → CubesFit σ cubes → CubesOver n cubes
    → IsExists quantified cubes out → All IsReduced out × IsDistinct out
opened_reduced σ n quantified [] out are_open fit over is =
    subst (λ (z : List Cube). All IsReduced z × IsDistinct z) (sym (none_taken out is)) (λ k d low. absurd (omega (arith, low)), tt)
opened_reduced σ n quantified (cube ∷ rest) out are_open fit over is =
    let are = exists_reduced σ n quantified (cube ∷ rest) out (within n quantified cube rest are_open over) (record { over = over; fit = fit }) is in
    (are.reduced, are.distinct)

pub opened_list_means : (σ : Signature) (n quantified : ℕ) (cubes out : List Cube) (e : Valuation σ) → AreOpen quantified cubes → CubesFit σ cubes
    → CubesOver n cubes → IsExists quantified cubes out → SomeHolds e out ↔ Exists (λ (d : Valuation σ). Extends (n - quantified) e d × SomeHolds d cubes)
opened_list_means σ n quantified [] out e are_open fit over is =
    subst (λ (z : List Cube). SomeHolds e z ↔ Exists (λ (d : Valuation σ). Extends (n - quantified) e d × SomeHolds d [])) (sym (none_taken out is))
    (λ some. absurd some, λ some. absurd (some (λ found. found.1.1)))
opened_list_means σ n quantified (cube ∷ rest) out e are_open fit over is =
    exists_means σ n quantified (cube ∷ rest) out (within n quantified cube rest are_open over) (record { over = over; fit = fit }) is e
