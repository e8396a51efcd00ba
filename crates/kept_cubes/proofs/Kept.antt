-- The cubes of a list are kept or left out one after the other.
use Rattle.std.proofs.Common.{ℕ, ◌≡◌, ◌+◌, ◌<◌, ◌≤◌, List, [], ◌∷◌, ◌++◌, length, get_or, drop, refl, sym, ap, ◌∙◌, subst, append_assoc, append-nil, inl, inr}
use Rattle.std.proofs.lemmas.List.{drop_more, drop_all}
use Rattle.flat_form.specs.declared.atom.Flat.{Flat}
use Rattle.flat_form.specs.declared.cube.Cube.{Cube}
use Rattle.node_facts.specs.Nested.{beside, CanHold, NeverHolds, Keeps}

-- what is kept of the rest stands behind what was kept of the first i
abbrev pub AreKept : List Flat → List Cube → ℕ → List Cube → Type 0
AreKept atoms cubes i all = (rest : List Cube) → Keeps atoms (drop i cubes) rest → Keeps atoms cubes (all ++ rest)

module _ (atoms : List Flat) (cubes : List Cube) (i : ℕ) (cube : Cube) (within : i < length cubes) (is : cube ≡ get_or cubes i cube) where
  here : drop i cubes ≡ cube ∷ drop (i + 1) cubes
  here = drop_more cubes i cube within ∙ ap (λ (z : Cube). z ∷ drop (i + 1) cubes) (sym is)

  pub one_stays : (all after : List Cube) → after ≡ all ++ cube ∷ [] → CanHold (beside atoms cube) → AreKept atoms cubes i all → AreKept atoms cubes (i + 1) after
  one_stays all after e can are rest more =
      let next : Keeps atoms (drop i cubes) (cube ∷ rest) =
      subst (λ (z : List Cube). Keeps atoms z (cube ∷ rest)) (sym here) (inl (can, rest, more, refl)) in
      let order : after ++ rest ≡ all ++ (cube ∷ rest) = ap (λ (z : List Cube). z ++ rest) e ∙ append_assoc all (cube ∷ []) rest in
      subst (λ (z : List Cube). Keeps atoms cubes z) (sym order) (are (cube ∷ rest) next)

  pub one_goes : (all : List Cube) → NeverHolds (beside atoms cube) → AreKept atoms cubes i all → AreKept atoms cubes (i + 1) all
  one_goes all never are rest more = are rest (subst (λ (z : List Cube). Keeps atoms z rest) (sym here) (inr (never, more)))

pub all_told : (atoms : List Flat) (cubes : List Cube) (i : ℕ) (all : List Cube) → length cubes ≤ i → AreKept atoms cubes i all → Keeps atoms cubes all
all_told atoms cubes i all end are =
    subst (λ (z : List Cube). Keeps atoms cubes z) (append-nil all) (are [] (subst (λ (z : List Cube). Keeps atoms z []) (sym (drop_all i cubes end)) refl))
