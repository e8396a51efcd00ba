-- Trees are finite where no walk comes round.
use Rattle.std.proofs.Common.{◌≡◌, ℕ, zero, suc, ◌<◌, List, [], ◌∷◌, length, refl, sym, ap, ◌∙◌, subst, arith, ◌⊎◌, inl, inr}
use Rattle.std.specs.Prelude.{slice_index}
use Rattle.classical.specs.Classical.{Either}
use Rattle.classical.proofs.Stable.{◌>>=◌}
use Rattle.tree_model.specs.Graphs.{Graph}
use Rattle.tree_model.specs.Trees.{IsFinite}
use Rattle.tree_facts.specs.Walks.{Branches}
use Rattle.tree_facts.specs.WalkLaws.{FiniteWhereNoneComesRound}
use Rattle.tree_facts.proofs.Finite.{node_finite}

-- the numbers that are left
abbrev Among : ℕ → List ℕ → Type 0
Among u [] = ⊥
Among u (x ∷ xs) = (u ≡ x) ⊎ Among u xs

-- all numbers below n
abbrev below : ℕ → List ℕ
below zero = []
below (suc n) = n ∷ below n

last_or_below : (u n : ℕ) → u < suc n → (u ≡ n) ⊎ (u < n)
last_or_below u n w = grind (arith, w)

among_below : (n u : ℕ) → u < n → Among u (below n)
among_below zero u w = absurd (omega arith)
among_below (suc n) u w = elim (last_or_below u n w) [ inl e ↦ inl e | inr l ↦ inr (among_below n u l) ]

-- the list without one of its members is shorter
without : (xs : List ℕ) (v : ℕ) → Among v xs → (ys : List ℕ) × (length xs ≡ suc (length ys)) × ((u : ℕ) → Among u xs → (u ≡ v) ⊎ Among u ys)
without [] v m = absurd m
without (x ∷ xs) v (inl e) = (xs, refl, λ u m. elim m [ inl f ↦ inl (f ∙ sym e) | inr r ↦ inr r ])
without (x ∷ xs) v (inr m) = let (ys, len, rest) = without xs v m in (
  x ∷ ys,
  ap suc len,
  λ u n. elim n [
    | inl f ↦ inr (inl f)
    | inr r ↦ elim (rest u r) [ inl f ↦ inl f | inr q ↦ inr (inr q) ]
  ],
)

none_left : (xs : List ℕ) (v : ℕ) → length xs ≡ 0 → ¬ Among v xs
none_left [] v e = λ m. m
none_left (x ∷ xs) v e = λ m. omega (arith, e)

module _ (Good : ℕ → Type 0) (Leads : ℕ → ℕ → Type 0) (tree : ℕ → Graph)
    (onward : (u v w : ℕ) → Leads u v → Leads v w → Leads u w)
    (no_round : (v : ℕ) → Good v → ¬ Leads v v)
    (each : (v : ℕ) → Good v → Either (IsFinite (tree v)) (Branches tree Good Leads v)) where
  -- each good number leads to v or is left: v itself is left, and is taken out
  finite_from : (k : ℕ) (left : List ℕ) → length left ≡ k → (v : ℕ) → Good v → ((u : ℕ) → Good u → Among u left ⊎ Leads u v) → IsFinite (tree v)
  finite_from zero left len v good met = elim (met v good) [
    | inl m ↦ absurd (none_left left v len m)
    | inr round ↦ absurd (no_round v good round)
  ]
  finite_from (suc k) left len v good met = elim (met v good) [
    | inr round ↦ absurd (no_round v good round)
    | inl m ↦ let (ys, shorter, rest) = without left v m in λ c. do
      x ← each v good
      elim x [
        | inl finite ↦ finite c
        | inr b ↦ node_finite (tree v) b.symbol (length b.children) (λ i. tree (slice_index b.children i)) b.root b.child
            (λ i w. finite_from k ys (omega (arith, len, shorter)) (slice_index b.children i) (b.good i w) (λ u g. elim (met u g) [
              | inl n ↦ elim (rest u n) [
                | inl same ↦ inr (subst (λ z. Leads z (slice_index b.children i)) (sym same) (b.leads i w))
                | inr q ↦ inl q
              ]
              | inr l ↦ inr (onward u v (slice_index b.children i) l (b.leads i w))
            ])) c
      ]
  ]

pub none_comes_round : (Good : ℕ → Type 0) (Leads : ℕ → ℕ → Type 0) → FiniteWhereNoneComesRound Good Leads
none_comes_round Good Leads tree n onward low no_round each v good =
    finite_from Good Leads tree onward no_round each (length (below n)) (below n) refl v good (λ u g. inl (among_below n u (low u g)))
