-- New numbers by an order in two parts, of which the front has each number in scope that is not behind.
use Rattle.std.specs.Prelude.{Contains, slice_index, nat_eq, AllPairs}
use Rattle.std.specs.List.Sorted.{IsStrictlyIncreasing}
use Rattle.std.proofs.Common.{ℕ, suc, ◌≡◌, ◌+◌, ◌-◌, ◌<◌, ◌≤◌, true, false, List, [], ◌∷◌, ◌++◌, length, refl, sym, ap, ◌∙◌, subst, arith, inl, inr}
use Rattle.std.proofs.lemmas.Bool.Decides.{nat_tests}
use Rattle.std.proofs.lemmas.List.{length-append}
use Rattle.std.proofs.lemmas.List.Kept.{AllPairs-from_increasing}
use Rattle.std.proofs.lemmas.List.Elements.{Contains-get_or, Contains-append_left, Contains-append_right, Contains-append_cases}
use Rattle.lists.specs.Distinct.{IsDistinct}
use Rattle.tree_facts.proofs.Members.{contains_cases}
use Rattle.flat_form.specs.Orders.{place_of, new_number}
use Rattle.cube_facts.specs.Numbers.{old_number}
use Rattle.cube_facts.proofs.OldNumbers.{old_number_is_back}
use Rattle.cube_facts.proofs.Places.{same_or_not, side, place_low, front_at, number_low, number_in, number_high, alone_puts}
use Rattle.cube_facts.proofs.Variables.{stands_tells}

pub pair_tail : (x : ℕ) (xs : List ℕ) → AllPairs (λ (a : ℕ) (b : ℕ). a < b) (x ∷ xs) → AllPairs (λ (a : ℕ) (b : ℕ). a < b) xs
pair_tail x xs pairs i j d less low = pairs (suc i) (suc j) d (omega arith) (omega arith)

distinct_pairs : (xs : List ℕ) → AllPairs (λ (a : ℕ) (b : ℕ). a < b) xs → IsDistinct xs
distinct_pairs [] pairs = tt
distinct_pairs (x ∷ xs) pairs = (
  λ inside. let (k, low, is) = inside in let less : x < x = subst (λ (z : ℕ). x < z) is (pairs 0 (suc k) x (omega arith) (omega arith)) in omega (arith, less),
  distinct_pairs xs (pair_tail x xs pairs),
)

-- increasing numbers are distinct, and so are two lists without a common item
pub distinct_increasing : (xs : List ℕ) → IsStrictlyIncreasing xs → IsDistinct xs
distinct_increasing xs up = distinct_pairs xs (AllPairs-from_increasing xs up)

pub distinct_both : (xs ys : List ℕ) → IsDistinct xs → IsDistinct ys → ((v : ℕ) → Contains xs v → ¬ Contains ys v) → IsDistinct (xs ++ ys)
distinct_both [] ys d e apart = e
distinct_both (x ∷ xs) ys d e apart = (
  λ i. elim (Contains-append_cases xs ys x i) [
    | inl j ↦ d.0 j
    | inr j ↦ apart x (0, omega arith, refl) j
  ],
  distinct_both xs ys d.1 e (λ v i j. let (k, low, is) = i in apart v (suc k, omega arith, is) j),
)

-- an item of the front is found there
place_front : (front behind : List ℕ) (v : ℕ) → Contains front v → place_of (front ++ behind) v < length front
place_front [] behind v inside = absurd (omega (arith, inside.1))
place_front (x ∷ front) behind v inside = elim (same_or_not v x) [
  | inl e ↦ let t : nat_eq v x ≡ true = grind (arith, nat_tests) in rw t (omega arith)
  | inr differ ↦
      let t : nat_eq v x ≡ false = grind (arith, nat_tests) in
      let there : Contains front v = elim (contains_cases x v front inside) [ inl e ↦ absurd (differ (sym e)) | inr more ↦ more ] in
      let low = place_front front behind v there in
      rw t (omega (arith, low))
]

module _ (free scope : ℕ) (front behind : List ℕ) (le : free ≤ scope)
    (covers : (v : ℕ) → free ≤ v → v < scope → ¬ Contains behind v → Contains front v) where
  stands : (v : ℕ) → free ≤ v → v < scope → Contains (front ++ behind) v
  stands v a b = elim (stands_tells behind v) [
    | inl i ↦ Contains-append_right front behind v i.1
    | inr out ↦ Contains-append_left front behind v (covers v a b out.1)
  ]

  pub number_is_back : (v : ℕ) → old_number free scope (front ++ behind) (new_number free scope (front ++ behind) v) ≡ v
  number_is_back v = old_number_is_back free scope (front ++ behind) v le (elim (side v free) [
    | inl w ↦ inl w
    | inr a ↦ elim (side v scope) [ inl b ↦ inr (inr (a, b, stands v a b)) | inr b ↦ inr (inl b) ]
  ])

  -- free numbers stay
  pub free_number : (v : ℕ) → v < free → (new_number free scope (front ++ behind) v ≡ v) × (old_number free scope (front ++ behind) v ≡ v)
  free_number v w =
      let e = number_low free scope (front ++ behind) v w in
      (e, ap (old_number free scope (front ++ behind)) (sym e) ∙ number_is_back v)

  -- and others get numbers behind them
  pub bound_number : (v : ℕ) → free ≤ v → free ≤ new_number free scope (front ++ behind) v
  bound_number v a = elim (side v scope) [
    | inl b ↦ omega (arith, number_in free scope (front ++ behind) v a b)
    | inr b ↦ omega (arith, number_high free scope (front ++ behind) v a b)
  ]

  -- an item of the front gets a number of the front
  pub number_in_front : (v : ℕ) → free ≤ v → v < scope → Contains front v
      → (free ≤ new_number free scope (front ++ behind) v) × (new_number free scope (front ++ behind) v < free + length front)
  number_in_front v a b i =
      let e = number_in free scope (front ++ behind) v a b in
      let low = place_front front behind v i in
      (omega (arith, e), omega (arith, e, low))

  -- so each in scope that is not behind gets a lower number than those behind
  pub front_number : (v : ℕ) → v < scope → ¬ Contains behind v → new_number free scope (front ++ behind) v < free + length front
  front_number v low out = elim (side v free) [
    | inl w ↦ omega (arith, (free_number v w).0, w)
    | inr a ↦ (number_in_front v a low (covers v a low out)).1
  ]

  pub number_behind : (v : ℕ) → free ≤ v → v < scope → ¬ Contains front v → free + length front ≤ new_number free scope (front ++ behind) v
  number_behind v a b none = elim (side (place_of (front ++ behind) v) (length front)) [
    | inl low ↦ absurd (none (subst (Contains front) (front_at front behind v low) (Contains-get_or front (place_of (front ++ behind) v) 0 low)))
    | inr high ↦ omega (arith, number_in free scope (front ++ behind) v a b, high)
  ]

  -- each in scope gets one of the front or behind it
  pub range_number : (v : ℕ) → v < scope → new_number free scope (front ++ behind) v < free + length front + length behind
  range_number v low = elim (side v free) [
    | inl w ↦ omega (arith, (free_number v w).0, w)
    | inr a ↦ omega (arith, number_in free scope (front ++ behind) v a low, place_low (front ++ behind) v (stands v a low), length-append front behind)
  ]

  -- and those beyond it the next ones
  pub beyond_number : (v : ℕ) → scope ≤ v → new_number free scope (front ++ behind) v ≡ free + length front + length behind + (v - scope)
  beyond_number v high =
      let e : new_number free scope (front ++ behind) v ≡ free + length (front ++ behind) + (v - scope) = number_high free scope (front ++ behind) v (omega (arith, le, high)) high in
      omega (arith, e, length-append front behind)

  -- each number behind those of the front is a new one
  pub from_behind : IsDistinct (front ++ behind) → ((v : ℕ) → Contains (front ++ behind) v → (free ≤ v) × (v < scope))
      → (v : ℕ) → free + length front ≤ v → v < free + length front + length behind
      → (w : ℕ) × Contains behind w × (new_number free scope (front ++ behind) w ≡ v)
  from_behind distinct among v a b =
      let k : ℕ = v - free in
      let low : k < length (front ++ behind) = omega (arith, length-append front behind, a, b) in
      let w : ℕ = slice_index (front ++ behind) k in
      let here : Contains (front ++ behind) w = Contains-get_or (front ++ behind) k 0 low in
      let put : new_number free scope (front ++ behind) w ≡ free + k = (alone_puts free scope (front ++ behind) distinct among).put k low in
      let is : new_number free scope (front ++ behind) w ≡ v = omega (arith, put, a) in
      let bounds = among w here in
      let last : Contains behind w = elim (Contains-append_cases front behind w here) [
        | inl i ↦ absurd (omega (arith, (number_in_front w bounds.0 bounds.1 i).1, is, a))
        | inr i ↦ i
      ] in
      (w, last, is)
