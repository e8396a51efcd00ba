-- Places in an order that has no repeats, and the new numbers that it gives.
use Rattle.std.specs.Prelude.{Contains, slice_index, ltb, nat_eq}
use Rattle.std.proofs.Common.{ℕ, zero, suc, ◌≡◌, ◌+◌, ◌-◌, ◌<◌, ◌≤◌, true, false, List, [], ◌∷◌, ◌++◌, length, refl, sym, ap, ◌∙◌, subst, arith, inl, inr, ◌⊎◌}
use Rattle.std.proofs.lemmas.List.{append-nil}
use Rattle.std.proofs.lemmas.List.Elements.{Contains-get_or}
use Rattle.std.proofs.lemmas.Bool.Decides.{nat_tests}
use Rattle.lists.specs.Distinct.{IsDistinct}
use Rattle.tree_facts.proofs.Members.{contains_cases}
use Rattle.flat_form.specs.Orders.{place_of, new_number}

-- one step of a search
here : (v x : ℕ) (rest : List ℕ) → v ≡ x → place_of (x ∷ rest) v ≡ 0
here v x rest e = let t : nat_eq v x ≡ true = grind (arith, nat_tests) in rw t refl

later : (v x : ℕ) (rest : List ℕ) → ¬ (v ≡ x) → place_of (x ∷ rest) v ≡ 1 + place_of rest v
later v x rest e = let t : nat_eq v x ≡ false = grind (arith, nat_tests) in rw t refl

pub same_or_not : (a b : ℕ) → (a ≡ b) ⊎ (¬ (a ≡ b))
same_or_not a b = grind arith

-- what stands at a place of the front is found there
pub front_place : (order more : List ℕ) (k : ℕ) → IsDistinct order → k < length order → place_of (order ++ more) (slice_index order k) ≡ k
front_place [] more k distinct low = absurd (omega (arith, low))
front_place (x ∷ order) more zero distinct low = here x x (order ++ more) refl
front_place (x ∷ order) more (suc k) distinct low =
    let inside : Contains order (slice_index order k) = Contains-get_or order k 0 (omega arith) in
    let differ : ¬ (slice_index order k ≡ x) = λ e. distinct.0 (subst (Contains order) e inside) in
    let found = front_place order more k distinct.1 (omega arith) in
    later (slice_index order k) x (order ++ more) differ ∙ (omega (arith, found))

-- an item is found
pub place_low : (order : List ℕ) (v : ℕ) → Contains order v → place_of order v < length order
place_low [] v inside = absurd (omega (arith, inside.1))
place_low (x ∷ order) v inside = elim (same_or_not v x) [
  | inl e ↦ omega (arith, here v x order e)
  | inr differ ↦ elim (contains_cases x v order inside) [
    | inl e ↦ absurd (differ (sym e))
    | inr more ↦ omega (arith, later v x order differ, place_low order v more)
  ]
]

-- and what is found in the front stands there
pub front_at : (order more : List ℕ) (v : ℕ) → place_of (order ++ more) v < length order → slice_index order (place_of (order ++ more) v) ≡ v
front_at [] more v low = absurd (omega (arith, low))
front_at (x ∷ order) more v low = elim (same_or_not v x) [
  | inl e ↦ ap (λ k. slice_index (x ∷ order) k) (here v x (order ++ more) e) ∙ sym e
  | inr differ ↦
      let next : place_of (x ∷ (order ++ more)) v ≡ suc (place_of (order ++ more) v) = omega (arith, later v x (order ++ more) differ) in
      ap (λ k. slice_index (x ∷ order) k) next ∙ front_at order more v (omega (arith, next, low))
]

-- the numbers from free on, as many as the order has items, are those of its items in order, and those below stay
pub record Puts (free : ℕ) (order : List ℕ) (f : ℕ → ℕ) : Type 0 where
  pub low : (v : ℕ) → v < free → f v ≡ v
  pub put : (k : ℕ) → k < length order → f (slice_index order k) ≡ free + k
  pub back_low : (v : ℕ) → f v < free → v < free
  pub back : (v k : ℕ) → k < length order → f v ≡ free + k → v ≡ slice_index order k

pub number_low : (free scope : ℕ) (order : List ℕ) (v : ℕ) → v < free → new_number free scope order v ≡ v
number_low free scope order v w = let t : ltb v free ≡ true = grind (arith, nat_tests) in rw t refl

pub number_in : (free scope : ℕ) (order : List ℕ) (v : ℕ) → free ≤ v → v < scope → new_number free scope order v ≡ free + place_of order v
number_in free scope order v le w =
    let t : ltb v free ≡ false = grind (arith, nat_tests) in
    let s : ltb v scope ≡ true = grind (arith, nat_tests) in
    rw (t, s) refl

pub number_high : (free scope : ℕ) (order : List ℕ) (v : ℕ) → free ≤ v → scope ≤ v → new_number free scope order v ≡ free + length order + (v - scope)
number_high free scope order v le w =
    let t : ltb v free ≡ false = grind (arith, nat_tests) in
    let s : ltb v scope ≡ false = grind (arith, nat_tests) in
    rw (t, s) refl

pub side : (v m : ℕ) → (v < m) ⊎ (m ≤ v)
side v m = grind arith

longer : (order more : List ℕ) → length order ≤ length (order ++ more)
longer [] more = omega arith
longer (x ∷ order) more = let h = longer order more in omega (arith, h)

-- what gets a number of the front is in scope, and stands in the order at its place
numbered_back : (free scope : ℕ) (order more : List ℕ) (v k : ℕ) → k < length order → new_number free scope (order ++ more) v ≡ free + k
    → (v < scope) × (v ≡ slice_index order k)
numbered_back free scope order more v k w e = elim (side v free) [
  | inl low ↦ absurd (omega (arith, number_low free scope (order ++ more) v low, e))
  | inr le ↦ elim (side v scope) [
    | inl s ↦
        let place : place_of (order ++ more) v ≡ k = omega (arith, number_in free scope (order ++ more) v le s, e) in
        (s, sym (front_at order more v (omega (arith, place, w))) ∙ ap (λ j. slice_index order j) place)
    | inr s ↦ absurd (omega (arith, number_high free scope (order ++ more) v le s, longer order more, e, w))
  ]
]

pub number_back : (free scope : ℕ) (order more : List ℕ) (v k : ℕ) → k < length order → new_number free scope (order ++ more) v ≡ free + k → v ≡ slice_index order k
number_back free scope order more v k w e = (numbered_back free scope order more v k w e).1

pub number_back_low : (free scope : ℕ) (order more : List ℕ) (v k : ℕ) → k < length order → new_number free scope (order ++ more) v ≡ free + k → v < scope
number_back_low free scope order more v k w e = (numbered_back free scope order more v k w e).0

-- so does `new_number`
pub new_number_puts : (free scope : ℕ) (order more : List ℕ) → IsDistinct order → ((v : ℕ) → Contains order v → (free ≤ v) × (v < scope))
    → Puts free order (new_number free scope (order ++ more))
new_number_puts free scope order more distinct within = record {
  low = λ v w. number_low free scope (order ++ more) v w;
  put = λ k w.
      let inside = within (slice_index order k) (Contains-get_or order k 0 w) in
      number_in free scope (order ++ more) (slice_index order k) inside.0 inside.1 ∙ ap (λ j. free + j) (front_place order more k distinct w);
  back_low = λ v w. elim (side v free) [
    | inl low ↦ low
    | inr le ↦ elim (side v scope) [
      | inl s ↦ absurd (omega (arith, number_in free scope (order ++ more) v le s, w))
      | inr s ↦ absurd (omega (arith, number_high free scope (order ++ more) v le s, w))
    ]
  ];
  back = number_back free scope order more;
}

pub alone_puts : (free scope : ℕ) (order : List ℕ) → IsDistinct order → ((v : ℕ) → Contains order v → (free ≤ v) × (v < scope))
    → Puts free order (new_number free scope order)
alone_puts free scope order distinct within =
    subst (λ (xs : List ℕ). Puts free order (new_number free scope xs)) (append-nil order) (new_number_puts free scope order [] distinct within)
