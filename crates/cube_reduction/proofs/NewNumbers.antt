-- The table of new numbers, with those behind it, has the new number of each variable.
use Rattle.std.proofs.Common.{ℕ, ◌≡◌, ◌+◌, ◌<◌, ◌≤◌, true, false, List, length, slice_index, arith, inl, inr}
use Rattle.std.specs.Prelude.{ltb}
use Rattle.std.proofs.lemmas.Bool.Decides.{nat_tests}
use Rattle.flat_form.specs.Orders.{new_number}
use Rattle.cube_facts.proofs.Places.{side, number_high}
use Rattle.numbering.specs.Listing.{AreNumbers}
use Rattle.cube_reduction.specs.Numbers.{number_in}

module _ (free scope : ℕ) (order table : List ℕ) (behind : ℕ) (low : free ≤ scope) (are : AreNumbers free scope order table) (is : behind ≡ free + length order) where
  number_is_new : (v : ℕ) → number_in table behind v ≡ new_number free scope order v
  number_is_new v = elim (side v (length table)) [
    | inl w ↦
        let t : ltb v (length table) ≡ true = grind (arith, nat_tests) in
        rw t (are.each v (omega (arith, w, are.size)))
    | inr le ↦
        let t : ltb v (length table) ≡ false = grind (arith, nat_tests) in
        rw t (rw (number_high free scope order v (omega (arith, le, are.size)) (omega (arith, le, are.size))) (omega (arith, is, are.size)))
  ]

  pub numbers_are_new : number_in table behind ≡ new_number free scope order
  numbers_are_new = λ i v. number_is_new v i

-- a table in which each variable has its own number, with as many behind it, changes none
pub each_keeps : (table : List ℕ) (behind : ℕ) → behind ≡ length table → ((w : ℕ) → w < length table → slice_index table w ≡ w) → (v : ℕ) → number_in table behind v ≡ v
each_keeps table behind is each v = elim (side v (length table)) [
  | inl w ↦
      let t : ltb v (length table) ≡ true = grind (arith, nat_tests) in
      rw t (each v w)
  | inr le ↦
      let t : ltb v (length table) ≡ false = grind (arith, nat_tests) in
      rw t (omega (arith, le, is))
]
