-- What stands from a place on.
use Rattle.std.proofs.Common.{ℕ, zero, suc, ◌≡◌, ◌+◌, ◌<◌, ◌≤◌, refl, sym, ap, ◌∙◌, arith, zero-add, inl, inr}
use Rattle.std.proofs.lemmas.Bool.{cases_lt}
use Rattle.node_facts.specs.Branches.{Branch, Branches, branch, no_branch, one_more, size, sizes}
use Rattle.working_rules.specs.Forests.{joined, from_place, first_of}

pub sizes_joined : (xs ys : Branches) → sizes (joined xs ys) ≡ sizes xs + sizes ys
sizes_joined no_branch ys = sym (zero-add (sizes ys))
sizes_joined (one_more part rest) ys = let e : sizes (joined rest ys) ≡ sizes rest + sizes ys = sizes_joined rest ys in omega (arith, e)

from_none : (i : ℕ) → from_place i no_branch ≡ no_branch
from_none zero = refl
from_none (suc i) = refl

-- in two steps
pub from_more : (i k : ℕ) (xs : Branches) → from_place (i + k) xs ≡ from_place k (from_place i xs)
from_more zero k xs = ap (λ (j : ℕ). from_place j xs) (zero-add k)
from_more (suc i) k no_branch = from_none (suc i + k) ∙ sym (from_none k)
from_more (suc i) k (one_more (branch bound basic parts list) rest) =
    let e : suc i + k ≡ suc (i + k) = omega arith in
    ap (λ (j : ℕ). from_place j (one_more (branch bound basic parts list) rest)) e ∙ from_more i k (joined parts rest)

mutual
  -- behind a whole branch stand the others
  pub from_one : (x : Branch) (more : Branches) → from_place (size x) (one_more x more) ≡ more
  from_one (branch bound basic parts list) more =
      let e : 1 + sizes parts ≡ suc (sizes parts) = omega arith in
      ap (λ (j : ℕ). from_place j (one_more (branch bound basic parts list) more)) e ∙ from_all parts more

  pub from_all : (xs more : Branches) → from_place (sizes xs) (joined xs more) ≡ more
  from_all no_branch more = refl
  from_all (one_more part rest) more =
      from_more (size part) (sizes rest) (one_more part (joined rest more))
      ∙ ap (λ (z : Branches). from_place (sizes rest) z) (from_one part (joined rest more))
      ∙ from_all rest more

-- before the end something is left, behind it nothing
pub some_left : (i : ℕ) (xs : Branches) → i < sizes xs → (rest : Branches) × (from_place i xs ≡ one_more (first_of (from_place i xs)) rest)
some_left zero no_branch low = absurd (omega (arith, low))
some_left zero (one_more part rest) low = (rest, refl)
some_left (suc i) no_branch low = absurd (omega (arith, low))
some_left (suc i) (one_more (branch bound basic parts list) rest) low =
    let e : sizes (joined parts rest) ≡ sizes parts + sizes rest = sizes_joined parts rest in
    some_left i (joined parts rest) (omega (arith, e, low))

pub none_left : (i : ℕ) (xs : Branches) → sizes xs ≤ i → from_place i xs ≡ no_branch
none_left zero no_branch past = refl
none_left zero (one_more (branch bound basic parts list) rest) past = absurd (omega (arith, past))
none_left (suc i) no_branch past = refl
none_left (suc i) (one_more (branch bound basic parts list) rest) past =
    let e : sizes (joined parts rest) ≡ sizes parts + sizes rest = sizes_joined parts rest in
    none_left i (joined parts rest) (omega (arith, e, past))

none_is_more : (x : Branch) (rest : Branches) → ¬ (no_branch ≡ one_more x rest)
none_is_more x rest e = cc

pub left_low : (i : ℕ) (xs : Branches) (x : Branch) (rest : Branches) → from_place i xs ≡ one_more x rest → i < sizes xs
left_low i xs x rest e = elim (cases_lt i (sizes xs)) [
  | inl low ↦ low
  | inr past ↦ absurd (none_is_more x rest (sym (none_left i xs past) ∙ e))
]
