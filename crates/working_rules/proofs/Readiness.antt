-- Which branches are ready, from a place on.
use Rattle.std.specs.Prelude.{Bool, not, ◌&&◌, cond, slice_get, Some}
use Rattle.std.proofs.Common.{ℕ, zero, suc, ◌≡◌, ◌+◌, ◌-◌, ◌<◌, ◌≤◌, List, [], ◌∷◌, ◌++◌, length, true, false, refl, sym, ap, ◌∙◌, subst, arith, add-zero, append_assoc, append-nil, inl, inr}
use Rattle.std.proofs.lemmas.Bool.{cases_lt}
use Rattle.node_facts.specs.Branches.{Branch, Branches, branch, no_branch, one_more, size, sizes, is_waiting, none_waits, is_ready, ready_places, all_ready_places}
use Rattle.working_rules.specs.Forests.{joined, from_place, branch_at}
use Rattle.working_rules.proofs.Parts.{PartsFrom, parts_first, some_part, part_low, part_here, parts_more, no_part}
use Rattle.working_rules.proofs.Forests.{from_more, some_left, none_left}

pub ready_joined : (at : ℕ) (xs ys : Branches) → all_ready_places at (joined xs ys) ≡ all_ready_places at xs ++ all_ready_places (at + sizes xs) ys
ready_joined at no_branch ys = ap (λ (j : ℕ). all_ready_places j ys) (sym (add-zero at))
ready_joined at (one_more part rest) ys =
    let e : at + size part + sizes rest ≡ at + (size part + sizes rest) = omega arith in
    ap (λ (z : List ℕ). ready_places at part ++ z) (ready_joined (at + size part) rest ys)
    ∙ sym (append_assoc (ready_places at part) (all_ready_places (at + size part) rest) (all_ready_places (at + size part + sizes rest) ys))
    ∙ ap (λ (j : ℕ). ready_places at part ++ all_ready_places (at + size part) rest ++ all_ready_places j ys) e

cond_append : (b : Bool) (at : ℕ) (xs ys : List ℕ) → cond b (at ∷ xs) xs ++ ys ≡ cond b (at ∷ (xs ++ ys)) (xs ++ ys)
cond_append true at xs ys = refl
cond_append false at xs ys = refl

-- the first one, if it is ready, and then those that stand behind it
ready_first : (at : ℕ) (x : Branch) (rest : Branches)
    → all_ready_places at (one_more x rest)
    ≡ cond (is_ready x) (at ∷ all_ready_places (at + 1) (from_place 1 (one_more x rest))) (all_ready_places (at + 1) (from_place 1 (one_more x rest)))
ready_first at (branch bound basic parts list) rest =
    let e : at + (1 + sizes parts) ≡ at + 1 + sizes parts = omega arith in
    cond_append (is_ready (branch bound basic parts list)) at (all_ready_places (at + 1) parts) (all_ready_places (at + (1 + sizes parts)) rest)
    ∙ ap (λ (z : List ℕ). cond (is_ready (branch bound basic parts list)) (at ∷ z) z)
    (ap (λ (j : ℕ). all_ready_places (at + 1) parts ++ all_ready_places j rest) e ∙ sym (ready_joined (at + 1) parts rest))

-- all from place i on
abbrev pub ready_from : ℕ → Branch → List ℕ
ready_from i root = all_ready_places i (from_place i (one_more root no_branch))

pub ready_step : (i : ℕ) (root : Branch) → i < size root → ready_from i root ≡ cond (is_ready (branch_at i root)) (i ∷ ready_from (i + 1) root) (ready_from (i + 1) root)
ready_step i root low =
    let left = some_left i (one_more root no_branch) (omega (arith, low)) in
    ap (λ (z : Branches). all_ready_places i z) left.1
    ∙ ready_first i (branch_at i root) left.0
    ∙ ap (λ (z : Branches). cond (is_ready (branch_at i root)) (i ∷ all_ready_places (i + 1) z) (all_ready_places (i + 1) z))
    (ap (λ (z : Branches). from_place 1 z) (sym left.1) ∙ sym (from_more i 1 (one_more root no_branch)))

pub ready_none : (i : ℕ) (root : Branch) → size root ≤ i → ready_from i root ≡ []
ready_none i root past = ap (λ (z : Branches). all_ready_places i z) (none_left i (one_more root no_branch) (omega (arith, past)))

pub ready_all : (root : Branch) → ready_from 0 root ≡ ready_places 0 root
ready_all root = append-nil (ready_places 0 root)

-- one branch, by its parts

-- of the parts of x some are left, which stand from place `at` on, up to the end of x: x is ready where none of them waits
pub record PartsToSee (root x : Branch) (end at : ℕ) : Type 0 where
  pub left : Branches
  pub from : PartsFrom root end at left
  pub ready : is_ready x ≡ none_waits left

pub see_first : (root : Branch) (i end : ℕ) (x : Branch) (rest : Branches) → from_place i (one_more root no_branch) ≡ one_more x rest
    → end ≡ i + size x → is_waiting x ≡ true → PartsToSee root x end (i + 1)
see_first root i end (branch bound basic parts list) rest stands same waits = record {
  left = parts;
  from = parts_first root i end bound basic parts list rest stands same;
  ready = ap (λ (b : Bool). b && none_waits parts) waits;
}

pub see_low : (root x : Branch) (end at : ℕ) → PartsToSee root x end at → at < end → at < size root
see_low root x end at p low =
    let next = some_part root end at p.left p.from low in
    part_low root end at next.0 next.1 (subst (λ (z : Branches). PartsFrom root end at z) next.2 p.from)

pub seen_waits : (root x : Branch) (end at : ℕ) → PartsToSee root x end at → at < end → is_waiting (branch_at at root) ≡ true → is_ready x ≡ false
seen_waits root x end at p low waits =
    let next = some_part root end at p.left p.from low in
    let here = part_here root end at next.0 next.1 (subst (λ (z : Branches). PartsFrom root end at z) next.2 p.from) in
    p.ready ∙ ap none_waits next.2 ∙ ap (λ (b : Bool). not b && none_waits next.1) (ap is_waiting (sym here) ∙ waits)

pub see_more : (root x : Branch) (end at next_at : ℕ) → PartsToSee root x end at → at < end → is_waiting (branch_at at root) ≡ false
    → next_at ≡ at + size (branch_at at root) → PartsToSee root x end next_at
see_more root x end at next_at p low done is_next =
    let next = some_part root end at p.left p.from low in
    let from = subst (λ (z : Branches). PartsFrom root end at z) next.2 p.from in
    let here = part_here root end at next.0 next.1 from in record {
      left = next.1;
      from = parts_more root end at next_at next.0 next.1 from is_next;
      ready = p.ready ∙ ap none_waits next.2 ∙ ap (λ (b : Bool). not b && none_waits next.1) (ap is_waiting (sym here) ∙ done);
    }

pub seen_all : (root x : Branch) (end at : ℕ) → PartsToSee root x end at → end ≤ at → is_ready x ≡ true
seen_all root x end at p past = p.ready ∙ ap none_waits (no_part root end at p.left p.from past)

-- all of them, from place to place

ready_here : (i : ℕ) (root : Branch) → i < size root → is_ready (branch_at i root) ≡ true → ready_from i root ≡ i ∷ ready_from (i + 1) root
ready_here i root low ready =
    ready_step i root low ∙ ap (λ (b : Bool). cond b (i ∷ ready_from (i + 1) root) (ready_from (i + 1) root)) ready

ready_later : (i : ℕ) (root : Branch) → i < size root → is_ready (branch_at i root) ≡ false → ready_from i root ≡ ready_from (i + 1) root
ready_later i root low not_ready =
    ready_step i root low ∙ ap (λ (b : Bool). cond b (i ∷ ready_from (i + 1) root) (ready_from (i + 1) root)) not_ready

-- so many were ready before place i
pub record CountedTo (root : Branch) (i count : ℕ) : Type 0 where
  pub low : count ≤ i
  pub all : count + length (ready_from i root) ≡ length (ready_places 0 root)

pub counted_none : (root : Branch) → CountedTo root 0 0
counted_none root =
    let e : length (ready_from 0 root) ≡ length (ready_places 0 root) = ap (λ (z : List ℕ). length z) (ready_all root) in
    record { low = omega arith; all = omega (arith, e) }

pub counted_one : (root : Branch) (i count new : ℕ) → CountedTo root i count → i < size root → is_ready (branch_at i root) ≡ true → new ≡ count + 1
    → CountedTo root (i + 1) new
counted_one root i count new so_far low ready same =
    let step : length (ready_from i root) ≡ suc (length (ready_from (i + 1) root)) = ap (λ (z : List ℕ). length z) (ready_here i root low ready) in
    record { low = omega (arith, same, so_far.low); all = omega (arith, same, step, so_far.all) }

pub counted_same : (root : Branch) (i count new : ℕ) → CountedTo root i count → i < size root → is_ready (branch_at i root) ≡ false → new ≡ count
    → CountedTo root (i + 1) new
counted_same root i count new so_far low not_ready same =
    let step : length (ready_from i root) ≡ length (ready_from (i + 1) root) = ap (λ (z : List ℕ). length z) (ready_later i root low not_ready) in
    record { low = omega (arith, same, so_far.low); all = omega (arith, same, step, so_far.all) }

pub counted_all : (root : Branch) (i count : ℕ) → CountedTo root i count → size root ≤ i → count ≡ length (ready_places 0 root)
counted_all root i count so_far past =
    let none : length (ready_from i root) ≡ 0 = ap (λ (z : List ℕ). length z) (ready_none i root past) in omega (arith, none, so_far.all)

-- the one that is looked for is the one with this number from place i on
pub record PickedFrom (root : Branch) (pick left i : ℕ) : Type 0 where
  pub low : left < length (ready_from i root)
  pub same : slice_get (ready_from i root) left ≡ slice_get (ready_places 0 root) pick

pub picked_first : (root : Branch) (pick : ℕ) → pick < length (ready_places 0 root) → PickedFrom root pick pick 0
picked_first root pick low =
    let both = subst (λ (z : List ℕ). (pick < length z) × (slice_get z pick ≡ slice_get (ready_places 0 root) pick)) (sym (ready_all root)) (low, refl) in
    record { low = both.0; same = both.1 }

pub picked_here : (root : Branch) (pick left i : ℕ) → PickedFrom root pick left i → i < size root → is_ready (branch_at i root) ≡ true → left ≡ 0
    → slice_get (ready_places 0 root) pick ≡ Some i
picked_here root pick left i p low ready first =
    sym p.same ∙ ap (λ (z : List ℕ). slice_get z left) (ready_here i root low ready) ∙ ap (λ (k : ℕ). slice_get (i ∷ ready_from (i + 1) root) k) first

behind_first : (x : ℕ) (xs : List ℕ) (left new : ℕ) → ¬ (left ≡ 0) → new ≡ left - 1 → slice_get (x ∷ xs) left ≡ slice_get xs new
behind_first x xs zero new some same = absurd (some refl)
behind_first x xs (suc left) new some same = let e : left ≡ new = omega (arith, same) in ap (λ (k : ℕ). slice_get xs k) e

pub picked_more : (root : Branch) (pick left new i : ℕ) → PickedFrom root pick left i → i < size root → is_ready (branch_at i root) ≡ true → ¬ (left ≡ 0)
    → new ≡ left - 1 → PickedFrom root pick new (i + 1)
picked_more root pick left new i p low ready some same =
    let step : ready_from i root ≡ i ∷ ready_from (i + 1) root = ready_here i root low ready in
    let long : length (ready_from i root) ≡ suc (length (ready_from (i + 1) root)) = ap (λ (z : List ℕ). length z) step in
    record {
      low = omega (arith, long, same, some, p.low);
      same = sym (behind_first i (ready_from (i + 1) root) left new some same) ∙ ap (λ (z : List ℕ). slice_get z left) (sym step) ∙ p.same;
    }

pub picked_later : (root : Branch) (pick left new i : ℕ) → PickedFrom root pick left i → i < size root → is_ready (branch_at i root) ≡ false → new ≡ left
    → PickedFrom root pick new (i + 1)
picked_later root pick left new i p low not_ready same =
    let step : ready_from i root ≡ ready_from (i + 1) root = ready_later i root low not_ready in
    let long : length (ready_from i root) ≡ length (ready_from (i + 1) root) = ap (λ (z : List ℕ). length z) step in
    record {
      low = omega (arith, long, same, p.low);
      same =
          ap (λ (k : ℕ). slice_get (ready_from (i + 1) root) k) same ∙ ap (λ (z : List ℕ). slice_get z left) (sym step) ∙ p.same;
    }

pub picked_some : (root : Branch) (pick left i : ℕ) → PickedFrom root pick left i → i < size root
picked_some root pick left i p = elim (cases_lt i (size root)) [
  | inl low ↦ low
  | inr past ↦ let none : length (ready_from i root) ≡ 0 = ap (λ (z : List ℕ). length z) (ready_none i root past) in absurd (omega (arith, none, p.low))
]
