-- How many branches wait, and which are ready.
use Rattle.std.specs.Prelude.{Bool, not, cond, Contains}
use Rattle.std.proofs.Common.{ℕ, zero, suc, ◌≡◌, ◌+◌, ◌<◌, List, ◌∷◌, ◌++◌, length, length-append, Option, Some, None, true, false, refl, sym, ap, subst, arith, inl, inr, ◌⊎◌}
use Rattle.std.proofs.lemmas.Bool.{both_ways, cases_Bool, and_from, and_left, not_from_false}
use Rattle.std.proofs.lemmas.List.Elements.{Contains-append_cases, Contains-append_left, Contains-append_right}
use Rattle.tree_facts.proofs.Members.{contains_first, contains_later, contains_cases}
use Rattle.flat_form.specs.declared.atom.Flat.{Flat}
use Rattle.flat_form.specs.declared.cube.Cube.{Cube}
use Rattle.node_facts.specs.Branches.{Branch, Branches, branch, no_branch, one_more, with_list, has_parts, is_waiting, none_waits, is_ready, size, sizes, waiting, all_waiting, ready_places, all_ready_places}
use Rattle.node_facts.specs.Places.{At, AtOne}
use Rattle.node_facts.specs.CountLaws.{ListedCounts, ReadyUnlessDone, IsReadyAt, ReadyAreThere}
use Rattle.node_facts.proofs.At.{changed_has}

-- a list at a place

abbrev OneLess : ℕ → List Flat → Branch → Branch → Type 0
OneLess n round x y = waiting y + 1 ≡ waiting x

abbrev OneOfAllLess : ℕ → List Flat → Branches → Branches → Type 0
OneOfAllLess n round xs ys = (all_waiting ys + 1 ≡ all_waiting xs) × (has_parts ys ≡ has_parts xs)

less_up : (n : ℕ) (round : List Flat) (bound : ℕ) (basic : List Flat) (old new : Branches) (list : Option (List Cube))
    → OneOfAllLess (n + bound) (round ++ basic) old new → OneLess n round (branch bound basic old list) (branch bound basic new list)
less_up n round bound basic old new (Some list) (less, same) = omega (arith, less)
less_up n round bound basic old new None (less, same) =
    let count : cond (has_parts new) 1 0 ≡ cond (has_parts old) 1 0 = ap (λ (b : Bool). cond b 1 0) same in
    let fewer : all_waiting new + 1 ≡ all_waiting old = less in
    let sum : cond (has_parts old) 1 0 + all_waiting new + 1 ≡ cond (has_parts old) 1 0 + all_waiting old = omega (arith, fewer) in
    subst (λ (k : ℕ). k + all_waiting new + 1 ≡ cond (has_parts old) 1 0 + all_waiting old) (sym count) sum

list_less : (n : ℕ) (round : List Flat) (list : List Cube) (x : Branch) → is_waiting x ≡ true → OneLess n round x (with_list list x)
list_less n round list (branch bound basic parts (Some other)) waits = absurd (both_ways false refl waits)
list_less n round list (branch bound basic parts None) waits =
    subst (λ (b : Bool). 0 + all_waiting parts + 1 ≡ cond b 1 0 + all_waiting parts) (sym waits) (omega arith)

pub listed_counts : ListedCounts
listed_counts n i m round under root x list at waits = changed_has (with_list list) OneLess OneOfAllLess less_up
    (λ n round old new rest less. (omega (arith, less), refl))
    (λ n round part old new less. (let fewer = less.0 in omega (arith, fewer), refl)) n i m round under root x at (list_less m under list x waits)

-- ready ones, where some wait

positive : (b : Bool) (n : ℕ) → cond b 1 0 + n ≡ 0 → (b ≡ false) × (n ≡ 0)
positive true n e = absurd (omega (arith, e))
positive false n e = (refl, omega (arith, e))

-- without the branch itself
waits_split : (x : Branch) → waiting x ≡ 0 → is_waiting x ≡ false
waits_split (branch bound basic parts list) e = (positive (is_waiting (branch bound basic parts list)) (all_waiting parts) e).0

none_wait : (xs : Branches) → all_waiting xs ≡ 0 → none_waits xs ≡ true
none_wait no_branch e = refl
none_wait (one_more part rest) e =
    let here : waiting part ≡ 0 = omega (arith, e) in
    let later : all_waiting rest ≡ 0 = omega (arith, e) in
    and_from (not (is_waiting part)) (none_waits rest) (not_from_false (is_waiting part) (waits_split part here)) (none_wait rest later)

cond_long : (b : Bool) (at : ℕ) (xs : List ℕ) → 0 < length xs → 0 < length (cond b (at ∷ xs) xs)
cond_long true at xs w = omega arith
cond_long false at xs w = w

mutual
  some_ready : (at : ℕ) (x : Branch) → (waiting x ≡ 0) ⊎ (0 < length (ready_places at x))
  some_ready at (branch bound basic parts list) = elim (one_ready (at + 1) parts) [
    | inr long ↦ inr (cond_long (is_ready (branch bound basic parts list)) at (all_ready_places (at + 1) parts) long)
    | inl none ↦ elim (cases_Bool (is_waiting (branch bound basic parts list))) [
      | inl waits ↦
          let ready : is_ready (branch bound basic parts list) ≡ true = and_from (is_waiting (branch bound basic parts list)) (none_waits parts) waits (none_wait parts none) in
          inr (subst (λ (b : Bool). 0 < length (cond b (at ∷ all_ready_places (at + 1) parts) (all_ready_places (at + 1) parts))) (sym ready) (omega arith))
      | inr done ↦ inl (subst (λ (b : Bool). cond b 1 0 + all_waiting parts ≡ 0) (sym done) (omega (arith, none)))
    ]
  ]

  one_ready : (at : ℕ) (xs : Branches) → (all_waiting xs ≡ 0) ⊎ (0 < length (all_ready_places at xs))
  one_ready at no_branch = inl refl
  one_ready at (one_more part rest) = elim (some_ready at part) [
    | inr long ↦ inr (rw (length-append (ready_places at part) (all_ready_places (at + size part) rest)) (omega (arith, long)))
    | inl none ↦ elim (one_ready (at + size part) rest) [
      | inr long ↦ inr (rw (length-append (ready_places at part) (all_ready_places (at + size part) rest)) (omega (arith, long)))
      | inl also ↦ inl (omega (arith, none, also))
    ]
  ]

mutual
  none_ready : (at : ℕ) (x : Branch) → waiting x ≡ 0 → length (ready_places at x) ≡ 0
  none_ready at (branch bound basic parts list) e =
      let split = positive (is_waiting (branch bound basic parts list)) (all_waiting parts) e in
      let ready : is_ready (branch bound basic parts list) ≡ false = and_left (is_waiting (branch bound basic parts list)) (none_waits parts) split.0 in
      subst (λ (b : Bool). length (cond b (at ∷ all_ready_places (at + 1) parts) (all_ready_places (at + 1) parts)) ≡ 0) (sym ready)
      (all_none_ready (at + 1) parts split.1)

  all_none_ready : (at : ℕ) (xs : Branches) → all_waiting xs ≡ 0 → length (all_ready_places at xs) ≡ 0
  all_none_ready at no_branch e = refl
  all_none_ready at (one_more part rest) e =
      let here : waiting part ≡ 0 = omega (arith, e) in
      let later : all_waiting rest ≡ 0 = omega (arith, e) in
      rw (length-append (ready_places at part) (all_ready_places (at + size part) rest))
      (omega (arith, none_ready at part here, all_none_ready (at + size part) rest later))

done_where : (n k : ℕ) → (n ≡ 0) ⊎ (0 < k) → k ≡ 0 → n ≡ 0
done_where n k (inl e) none = e
done_where n k (inr w) none = absurd (omega (arith, w, none))

pub ready_unless_done : ReadyUnlessDone
ready_unless_done at x = ((λ none. done_where (waiting x) (length (ready_places at x)) (some_ready at x) none), (λ e. none_ready at x e))

-- where they stand

mutual
  pub at_low : (n i m : ℕ) (round under : List Flat) (root x : Branch) → At n round root i m under x → i < size root
  at_low n zero m round under (branch bound basic parts list) x at = omega arith
  at_low n (suc i) m round under (branch bound basic parts list) x at =
      let low : i < sizes parts = at_one_low (n + bound) i m (round ++ basic) under parts x at in omega (arith, low)

  pub at_one_low : (n i m : ℕ) (round under : List Flat) (parts : Branches) (x : Branch) → AtOne n round parts i m under x → i < sizes parts
  at_one_low n i m round under no_branch x at = absurd at
  at_one_low n i m round under (one_more part rest) x (inl (low, at)) = omega (arith, low)
  at_one_low n i m round under (one_more part rest) x (inr (k, same, at)) =
      let low : k < sizes rest = at_one_low n k m round under rest x at in omega (arith, low, same)

record ReadyOne (n : ℕ) (round : List Flat) (parts : Branches) (i : ℕ) : Type 0 where
  variables : ℕ
  under : List Flat
  here : Branch
  stands : AtOne n round parts i variables under here
  ready : is_ready here ≡ true

below : (n : ℕ) (round : List Flat) (bound : ℕ) (basic : List Flat) (parts : Branches) (list : Option (List Cube)) (at place : ℕ)
    → (i : ℕ) × (place ≡ at + 1 + i) × ReadyOne (n + bound) (round ++ basic) parts i
    → (i : ℕ) × (place ≡ at + i) × IsReadyAt n round (branch bound basic parts list) i
below n round bound basic parts list at place (i, same, one) = (
  suc i,
  omega (arith, same),
  record { variables = one.variables; under = one.under; here = one.here; stands = one.stands; ready = one.ready },
)

mutual
  there : (n : ℕ) (round : List Flat) (root : Branch) (at place : ℕ) → Contains (ready_places at root) place → (i : ℕ) × (place ≡ at + i) × IsReadyAt n round root i
  there n round (branch bound basic parts list) at place inside = elim (cases_Bool (is_ready (branch bound basic parts list))) [
    | inl ready ↦
        elim (contains_cases at place (all_ready_places (at + 1) parts)
        (subst (λ (b : Bool). Contains (cond b (at ∷ all_ready_places (at + 1) parts) (all_ready_places (at + 1) parts)) place) ready inside)) [
          | inl same ↦ (
            0,
            omega (arith, same),
            record {
              variables = n;
              under = round;
              here = branch bound basic parts list;
              stands = (refl, refl, refl);
              ready = ready;
            },
          )
          | inr more ↦ below n round bound basic parts list at place (there_one (n + bound) (round ++ basic) parts (at + 1) place more)
        ]
    | inr not_ready ↦ below n round bound basic parts list at place (there_one (n + bound) (round ++ basic) parts (at + 1) place
        (subst (λ (b : Bool). Contains (cond b (at ∷ all_ready_places (at + 1) parts) (all_ready_places (at + 1) parts)) place) not_ready inside))
  ]

  there_one : (n : ℕ) (round : List Flat) (parts : Branches) (at place : ℕ) → Contains (all_ready_places at parts) place
      → (i : ℕ) × (place ≡ at + i) × ReadyOne n round parts i
  there_one n round no_branch at place inside = absurd (omega (arith, inside.1))
  there_one n round (one_more part rest) at place inside =
      elim (Contains-append_cases (ready_places at part) (all_ready_places (at + size part) rest) place inside) [
        | inl here ↦
            let (i, same, one) = there n round part at place here in (
              i,
              same,
              record {
                variables = one.variables;
                under = one.under;
                here = one.here;
                stands = inl (at_low n i one.variables round one.under part one.here one.stands, one.stands);
                ready = one.ready;
              },
            )
        | inr later ↦
            let (k, same, one) = there_one n round rest (at + size part) place later in (
              size part + k,
              omega (arith, same),
              record { variables = one.variables; under = one.under; here = one.here; stands = inr (k, refl, one.stands); ready = one.ready },
            )
      ]

cond_in : (b : Bool) (at : ℕ) (xs : List ℕ) (place : ℕ) → Contains xs place → Contains (cond b (at ∷ xs) xs) place
cond_in true at xs place i = contains_later at place xs i
cond_in false at xs place i = i

mutual
  back : (n i m : ℕ) (round under : List Flat) (root x : Branch) (at : ℕ) → At n round root i m under x → is_ready x ≡ true → Contains (ready_places at root) (at + i)
  back n zero m round under (branch bound basic parts list) x at (same_n, same_round, same_x) ready =
      let here : is_ready (branch bound basic parts list) ≡ true = subst (λ (z : Branch). is_ready z ≡ true) same_x ready in
      let first : at + 0 ≡ at = omega arith in
      subst (λ (b : Bool). Contains (cond b (at ∷ all_ready_places (at + 1) parts) (all_ready_places (at + 1) parts)) (at + 0)) (sym here)
      (subst (λ (k : ℕ). Contains (at ∷ all_ready_places (at + 1) parts) k) (sym first) (contains_first at (all_ready_places (at + 1) parts)))
  back n (suc i) m round under (branch bound basic parts list) x at stands ready =
      let next : at + 1 + i ≡ at + suc i = omega arith in
      cond_in (is_ready (branch bound basic parts list)) at (all_ready_places (at + 1) parts) (at + suc i)
      (subst (λ (k : ℕ). Contains (all_ready_places (at + 1) parts) k) next
      (back_one (n + bound) i m (round ++ basic) under parts x (at + 1) stands ready))

  back_one : (n i m : ℕ) (round under : List Flat) (parts : Branches) (x : Branch) (at : ℕ) → AtOne n round parts i m under x → is_ready x ≡ true
      → Contains (all_ready_places at parts) (at + i)
  back_one n i m round under no_branch x at stands ready = absurd stands
  back_one n i m round under (one_more part rest) x at (inl (low, stands)) ready =
      Contains-append_left (ready_places at part) (all_ready_places (at + size part) rest) (at + i) (back n i m round under part x at stands ready)
  back_one n i m round under (one_more part rest) x at (inr (k, same, stands)) ready =
      let next : at + size part + k ≡ at + i = omega (arith, same) in
      Contains-append_right (ready_places at part) (all_ready_places (at + size part) rest) (at + i)
      (subst (λ (j : ℕ). Contains (all_ready_places (at + size part) rest) j) next (back_one n k m round under rest x (at + size part) stands ready))

pub ready_are_there : ReadyAreThere
ready_are_there n round root at place = (
  (λ inside. there n round root at place inside),
  (λ found. subst (λ (k : ℕ). Contains (ready_places at root) k) (sym found.1)
      (back n found.0 found.2.variables round found.2.under root found.2.here at found.2.stands found.2.ready)),
)
