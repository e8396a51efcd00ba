-- A list that is put into a slot is put at that place of the tree.
use Rattle.std.specs.Prelude.{Some}
use Rattle.std.proofs.Common.{ℕ, zero, suc, ◌≡◌, ◌+◌, ◌-◌, ◌<◌, List, [], ◌∷◌, ◌++◌, length, get_or, set, refl, sym, ap, ◌∙◌, arith, append_assoc, append-nil, inl, inr}
use Rattle.std.proofs.lemmas.Bool.{cases_lt}
use Rattle.flat_form.specs.declared.cube.Cube.{Cube}
use Rattle.node_facts.specs.Branches.{Branch, Branches, branch, no_branch, one_more, size, sizes, with_list}
use Rattle.node_facts.specs.Places.{changed_one, listed}
use Rattle.node_facts.proofs.At.{changed_here, changed_later}
use Rattle.working_rules.specs.declared.slot.Slot.{Slot}
use Rattle.working_rules.specs.Forests.{count}
use Rattle.working_rules.specs.Codes.{root_back}
use Rattle.working_rules.specs.Slots.{slot_of, slots_of, all_slots_of, root_in, IsTree}
use Rattle.working_rules.proofs.Slots.{slots_long, tree_is}

-- with the list in the slot at place i
abbrev put : List Cube → ℕ → List Slot → List Slot
put list i [] = []
put list zero (slot ∷ slots) = record slot { list = Some list } ∷ slots
put list (suc i) (slot ∷ slots) = slot ∷ put list i slots

put_is_set : (list : List Cube) (slots : List Slot) (i : ℕ) (d : Slot) → i < length slots
    → set slots i (record (get_or slots i d) { list = Some list }) ≡ put list i slots
put_is_set list [] i d low = refl
put_is_set list (slot ∷ slots) zero d low = refl
put_is_set list (slot ∷ slots) (suc i) d low = ap (λ (z : List Slot). slot ∷ z) (put_is_set list slots i d (omega (arith, low)))

put_behind : (list : List Cube) (front slots : List Slot) (i k : ℕ) → i ≡ length front + k → put list i (front ++ slots) ≡ front ++ put list k slots
put_behind list [] slots i k e = let same : i ≡ k = omega (arith, e) in ap (λ (j : ℕ). put list j slots) same
put_behind list (slot ∷ front) slots zero k e = absurd (omega (arith, e))
put_behind list (slot ∷ front) slots (suc i) k e =
    let less : i ≡ length front + k = omega (arith, e) in ap (λ (z : List Slot). slot ∷ z) (put_behind list front slots i k less)

module _ (list : List Cube) where
  mutual
    same_size : (i : ℕ) (x : Branch) → size (listed i list x) ≡ size x
    same_size zero (branch bound basic parts old) = refl
    same_size (suc i) (branch bound basic parts old) = ap (λ (k : ℕ). 1 + k) (same_sizes i parts)

    same_sizes : (i : ℕ) (xs : Branches) → sizes (changed_one (with_list list) i xs) ≡ sizes xs
    same_sizes i no_branch = refl
    same_sizes i (one_more part rest) = elim (cases_lt i (size part)) [
      | inl low ↦ ap (λ (z : Branches). sizes z) (changed_here (with_list list) i part rest low) ∙ ap (λ (k : ℕ). k + sizes rest) (same_size i part)
      | inr past ↦
          let e : i ≡ size part + (i - size part) = omega (arith, past) in
          ap (λ (z : Branches). sizes z) (changed_later (with_list list) i part rest (i - size part) e)
          ∙ ap (λ (k : ℕ). size part + k) (same_sizes (i - size part) rest)
    ]

  same_count : (i : ℕ) (xs : Branches) → count (changed_one (with_list list) i xs) ≡ count xs
  same_count i no_branch = refl
  same_count i (one_more part rest) = elim (cases_lt i (size part)) [
    | inl low ↦ ap (λ (z : Branches). count z) (changed_here (with_list list) i part rest low)
    | inr past ↦
        let e : i ≡ size part + (i - size part) = omega (arith, past) in
        ap (λ (z : Branches). count z) (changed_later (with_list list) i part rest (i - size part) e)
        ∙ ap (λ (k : ℕ). suc k) (same_count (i - size part) rest)
  ]

  mutual
    put_one : (at i : ℕ) (x : Branch) (more : List Slot) → i < size x → put list i (slots_of at x ++ more) ≡ slots_of at (listed i list x) ++ more
    put_one at zero (branch bound basic parts old) more low = refl
    put_one at (suc i) (branch bound basic parts old) more low =
        ap (λ (z : List Slot). slot_of at (branch bound basic parts old) ∷ z) (put_all (at + 1) i parts more (omega (arith, low)))
        ∙ ap (λ (k : ℕ). record { bound = bound; basic = basic; parts = k; end = at + (1 + sizes parts); list = old } ∷ (all_slots_of (at + 1) (changed_one (with_list list) i parts) ++ more))
        (sym (same_count i parts))
        ∙ ap (λ (k : ℕ).
        record { bound = bound; basic = basic; parts = count (changed_one (with_list list) i parts); end = at + (1 + k); list = old } ∷ (all_slots_of (at + 1) (changed_one (with_list list) i parts) ++ more))
        (sym (same_sizes i parts))

    put_all : (at i : ℕ) (xs : Branches) (more : List Slot) → i < sizes xs
        → put list i (all_slots_of at xs ++ more) ≡ all_slots_of at (changed_one (with_list list) i xs) ++ more
    put_all at i no_branch more low = absurd (omega (arith, low))
    put_all at i (one_more part rest) more low = elim (cases_lt i (size part)) [
      | inl here ↦
          ap (λ (z : List Slot). put list i z) (append_assoc (slots_of at part) (all_slots_of (at + size part) rest) more)
          ∙ put_one at i part (all_slots_of (at + size part) rest ++ more) here
          ∙ sym (append_assoc (slots_of at (listed i list part)) (all_slots_of (at + size part) rest) more)
          ∙ ap (λ (k : ℕ). slots_of at (listed i list part) ++ all_slots_of (at + k) rest ++ more) (sym (same_size i part))
          ∙ ap (λ (z : Branches). all_slots_of at z ++ more) (sym (changed_here (with_list list) i part rest here))
      | inr past ↦
          let e : i ≡ size part + (i - size part) = omega (arith, past) in
          let long : length (slots_of at part) ≡ size part = slots_long at part in
          ap (λ (z : List Slot). put list i z) (append_assoc (slots_of at part) (all_slots_of (at + size part) rest) more)
          ∙ put_behind list (slots_of at part) (all_slots_of (at + size part) rest ++ more) i (i - size part) (omega (arith, e, long))
          ∙ ap (λ (z : List Slot). slots_of at part ++ z) (put_all (at + size part) (i - size part) rest more (omega (arith, low, past)))
          ∙ sym (append_assoc (slots_of at part) (all_slots_of (at + size part) (changed_one (with_list list) (i - size part) rest)) more)
          ∙ ap (λ (z : Branches). all_slots_of at z ++ more) (sym (changed_later (with_list list) i part rest (i - size part) e))
    ]

-- the list in its slot
pub listed_slots : (list : List Cube) (i : ℕ) (root : Branch) (d : Slot) → i < size root
    → set (slots_of 0 root) i (record (get_or (slots_of 0 root) i d) { list = Some list }) ≡ slots_of 0 (listed i list root)
listed_slots list i root d low =
    let long : length (slots_of 0 root) ≡ size root = slots_long 0 root in
    put_is_set list (slots_of 0 root) i d (omega (arith, low, long))
    ∙ ap (λ (z : List Slot). put list i z) (sym (append-nil (slots_of 0 root)))
    ∙ put_one list 0 i root [] low
    ∙ append-nil (slots_of 0 (listed i list root))

-- the slots that are kept, with the list in one of them, by the root that is seen
put_slots : (list : List Cube) (i : ℕ) (slots : List Slot) (root : Branch) (slot : Slot) → root_in slots ≡ root → IsTree slots → i < size root
    → slot ≡ get_or slots i slot → set slots i (record slot { list = Some list }) ≡ slots_of 0 (listed i list root)
put_slots list i slots root slot seen tree low is =
    let same : slots ≡ slots_of 0 root = tree_is slots root seen tree in
    ap (λ (z : Slot). set slots i (record z { list = Some list })) is
    ∙ ap (λ (z : List Slot). set z i (record (get_or z i slot) { list = Some list })) same
    ∙ listed_slots list i root slot low

pub put_root : (list : List Cube) (i : ℕ) (slots : List Slot) (root : Branch) (slot : Slot) → root_in slots ≡ root → IsTree slots → i < size root
    → slot ≡ get_or slots i slot → root_in (set slots i (record slot { list = Some list })) ≡ listed i list root
put_root list i slots root slot seen tree low is =
    ap (λ (z : List Slot). root_in z) (put_slots list i slots root slot seen tree low is) ∙ root_back (listed i list root)

pub put_tree : (list : List Cube) (i : ℕ) (slots : List Slot) (root : Branch) (slot : Slot) → root_in slots ≡ root → IsTree slots → i < size root
    → slot ≡ get_or slots i slot → IsTree (set slots i (record slot { list = Some list }))
put_tree list i slots root slot seen tree low is =
    put_slots list i slots root slot seen tree low is
    ∙ ap (λ (z : Branch). slots_of 0 z) (sym (put_root list i slots root slot seen tree low is))
