-- A tree of branches and its slots.
use Rattle.std.proofs.Common.{ℕ, zero, suc, ◌≡◌, ◌+◌, ◌<◌, List, [], ◌++◌, length, drop, get_or, refl, sym, ap, ◌∙◌, arith, add-zero, append_assoc, append-nil, length-append}
use Rattle.std.proofs.lemmas.List.{get_or-drop}
use Rattle.node_facts.specs.Branches.{Branch, Branches, branch, no_branch, one_more, size, sizes}
use Rattle.working_rules.specs.declared.slot.Slot.{Slot}
use Rattle.working_rules.specs.Forests.{joined, from_place, branch_at}
use Rattle.working_rules.specs.Codes.{root_back}
use Rattle.working_rules.specs.Slots.{slot_of, slots_of, all_slots_of, root_in, IsTree}
use Rattle.working_rules.proofs.Forests.{some_left}

mutual
  pub slots_long : (at : ℕ) (x : Branch) → length (slots_of at x) ≡ size x
  slots_long at (branch bound basic parts list) =
      let e : length (all_slots_of (at + 1) parts) ≡ sizes parts = all_slots_long (at + 1) parts in omega (arith, e)

  pub all_slots_long : (at : ℕ) (xs : Branches) → length (all_slots_of at xs) ≡ sizes xs
  all_slots_long at no_branch = refl
  all_slots_long at (one_more part rest) =
      let here : length (slots_of at part) ≡ size part = slots_long at part in
      let later : length (all_slots_of (at + size part) rest) ≡ sizes rest = all_slots_long (at + size part) rest in
      length-append (slots_of at part) (all_slots_of (at + size part) rest) ∙ omega (arith, here, later)

pub slots_joined : (at : ℕ) (xs ys : Branches) → all_slots_of at (joined xs ys) ≡ all_slots_of at xs ++ all_slots_of (at + sizes xs) ys
slots_joined at no_branch ys = ap (λ (j : ℕ). all_slots_of j ys) (sym (add-zero at))
slots_joined at (one_more part rest) ys =
    let e : at + size part + sizes rest ≡ at + (size part + sizes rest) = omega arith in
    ap (λ (z : List Slot). slots_of at part ++ z) (slots_joined (at + size part) rest ys)
    ∙ sym (append_assoc (slots_of at part) (all_slots_of (at + size part) rest) (all_slots_of (at + size part + sizes rest) ys))
    ∙ ap (λ (j : ℕ). slots_of at part ++ all_slots_of (at + size part) rest ++ all_slots_of j ys) e

-- the slots from place i on are those of what stands there
pub slots_from : (i at : ℕ) (xs : Branches) → drop i (all_slots_of at xs) ≡ all_slots_of (at + i) (from_place i xs)
slots_from zero at xs = ap (λ (j : ℕ). all_slots_of j xs) (sym (add-zero at))
slots_from (suc i) at no_branch = refl
slots_from (suc i) at (one_more (branch bound basic parts list) rest) =
    let behind : at + (1 + sizes parts) ≡ at + 1 + sizes parts = omega arith in
    let here : at + 1 + i ≡ at + suc i = omega arith in
    ap (λ (j : ℕ). drop i (all_slots_of (at + 1) parts ++ all_slots_of j rest)) behind
    ∙ ap (λ (z : List Slot). drop i z) (sym (slots_joined (at + 1) parts rest))
    ∙ slots_from i (at + 1) (joined parts rest)
    ∙ ap (λ (j : ℕ). all_slots_of j (from_place i (joined parts rest))) here

first_slot : (at : ℕ) (x : Branch) (rest : Branches) (d : Slot) → get_or (all_slots_of at (one_more x rest)) 0 d ≡ slot_of at x
first_slot at (branch bound basic parts list) rest d = refl

-- the slot at place i is that of the branch there
pub slot_at : (i : ℕ) (root : Branch) (d : Slot) → i < size root → get_or (slots_of 0 root) i d ≡ slot_of i (branch_at i root)
slot_at i root d low =
    let left = some_left i (one_more root no_branch) (omega (arith, low)) in
    let e : i + 0 ≡ i = omega arith in
    let z : 0 + i ≡ i = omega arith in
    ap (λ (s : List Slot). get_or s i d) (sym (append-nil (slots_of 0 root)))
    ∙ ap (λ (j : ℕ). get_or (all_slots_of 0 (one_more root no_branch)) j d) (sym e)
    ∙ sym (get_or-drop i (all_slots_of 0 (one_more root no_branch)) 0 d)
    ∙ ap (λ (s : List Slot). get_or s 0 d) (slots_from i 0 (one_more root no_branch))
    ∙ ap (λ (y : Branches). get_or (all_slots_of (0 + i) y) 0 d) left.1
    ∙ ap (λ (j : ℕ). get_or (all_slots_of j (one_more (branch_at i root) left.0)) 0 d) z
    ∙ first_slot i (branch_at i root) left.0 d

-- the slots of a tree, by the root that is seen
pub tree_is : (slots : List Slot) (root : Branch) → root_in slots ≡ root → IsTree slots → slots ≡ slots_of 0 root
tree_is slots root seen tree = tree ∙ ap (λ (z : Branch). slots_of 0 z) seen

pub tree_long : (slots : List Slot) (root : Branch) → root_in slots ≡ root → IsTree slots → length slots ≡ size root
tree_long slots root seen tree = ap (λ (z : List Slot). length z) (tree_is slots root seen tree) ∙ slots_long 0 root

pub tree_slot : (slots : List Slot) (root : Branch) (i : ℕ) (slot : Slot) → root_in slots ≡ root → IsTree slots → i < size root
    → slot ≡ get_or slots i slot → slot ≡ slot_of i (branch_at i root)
tree_slot slots root i slot seen tree low is =
    is ∙ ap (λ (z : List Slot). get_or z i slot) (tree_is slots root seen tree) ∙ slot_at i root slot low

-- slots that are put into an empty list

planted_slots : (before slots : List Slot) (x : Branch) → before ≡ [] → slots ≡ before ++ slots_of (length before) x → slots ≡ slots_of 0 x
planted_slots before slots x empty is = is ∙ ap (λ (z : List Slot). z ++ slots_of (length z) x) empty

pub planted_root : (before slots : List Slot) (x : Branch) → before ≡ [] → slots ≡ before ++ slots_of (length before) x → root_in slots ≡ x
planted_root before slots x empty is = ap (λ (z : List Slot). root_in z) (planted_slots before slots x empty is) ∙ root_back x

pub planted_tree : (before slots : List Slot) (x : Branch) → before ≡ [] → slots ≡ before ++ slots_of (length before) x → IsTree slots
planted_tree before slots x empty is =
    planted_slots before slots x empty is ∙ ap (λ (z : Branch). slots_of 0 z) (sym (planted_root before slots x empty is))
