-- How the logic stores a tree of branches: by its slots, which give it back. No clause reads these words.
use Rattle.std.proofs.Common.{ℕ, ◌≡◌, ◌+◌, List, [], ◌++◌, refl, sym, ap, ◌∙◌, append-nil, append_assoc}
use Rattle.std.specs.Coded.{Coded, code_by, coded_list, coded_ℕ, coded×}
use Rattle.basic_solver.specs.contracts.scope.Scope as stored_scope
use Rattle.basic_solver.specs.declared.scope.Scope.{Scope}
use Rattle.node_facts.specs.Branches.{Branch, Branches, branch, no_branch, one_more, size}
use Rattle.working_rules.specs.contracts.slot.Slot as stored
use Rattle.working_rules.specs.declared.slot.Slot.{Slot}
use Rattle.working_rules.specs.Forests.{count, joined, first_of}
use Rattle.working_rules.specs.State.{State}
use Rattle.working_rules.specs.Slots.{slots_of, all_slots_of, front, behind, grown, root_in}

pub front_joined : (xs ys : Branches) → front (count xs) (joined xs ys) ≡ xs
front_joined no_branch ys = refl
front_joined (one_more part rest) ys = ap (λ (z : Branches). one_more part z) (front_joined rest ys)

pub behind_joined : (xs ys : Branches) → behind (count xs) (joined xs ys) ≡ ys
behind_joined no_branch ys = refl
behind_joined (one_more part rest) ys = behind_joined rest ys

mutual
  -- a branch's slots give it back, and then what the others give
  pub grown_one : (at : ℕ) (x : Branch) (more : List Slot) → grown (slots_of at x ++ more) ≡ one_more x (grown more)
  grown_one at (branch bound basic parts list) more =
      ap (λ (z : Branches). one_more (branch bound basic (front (count parts) z) list) (behind (count parts) z)) (grown_all (at + 1) parts more)
      ∙ ap (λ (z : Branches). one_more (branch bound basic z list) (behind (count parts) (joined parts (grown more)))) (front_joined parts (grown more))
      ∙ ap (λ (z : Branches). one_more (branch bound basic parts list) z) (behind_joined parts (grown more))

  pub grown_all : (at : ℕ) (xs : Branches) (more : List Slot) → grown (all_slots_of at xs ++ more) ≡ joined xs (grown more)
  grown_all at no_branch more = refl
  grown_all at (one_more part rest) more =
      ap (λ (z : List Slot). grown z) (append_assoc (slots_of at part) (all_slots_of (at + size part) rest) more)
      ∙ grown_one at part (all_slots_of (at + size part) rest ++ more)
      ∙ ap (λ (z : Branches). one_more part z) (grown_all (at + size part) rest more)

pub root_back : (x : Branch) → root_in (slots_of 0 x) ≡ x
root_back x =
    ap (λ (z : List Slot). root_in z) (sym (append-nil (slots_of 0 x))) ∙ ap (λ (z : Branches). first_of z) (grown_one 0 x [])

abbrev pub branch_code : Coded Branch
branch_code = code_by (List Slot) (coded_list stored.the_row.coded) (slots_of 0) root_in root_back

-- how it stores a state
abbrev pub state_code : Coded State
state_code =
    code_by (ℕ × (Branch × (List Scope × ℕ))) (coded× coded_ℕ (coded× branch_code (coded× (coded_list stored_scope.the_row.coded) coded_ℕ)))
    (λ state. (state.free, (state.root, (state.store.scopes, state.turns))))
    (λ parts. record { free = parts.0; root = parts.1.0; store = record { scopes = parts.1.1.0 }; turns = parts.1.1.1 }) (λ state. refl)
