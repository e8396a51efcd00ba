-- A machine before, in and behind its turns.
use Rattle.std.specs.Prelude.{slice_get, Some, None, ◌↔◌, MatchOption}
use Rattle.std.proofs.Common.{ℕ, ◌≡◌, ◌+◌, ◌<◌, Bool, true, false, List, [], ◌∷◌, Option, length, refl, sym, ap, ◌∙◌, subst, arith}
use Rattle.std.proofs.lemmas.Bool.{both_ways}
use Rattle.std.proofs.lemmas.List.Elements.{All-nil}
use Rattle.tree_model.specs.Signatures.{Signature}
use Rattle.tree_model.specs.Valuations.{Valuation}
use Rattle.lists.specs.Distinct.{IsDistinct}
use Rattle.flat_form.specs.declared.atom.Flat.{Flat}
use Rattle.flat_form.specs.declared.cube.Cube.{Cube}
use Rattle.flat_form.specs.Fitting.{NormFits, BasicFits, AtomFits}
use Rattle.flat_form.specs.Meanings.{SomeHolds, NormHolds}
use Rattle.flat_form.specs.Normals.{Norm}
use Rattle.flat_form.specs.Numbering.{AtomOver, BasicOver, NormOver, NormsOver}
use Rattle.basic_solver.specs.declared.scope.Scope.{Scope}
use Rattle.basic_solver.specs.Stores.{Stored}
use Rattle.node_facts.specs.Agreement.{IsTurn, IsHeld}
use Rattle.node_facts.specs.Branches.{Branch, Branches, branch, no_branch, one_more, norm_in, norms_in, unturned, is_waiting, none_waits, is_ready, ready_places, waiting, with_parts, BranchHolds, BranchOver, BranchesOver}
use Rattle.node_facts.specs.Nested.{IsNested, IsNestedList}
use Rattle.node_facts.specs.Places.{At, listed}
use Rattle.node_facts.proofs.ClosedUnder.{under_distinct}
use Rattle.node_facts.proofs.Counts.{ready_unless_done}
use Rattle.node_facts.proofs.Places.{over_at, places_have}
use Rattle.node_facts.proofs.Turns.{turn_is_made}
use Rattle.node_facts.proofs.Unturned.{unturned_is}
use Rattle.node_facts.proofs.Nested.{nested_mean}
use Rattle.working_rules.specs.Forests.{branch_at, list_in}
use Rattle.working_rules.specs.Joining.{IsWorkedOff, IsListAt}
use Rattle.working_rules.specs.Machines.{IsMachine}
use Rattle.working_rules.specs.State.{State, IsOpening, Turned}
use Rattle.working_rules.proofs.Turned.{picked_ready, turned_stays, turned_counts, turned_means}

-- the list of a ready branch

turn_of : (σ : Signature) (n : ℕ) (under : List Flat) (x : Branch) (out : List Cube) → is_ready x ≡ true → BranchOver n x → BasicOver n under
    → NormFits σ (norm_in x) → BasicFits σ under → IsHeld n under x → IsWorkedOff n under x out → IsTurn σ n under x out
turn_of σ n under (branch bound basic parts (Some own)) out ready over round_over fits round_fits held worked = absurd (both_ways false refl ready)
turn_of σ n under (branch bound basic no_branch None) out ready over round_over fits round_fits held worked = absurd (both_ways false refl ready)
turn_of σ n under (branch bound basic (one_more part rest) None) out ready over round_over fits round_fits held (is_over, lists, have, closed) =
    turn_is_made σ n bound under basic (one_more part rest) lists out refl over round_over fits round_fits held have closed

worked_distinct : (n : ℕ) (under : List Flat) (x : Branch) (out : List Cube) → IsWorkedOff n under x out → IsDistinct out
worked_distinct n under (branch bound basic parts list) out (is_over, lists, have, closed) = under_distinct n under bound basic lists out closed

pub turned_by : (old new : State) (pick place : ℕ) (list : List Cube) → slice_get (ready_places 0 old.root) pick ≡ Some place → IsMachine old
    → IsListAt old.free old.root place list → new.root ≡ listed place list old.root → new.free ≡ old.free → new.turns ≡ old.turns + 1 → Turned old pick new
turned_by old new pick place list picked keeps (variables, under, stands, worked) listed_there free_stays counted = record {
  place = place;
  variables = variables;
  under = under;
  here = branch_at place old.root;
  list = list;
  picked = picked;
  stands = stands;
  over = worked.0;
  distinct = worked_distinct variables under (branch_at place old.root) list worked;
  turn = λ σ fits.
      let over = over_at old.free place variables [] under old.root (branch_at place old.root) stands keeps.over (All-nil (AtomOver old.free)) in
      let fit = places_have.norm_fits σ old.free place variables [] under old.root (branch_at place old.root) stands fits (All-nil (AtomFits σ)) in
      let held = places_have.held old.free place variables [] under old.root (branch_at place old.root) stands (keeps.held σ fits) in
      turn_of σ variables under (branch_at place old.root) list (picked_ready old.free old.root pick place picked) over.0 over.1 fit.0 fit.1 held worked;
  listed_there = listed_there;
  free_stays = free_stays;
  counted = counted;
}

-- what is kept

pub machine_turned : (old new : State) (pick : ℕ) → Turned old pick new → new.store.scopes ≡ old.store.scopes → IsMachine old → IsMachine new
machine_turned old new pick t stays keeps =
    let same : norm_in new.root ≡ norm_in old.root = turned_stays.norm old new pick t in
    let count : with_parts (norm_in new.root) ≡ with_parts (norm_in old.root) = ap with_parts same in
    record {
      some = omega (arith, count, keeps.some);
      over = turned_stays.over old new pick t keeps.over;
      counted = omega (arith, turned_counts old new pick t, keeps.counted, count);
      opening = stays ∙ keeps.opening ∙ ap (λ (k : ℕ). record { variables = k; atoms = [] } ∷ []) (sym t.free_stays);
      held = λ σ fits. let fit = subst (λ (z : Norm). NormFits σ z) same fits in turned_stays.held σ old new pick t fit (keeps.held σ fit);
    }

pub machine_stays : (free turns : ℕ) (root : Branch) (store next : Stored) → next.scopes ≡ store.scopes
    → IsMachine (record { free = free; root = root; store = store; turns = turns }) → IsMachine (record { free = free; root = root; store = next; turns = turns })
machine_stays free turns root store next stays keeps = record {
  some = keeps.some;
  over = keeps.over;
  counted = keeps.counted;
  opening = stays ∙ keeps.opening;
  held = keeps.held;
}

pub machine_new : (free : ℕ) (x : Norm) (root : Branch) (store : Stored) → root ≡ unturned x → NormOver free x → 0 < with_parts x → IsOpening free store
    → IsMachine (record { free = free; root = root; store = store; turns = 0 })
machine_new free x root store is over some opening =
    subst (λ (z : Branch). IsMachine (record { free = free; root = z; store = store; turns = 0 })) (sym is) (
    let same : norm_in (unturned x) ≡ x = unturned_is.norm x in
    let count : with_parts (norm_in (unturned x)) ≡ with_parts x = ap with_parts same in
    let left : waiting (unturned x) ≡ with_parts x = unturned_is.count x in
    record {
      some = omega (arith, some, count);
      over = unturned_is.over free x over;
      counted = omega (arith, count, left);
      opening = opening;
      held = λ σ fits. unturned_is.held free [] x;
    }
    )

pub unturned_means : (free : ℕ) (x : Norm) (root : Branch) → root ≡ unturned x → (σ : Signature) (e : Valuation σ) → BranchHolds free e root ↔ NormHolds free e x
unturned_means free x root is σ e = subst (λ (z : Branch). BranchHolds free e z ↔ NormHolds free e x) (sym is) (unturned_is.means σ free e x)

-- behind the last turn the root has a list

pub root_list : (x : Branch) → 0 < with_parts (norm_in x) → waiting x ≡ 0 → (list : List Cube) × (list_in x ≡ Some list)
root_list (branch bound basic parts (Some list)) some none = (list, refl)
root_list (branch bound basic no_branch None) some none = absurd (omega (arith, some))
root_list (branch bound basic (one_more part rest) None) some none = absurd (omega (arith, none))

some_same : {A : Type 0} (x y : A) → Some x ≡ Some y → x ≡ y
some_same x y e = cc

none_is_some : {A : Type 0} (x : A) → ¬ (None ≡ Some x)
none_is_some x e = cc

pub list_nested : (n : ℕ) (x : Branch) (list : List Cube) → list_in x ≡ Some list → IsHeld n [] x → IsNestedList n (norm_in x) list
list_nested n (branch bound basic parts (Some own)) list is held =
    subst (λ (z : List Cube). IsNestedList n (norm_in (branch bound basic parts (Some own))) z) (some_same own list is) held.1
list_nested n (branch bound basic parts None) list is held = absurd (none_is_some list is)

pub list_is_state : (n : ℕ) (x : Branch) (list : List Cube) → list_in x ≡ Some list → (σ : Signature) (e : Valuation σ) → SomeHolds e list ↔ BranchHolds n e x
list_is_state n (branch bound basic parts (Some own)) list is σ e =
    subst (λ (z : List Cube). SomeHolds e z ↔ SomeHolds e own) (some_same own list is) ((λ h. h), (λ h. h))
list_is_state n (branch bound basic parts None) list is σ e = absurd (none_is_some list is)

mutual
  norm_over : (n : ℕ) (x : Branch) → BranchOver n x → NormOver n (norm_in x)
  norm_over n (branch bound basic parts list) over = (over.0, norms_over (n + bound) parts over.1)

  norms_over : (n : ℕ) (xs : Branches) → BranchesOver n xs → NormsOver n (norms_in xs)
  norms_over n no_branch over = tt
  norms_over n (one_more part rest) over = (norm_over n part over.0, norms_over n rest over.1)

pub list_means : (state : State) (list : List Cube) → IsMachine state → list_in state.root ≡ Some list → (σ : Signature) (e : Valuation σ)
    → NormFits σ (norm_in state.root) → SomeHolds e list ↔ NormHolds state.free e (norm_in state.root)
list_means state list keeps is σ e fits =
    nested_mean σ state.free [] (norm_in state.root) list e (norm_over state.free state.root keeps.over) (All-nil (AtomOver state.free)) fits (All-nil (AtomFits σ))
    (list_nested state.free state.root list is (keeps.held σ fits)) tt

-- a turn, and what is seen of the machine before it

pub record TurnMade (old : State) (pick : ℕ) (new : State) : Type 0 where
  pub turned : Turned old pick new
  pub keeps : IsMachine new
  pub norm : norm_in new.root ≡ norm_in old.root
  pub whole : (σ : Signature) (e : Valuation σ) → NormFits σ (norm_in old.root) → BranchHolds old.free e old.root ↔ BranchHolds new.free e new.root

made : (old new : State) (pick : ℕ) → Turned old pick new → new.store.scopes ≡ old.store.scopes → IsMachine old → TurnMade old pick new
made old new pick t stays keeps = record {
  turned = t;
  keeps = machine_turned old new pick t stays keeps;
  norm = turned_stays.norm old new pick t;
  whole = λ σ e fits. turned_means σ old new pick e t keeps.over fits (keeps.held σ fits);
}

pub turn_made : (free turns next : ℕ) (root after : Branch) (store left : Stored) (seen : State) (pick place : ℕ) (list : List Cube)
    → record { free = free; root = root; store = store; turns = turns } ≡ seen → slice_get (ready_places 0 root) pick ≡ Some place
    → IsMachine (record { free = free; root = root; store = store; turns = turns }) → IsListAt free root place list → after ≡ listed place list root → next ≡ turns + 1
    → left.scopes ≡ store.scopes → TurnMade seen pick (record { free = free; root = after; store = left; turns = next })
turn_made free turns next root after store left seen pick place list view picked keeps is put counted stays =
    let old : State = record { free = free; root = root; store = store; turns = turns } in
    let new : State = record { free = free; root = after; store = left; turns = next } in
    subst (λ (z : State). TurnMade z pick new) view (made old new pick (turned_by old new pick place list picked keeps is put refl counted) stays keeps)

-- the list that is handed out

pub some_list_left : (free turns : ℕ) (root : Branch) (store : Stored) (seen : State) (found : Option (List Cube))
    → record { free = free; root = root; store = store; turns = turns } ≡ seen → IsMachine (record { free = free; root = root; store = store; turns = turns })
    → length (ready_places 0 seen.root) ≡ 0 → found ≡ list_in root → ¬ (found ≡ None)
some_list_left free turns root store seen found view keeps none is = λ missing.
    let all : length (ready_places 0 root) ≡ 0 = ap (λ (z : State). length (ready_places 0 z.root)) view ∙ none in
    let list = root_list root keeps.some ((ready_unless_done 0 root).0 all) in
    none_is_some list.0 (sym missing ∙ is ∙ list.1)

pub cubes_nested : (free turns : ℕ) (root : Branch) (store : Stored) (seen : State) (found : Option (List Cube)) (list : List Cube)
    → record { free = free; root = root; store = store; turns = turns } ≡ seen → IsMachine (record { free = free; root = root; store = store; turns = turns })
    → found ≡ list_in root → found ≡ Some list → (σ : Signature) → NormFits σ (norm_in seen.root) → IsNestedList seen.free (norm_in seen.root) list
cubes_nested free turns root store seen found list view keeps is some =
    subst (λ (z : State). (σ : Signature) → NormFits σ (norm_in z.root) → IsNestedList z.free (norm_in z.root) list) view
    (λ σ fits. list_nested free root list (sym is ∙ some) (keeps.held σ fits))

pub cubes_mean : (free turns : ℕ) (root : Branch) (store : Stored) (seen : State) (found : Option (List Cube)) (list : List Cube)
    → record { free = free; root = root; store = store; turns = turns } ≡ seen → IsMachine (record { free = free; root = root; store = store; turns = turns })
    → found ≡ list_in root → found ≡ Some list → (σ : Signature) (e : Valuation σ) → NormFits σ (norm_in seen.root)
    → SomeHolds e list ↔ NormHolds seen.free e (norm_in seen.root)
cubes_mean free turns root store seen found list view keeps is some =
    subst (λ (z : State). (σ : Signature) (e : Valuation σ) → NormFits σ (norm_in z.root) → SomeHolds e list ↔ NormHolds z.free e (norm_in z.root)) view
    (list_means (record { free = free; root = root; store = store; turns = turns }) list keeps (sym is ∙ some))
