-- What a turn does to the state.
use Rattle.std.specs.Prelude.{slice_get, Some, Contains, ◌↔◌}
use Rattle.std.proofs.Common.{ℕ, ◌≡◌, ◌+◌, List, [], true, sym, ap, ◌∙◌, subst, arith, inl, inr}
use Rattle.std.proofs.lemmas.Bool.{both_ways, cases_Bool, and_left}
use Rattle.std.proofs.lemmas.Option.{slice_get_within, get_or_from_slice_get}
use Rattle.tree_model.specs.Signatures.{Signature}
use Rattle.flat_form.specs.Fitting.{NormFits}
use Rattle.node_facts.specs.Agreement.{IsHeld}
use Rattle.node_facts.specs.Branches.{Branch, branch, norm_in, is_waiting, none_waits, is_ready, waiting, ready_places, BranchHolds, BranchOver}
use Rattle.node_facts.specs.Places.{listed}
use Rattle.node_facts.proofs.Counts.{listed_counts, ready_are_there}
use Rattle.node_facts.proofs.Places.{listed_is_same_norm, listed_is_over, held_stays}
use Rattle.node_facts.proofs.Turns.{turn_keeps_whole}
use Rattle.working_rules.specs.Forests.{branch_at}
use Rattle.working_rules.specs.State.{State, Turned}
use Rattle.working_rules.specs.TurnedLaws.{TurnedStays, TurnedCounts, TurnedMeans}
use Rattle.working_rules.proofs.Standing.{stands_at}

got_in : (xs : List ℕ) (i x : ℕ) → slice_get xs i ≡ Some x → Contains xs x
got_in xs i x e = (i, slice_get_within xs i x e, get_or_from_slice_get xs i x x e)

ready_waits : (x : Branch) → is_ready x ≡ true → is_waiting x ≡ true
ready_waits (branch bound basic parts list) ready = elim (cases_Bool (is_waiting (branch bound basic parts list))) [
  | inl waits ↦ waits
  | inr done ↦ absurd (both_ways (is_ready (branch bound basic parts list)) (and_left (is_waiting (branch bound basic parts list)) (none_waits parts) done) ready)
]

-- the branch at the place that is picked is ready
pub picked_ready : (free : ℕ) (root : Branch) (pick place : ℕ) → slice_get (ready_places 0 root) pick ≡ Some place → is_ready (branch_at place root) ≡ true
picked_ready free root pick place picked =
    let found = (ready_are_there free [] root 0 place).0 (got_in (ready_places 0 root) pick place picked) in
    let same : place ≡ found.0 = omega (arith, found.1) in
    let one : branch_at place root ≡ found.2.here =
    ap (λ (j : ℕ). branch_at j root) same ∙ stands_at free found.0 found.2.variables [] found.2.under root found.2.here found.2.stands
    in
    subst (λ (z : Branch). is_ready z ≡ true) (sym one) found.2.ready

-- the branch that is picked waits
here_waits : (old new : State) (pick : ℕ) (t : Turned old pick new) → is_waiting t.here ≡ true
here_waits old new pick t =
    let stands : branch_at t.place old.root ≡ t.here = stands_at old.free t.place t.variables [] t.under old.root t.here t.stands in
    ready_waits t.here (subst (λ (z : Branch). is_ready z ≡ true) stands (picked_ready old.free old.root pick t.place t.picked))

turned_norm : (old new : State) (pick : ℕ) → Turned old pick new → norm_in new.root ≡ norm_in old.root
turned_norm old new pick t =
    ap norm_in t.listed_there ∙ listed_is_same_norm old.free t.place t.variables [] t.under old.root t.here t.list t.stands

turned_over : (old new : State) (pick : ℕ) → Turned old pick new → BranchOver old.free old.root → BranchOver new.free new.root
turned_over old new pick t over =
    subst (λ (k : ℕ). BranchOver k new.root) (sym t.free_stays) (subst (λ (z : Branch). BranchOver old.free z) (sym t.listed_there)
    (listed_is_over old.free t.place t.variables [] t.under old.root t.here t.list t.stands t.over t.distinct over))

turned_held : (σ : Signature) (old new : State) (pick : ℕ) → Turned old pick new → NormFits σ (norm_in old.root) → IsHeld old.free [] old.root
    → IsHeld new.free [] new.root
turned_held σ old new pick t fits held =
    subst (λ (k : ℕ). IsHeld k [] new.root) (sym t.free_stays) (subst (λ (z : Branch). IsHeld old.free [] z) (sym t.listed_there)
    (held_stays old.free t.place t.variables [] t.under old.root t.here t.list t.stands held (t.turn σ fits).nested))

pub turned_stays : TurnedStays
turned_stays = record { norm = turned_norm; over = turned_over; held = turned_held }

pub turned_counts : TurnedCounts
turned_counts old new pick t =
    let less : waiting (listed t.place t.list old.root) + 1 ≡ waiting old.root =
    listed_counts old.free t.place t.variables [] t.under old.root t.here t.list t.stands (here_waits old new pick t)
    in
    let same : waiting new.root ≡ waiting (listed t.place t.list old.root) = ap waiting t.listed_there in
    omega (arith, t.counted, less, same)

pub turned_means : TurnedMeans
turned_means σ old new pick e t over fits held =
    subst (λ (k : ℕ). BranchHolds old.free e old.root ↔ BranchHolds k e new.root) (sym t.free_stays)
    (subst (λ (z : Branch). BranchHolds old.free e old.root ↔ BranchHolds old.free e z) (sym t.listed_there)
    (turn_keeps_whole σ old.free t.place t.variables t.under old.root t.here t.list e t.stands over fits held (t.turn σ fits)))
