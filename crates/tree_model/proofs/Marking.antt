-- Marks on places from which paths go on only so far.
use Rattle.std.proofs.Common.{◌≡◌, ℕ, zero, suc, ◌<◌, ◌≤◌, ◌+◌, Bool, true, false, List, [], ◌∷◌, Option, Some, None, cond, length, get_or, set, take, drop, ◌++◌, replicate, refl, sym, ap, ◌∙◌, subst, ◌⊎◌, inl, inr, arith, below_more, get_or-set_other}
use Rattle.std.specs.Prelude.{IsSome, IsTrue, ◌↔◌, All, MatchBool, slice_get, slice_index, option_and_then}
use Rattle.std.proofs.Math.Seq.{take-append_seam}
use Rattle.std.proofs.lemmas.Bool.{false≢true, cases_eq, cases_lt}
use Rattle.std.proofs.lemmas.List.{get_or_past, get_or-replicate, length-replicate}
use Rattle.std.proofs.lemmas.List.Sums.{sum_by-set}
use Rattle.std.proofs.lemmas.Option.{slice_get_read, slice_get-get_or, get_or_from_slice_get, slice_get_within, slice_get_cases}
use Rattle.tree_model.specs.declared.tree.Node.{Node}
use Rattle.tree_model.specs.declared.tree.Symbol.{Symbol}
use Rattle.tree_model.specs.Bounding.{IsMarked, IsUnmarked, HasUnmarked, AreBounded, IsAtRest}
use Rattle.tree_model.specs.Comparing.{unmarked}
use Rattle.tree_model.specs.Graphs.{Graph}
use Rattle.tree_model.specs.Trees.{read, at, child_of, IsFinite}

-- some child of the place has no mark
abbrev pub HasUnmarkedChild : List Node → List Bool → ℕ → Type 0
HasUnmarkedChild nodes marks place = (i : ℕ) × (child : ℕ) × (child_of nodes place i ≡ Some child) × IsUnmarked marks child

-- each place below n without a mark has a child without one
abbrev pub RestsBelow : List Node → List Bool → ℕ → Type 0
RestsBelow nodes marks n = (place : ℕ) → place < n → IsUnmarked marks place → HasUnmarkedChild nodes marks place

-- the state of a walk that began with the marks `start` and has passed i nodes
pub record IsWalking (nodes : List Node) (start marks : List Bool) (more : Bool) (i : ℕ) : Type 0 where
  pub bounded : AreBounded nodes start → AreBounded nodes marks
  pub fewer : unmarked marks ≤ unmarked start
  pub more_is : MatchBool more (unmarked marks < unmarked start) (RestsBelow nodes marks i)

-- what is read behind an option is read behind its value
reads_on : (o : Option ℕ) (f : ℕ → Option (Symbol × ℕ)) → IsSome (option_and_then {T = ℕ} {U = Symbol × ℕ} f o)
    → (child : ℕ) × (o ≡ Some child) × IsSome (f child)
reads_on None f s = absurd (false≢true s)
reads_on (Some child) f s = (child, refl, s)

-- the children of a place are those of its node
pub child_of-node : (nodes : List Node) (place i : ℕ) (node : Node) → place < length nodes → node ≡ get_or nodes place node
    → child_of nodes place i ≡ slice_get node.children i
child_of-node nodes place i node within looked = rw (slice_get_read nodes _ place node refl within looked) refl

-- a list that a call wrote in place of another of its length
pub written_back : {A : Type 0} (n : ℕ) (new old : List A) → n ≡ length new → take n (new ++ drop (length new) old) ≡ new
written_back n new old e = rw e (take-append_seam new (drop (length new) old))

-- without marks
pub bounded_none : (nodes : List Node) (n : ℕ) → AreBounded nodes (replicate n false)
bounded_none nodes n = (0, λ place marked path reads. absurd (none place (cases_lt place n) marked))
  where
    none : (place : ℕ) → (place < n) ⊎ (n ≤ place) → IsMarked (replicate n false) place → ⊥
    none place (inl w) marked = false≢true (sym (get_or-replicate n place false false w) ∙ marked)
    none place (inr w) marked = false≢true (sym (get_or_past (replicate n false) place false (omega (arith, length-replicate {A = Bool}))) ∙ marked)

-- one more mark, at a place all of whose children are marked
pub bounded_more : (nodes : List Node) (marks : List Bool) (place : ℕ) (node : Node) → place < length nodes → node ≡ get_or nodes place node
    → All (IsMarked marks) node.children → AreBounded nodes marks → AreBounded nodes (set marks place true)
bounded_more nodes marks place node within looked all b = (b.0 + 1, λ p marked path reads. by p path (cases_eq p place) marked reads)
  where
    by : (p : ℕ) (path : List ℕ) → (p ≡ place) ⊎ (p ≡ place → ⊥) → IsMarked (set marks place true) p → IsSome (read nodes p path)
        → length path < b.0 + 1
    by p path (inr other) marked reads =
        let h : length path < b.0 = b.1 p (sym (get_or-set_other marks place p true false other) ∙ marked) path reads in
        omega arith
    by p [] (inl e) marked reads = omega arith
    by p (i ∷ path) (inl e) marked reads =
        let r = reads_on (child_of nodes p i) (λ child. read nodes child path) reads in
        let found : slice_get node.children i ≡ Some r.0 = sym (child_of-node nodes place i node within looked) ∙ ap (λ q. child_of nodes q i) (sym e) ∙ r.1 in
        let is : get_or node.children i 0 ≡ r.0 = get_or_from_slice_get node.children i r.0 0 found in
        let child_marked : IsMarked marks r.0 = subst (IsMarked marks) is (all i 0 (slice_get_within node.children i r.0 found)) in
        let h : length path < b.0 = b.1 r.0 child_marked path r.2 in
        omega arith

-- a place without a mark is one of the list
unmarked_within : (marks : List Bool) (place : ℕ) → IsUnmarked marks place → place < length marks
unmarked_within marks place u = by (cases_lt place (length marks))
  where
    by : (place < length marks) ⊎ (length marks ≤ place) → place < length marks
    by (inl w) = w
    by (inr w) = absurd (false≢true (sym u ∙ get_or_past marks place true w))

-- at rest there are paths of every length from each place without a mark
pub endless : (nodes : List Node) (marks : List Bool) → length marks ≡ length nodes → IsAtRest nodes marks
    → (n place : ℕ) → IsUnmarked marks place → (path : List ℕ) × (length path ≡ n) × IsSome (read nodes place path)
endless nodes marks size rests zero place u = ([], refl, by (slice_get_cases nodes place).1)
  where
    by : ((x : Node) × (place < length nodes) × (slice_get nodes place ≡ Some x) × (get_or nodes place x ≡ x)) ⊎ ((length nodes ≤ place) × (slice_get nodes place ≡ None))
        → IsSome (read nodes place [])
    by (inl h) = rw h.2 refl
    by (inr h) = absurd (omega (arith, unmarked_within marks place u, h.0))
endless nodes marks size rests (suc n) place u =
    let s = rests place u in
    let r = endless nodes marks size rests n s.1 s.3 in
    (s.0 ∷ r.0, ap (λ k. suc k) r.1, subst (λ o. IsSome (option_and_then {T = ℕ} {U = Symbol × ℕ} (λ child. read nodes child r.0) o)) (sym s.2) r.2)

-- one mark more leaves one place less
pub one_less : (marks : List Bool) (i : ℕ) → i < length marks → get_or marks i false ≡ false → unmarked (set marks i true) + 1 ≡ unmarked marks
one_less marks i within e =
    let h = rw e at (sum_by-set (λ (marked : Bool). cond marked 0 1) marks i true false within) in
    omega (arith, h)

module _ (nodes : List Node) (start marks : List Bool) (more : Bool) (i : ℕ) (state : IsWalking nodes start marks more i)
    (within : i < length nodes) (size : length marks ≡ length nodes) where
  passes : (b : Bool) → MatchBool b (unmarked marks < unmarked start) (RestsBelow nodes marks i) → (IsUnmarked marks i → HasUnmarkedChild nodes marks i)
      → MatchBool b (unmarked marks < unmarked start) (RestsBelow nodes marks (i + 1))
  passes true h here = h
  passes false h here = below_more _ _ h here

  passed : (IsUnmarked marks i → HasUnmarkedChild nodes marks i) → IsWalking nodes start marks more (i + 1)
  passed here = record { bounded = state.bounded; fewer = state.fewer; more_is = passes more state.more_is here }

  -- past a place that has a mark
  pub passed_marked : get_or marks i false ≡ true → IsWalking nodes start marks more (i + 1)
  passed_marked e =
      passed (λ u. absurd (false≢true (sym u ∙ get_or_from_slice_get marks i (get_or marks i false) true (slice_get-get_or marks i false (omega arith)) ∙ e)))

  -- past a place with a child that has no mark
  pub passed_open : (node : Node) → node ≡ get_or nodes i node → HasUnmarked marks node.children → IsWalking nodes start marks more (i + 1)
  passed_open node looked h =
      passed (λ u. (h.0, slice_index node.children h.0, child_of-node nodes i h.0 node within looked ∙ slice_get-get_or node.children h.0 0 h.1, h.2))

  -- the place is marked, all of whose children are
  pub marks_one : (node : Node) → node ≡ get_or nodes i node → get_or marks i false ≡ false → All (IsMarked marks) node.children
      → IsWalking nodes start (set marks i true) true (i + 1)
  marks_one node looked none all = record {
    bounded = λ b. bounded_more nodes marks i node within looked all (state.bounded b);
    fewer = omega (arith, one_less marks i (omega arith) none, state.fewer);
    more_is = omega (arith, one_less marks i (omega arith) none, state.fewer);
  }

-- a walk over all the nodes
pub walked : (nodes : List Node) (start marks : List Bool) (more : Bool) (i : ℕ) → length marks ≡ length nodes → length nodes ≤ i
    → IsWalking nodes start marks more i → MatchBool more (unmarked marks < unmarked start) (IsAtRest nodes marks)
walked nodes start marks more i size all state = by more state.more_is
  where
    by : (b : Bool) → MatchBool b (unmarked marks < unmarked start) (RestsBelow nodes marks i) → MatchBool b (unmarked marks < unmarked start) (IsAtRest nodes marks)
    by true h = h
    by false h = λ place u. h place (omega (arith, unmarked_within marks place u)) u

-- what the mark of the root says at rest
pub answered : (t : Graph) (marks : List Bool) (answer : Bool) → length marks ≡ length t.nodes → t.root < length t.nodes
    → AreBounded t.nodes marks → IsAtRest t.nodes marks → answer ≡ get_or marks t.root answer → IsTrue answer ↔ IsFinite t
answered t marks true size within bounded rests read =
    (λ _ none. none (bounded.0, bounded.1 t.root (get_or_from_slice_get marks t.root true false (slice_get_read marks _ t.root true refl (omega arith) read))), λ _. refl)
answered t marks false size within bounded rests read =
    (λ wrong. absurd (false≢true wrong), λ finite. absurd (finite (λ b. never b)))
  where
    never : (bound : ℕ) × ((path : List ℕ) → IsSome (at t path) → length path < bound) → ⊥
    never b =
        let u : IsUnmarked marks t.root = get_or_from_slice_get marks t.root false true (slice_get_read marks _ t.root false refl (omega arith) read) in
        let far = endless t.nodes marks size rests b.0 t.root u in
        let h : length far.0 < b.0 = b.1 far.0 far.2 in
        absurd (omega (arith, h, far.1))
