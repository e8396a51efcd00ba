-- A reduced cube holds under the values of its fresh assignment.
use Rattle.std.proofs.Common.{◌≡◌, ℕ, zero, suc, ◌+◌, ◌<◌, ◌≤◌, true, false, cond, List, [], ◌∷◌, length, map, refl, sym, ap, subst, ◌∙◌, ◌⊎◌, inl, inr, arith}
use Rattle.std.specs.Prelude.{Contains, Some, slice_get, slice_index, option_map, option_and_then}
use Rattle.std.specs.List.{range_with_len, list_any}
use Rattle.std.proofs.lemmas.Bool.{eqb-true, eq-eqb, false≢true}
use Rattle.std.proofs.lemmas.List.Elements.{All-contains}
use Rattle.std.proofs.lemmas.List.FromFn.{length-range_with_len, get_or-map-range_with_len}
use Rattle.classical.proofs.Stable.{some}
use Rattle.tree_model.specs.declared.tree.Node.{Node}
use Rattle.tree_model.specs.declared.tree.Symbol.{Symbol}
use Rattle.tree_model.specs.declared.tree.Symbol.TheVariants.{Further}
use Rattle.tree_model.specs.Graphs.{Forest, AreInRange}
use Rattle.tree_model.specs.Signatures.{Signature, TreeOver, Fits}
use Rattle.tree_model.specs.Trees.{at, read, IsFinite}
use Rattle.tree_model.specs.Valuations.{Valuation}
use Rattle.tree_model.specs.OneNode.{constant, loop}
use Rattle.tree_model.proofs.Sameness.{finite_same}
use Rattle.tree_facts.specs.Equations.{Equation, equals_variable, equals_term, Solves}
use Rattle.tree_facts.specs.Tables.{Meets, IsReadFrom}
use Rattle.tree_facts.proofs.Equations.{within_or_past}
use Rattle.tree_facts.proofs.Indexes.{constant_finite, loop_infinite}
use Rattle.tree_facts.proofs.Tables.{read_from_table_solves}
use Rattle.flat_form.specs.declared.atom.Flat.{Flat}
use Rattle.flat_form.specs.declared.atom.Flat.TheVariants.{VarVar, VarTerm, Finite}
use Rattle.flat_form.specs.declared.cube.Cube.{Cube}
use Rattle.flat_form.specs.Fitting.{CubeFits}
use Rattle.flat_form.specs.Meanings.{AtomHolds, BasicHolds, Extends}
use Rattle.flat_form.specs.Numbering.{AtomOver}
use Rattle.flat_form.specs.Orders.{place_of}
use Rattle.flat_form.specs.Reduced.{IsReduced}
use Rattle.flat_form.specs.Solved.{variable_of, IsOpen}
use Rattle.flat_facts.proofs.Lists.{all_hold, one_each, equations_of, atom_stands, variable_stands, term_stands, equation_low}
use Rattle.flat_facts.proofs.Follows.{over_below}
use Rattle.cube_facts.specs.Fresh.{HasFreshValues}
use Rattle.cube_facts.proofs.Solution.{fresh_values_fail}
use Rattle.numbering.proofs.Numbers.{place_low}
use Rattle.witness_trees.specs.Breadth.{node_of}
use Rattle.witness_trees.specs.Fresh.{marks, index, label, representative, fresh_term, tops, IsFreshAssignment}
use Rattle.witness_trees.specs.FreshLaws.{node_place, FreshHasValues, HoldsUnderFresh}
use Rattle.witness_trees.specs.Values.{HasTreesOf, IndexesAreUsed}
use Rattle.witness_trees.proofs.Occurring.{many, map_twice}
use Rattle.witness_trees.proofs.Terms.{any_in, none_in, own, term_none, term}
use Rattle.witness_trees.proofs.Taken.{tells_open, indexes_fresh}
use Rattle.witness_trees.proofs.EachMet.{each_is_met}
use Rattle.witness_trees.proofs.Table.{fresh_table, node_at}

-- ---- nodes of one symbol

-- a node without children is a constant
reads_constant : (σ : Signature) (nodes : List Node) (place k : ℕ) → slice_get nodes place ≡ Some (term (Further k) []) → (path : List ℕ)
    → read nodes place path ≡ at (constant σ k).graph path
reads_constant σ nodes place k e [] = ap (option_map {T = Node} {U = Symbol × ℕ} (λ node. (node.symbol, length node.children))) e
reads_constant σ nodes place k e (i ∷ path) =
    ap (option_and_then {T = ℕ} {U = Symbol × ℕ} (λ child. read nodes child path)) (ap (option_and_then {T = Node} {U = ℕ} (λ node. slice_get node.children i)) e)

-- one that is its own child is a loop
reads_loop : (σ : Signature) (nodes : List Node) (place k : ℕ) → slice_get nodes place ≡ Some (term (Further k) (place ∷ [])) → (path : List ℕ)
    → read nodes place path ≡ at (loop σ k).graph path
reads_loop σ nodes place k e [] = ap (option_map {T = Node} {U = Symbol × ℕ} (λ node. (node.symbol, length node.children))) e
reads_loop σ nodes place k e (zero ∷ path) =
    ap (option_and_then {T = ℕ} {U = Symbol × ℕ} (λ child. read nodes child path)) (ap (option_and_then {T = Node} {U = ℕ} (λ node. slice_get node.children 0)) e)
    ∙ reads_loop σ nodes place k e path
reads_loop σ nodes place k e (suc i ∷ path) =
    ap (option_and_then {T = ℕ} {U = Symbol × ℕ} (λ child. read nodes child path)) (ap (option_and_then {T = Node} {U = ℕ} (λ node. slice_get node.children (suc i))) e)

-- ---- values

-- as many roots as free variables
pub root_count : (c : Cube) (used : List ℕ) (a : Forest) → IsFreshAssignment c used a → length a.roots ≡ c.free
root_count c used a fresh =
    ap length fresh.roots ∙ many (place_of fresh.order) (tops c) ∙ many (representative c.basic) (range_with_len 0 c.free) ∙ length-range_with_len 0 c.free

module _ (σ : Signature) (c : Cube) (used : List ℕ) (a : Forest) (fits : CubeFits σ c) (fresh : IsFreshAssignment c used a) where
  abbrev in_range : AreInRange a.nodes a.roots
  in_range = fresh_table.in_range c used a fresh

  abbrev nodes_fit : Fits σ a.nodes
  nodes_fit = fresh_table.fits σ c used a fits fresh

  -- the tree of a node
  abbrev tree_at : (place : ℕ) → place < length a.nodes → TreeOver σ
  tree_at place w = record {
    graph = record { nodes = a.nodes; root = place };
    in_range = record { children = in_range.children; root_within = w };
    fits = nodes_fit;
  }

  abbrev root_value : (v : ℕ) → (v < length a.roots) ⊎ (length a.roots ≤ v) → TreeOver σ
  root_value v (inl w) = tree_at (slice_index a.roots v) (in_range.roots_within v 0 w)
  root_value v (inr le) = constant σ 0

  has_values : (e : Valuation σ) × HasTreesOf a e
  has_values = (λ v. root_value v (within_or_past v (length a.roots)), λ v w path. by v w path (within_or_past v (length a.roots)))
    where
      by : (v : ℕ) → v < length a.roots → (path : List ℕ) → (s : (v < length a.roots) ⊎ (length a.roots ≤ v))
          → at (root_value v s).graph path ≡ read a.nodes (slice_index a.roots v) path
      by v w path (inl low) = refl
      by v w path (inr le) = absurd (omega (arith, w, le))

pub fresh_has_values : FreshHasValues
fresh_has_values = has_values

-- ---- the cube holds

module _ (σ : Signature) (c : Cube) (used : List ℕ) (a : Forest) (reduced : IsReduced c) (fits : CubeFits σ c) (fresh : IsFreshAssignment c used a) where
  abbrev m : ℕ
  m = c.free + c.outer

  abbrev place : ℕ → ℕ
  place = node_place c fresh.order

  placed : (v : ℕ) → v < m → place v < length a.nodes
  placed v w =
      omega (arith, place_low fresh.order (representative c.basic v) (each_is_met c used a reduced fresh v w), ap length fresh.nodes, many (node_of (label c used) fresh.order) fresh.order)

  value : (v : ℕ) → (v < m) ⊎ (m ≤ v) → TreeOver σ
  value v (inl w) = tree_at σ c used a fits fresh (place v) (placed v w)
  value v (inr le) = constant σ 0

  d : Valuation σ
  d v = value v (within_or_past v m)

  reads : (v : ℕ) → v < m → IsReadFrom a.nodes place d v
  unfolding value d
  reads v w path = by (within_or_past v m)
    where
      by : (s : (v < m) ⊎ (m ≤ v)) → at (value v s).graph path ≡ read a.nodes (place v) path
      by (inl low) = refl
      by (inr le) = absurd (omega (arith, w, le))

  meets : (q : Equation) → Contains (equations_of c.basic) q → Meets a.nodes place q
  meets (equals_variable u r) there = fresh_table.equal c used a reduced fresh u r (atom_stands c.basic (equals_variable u r) there)
  meets (equals_term u s xs) there = fresh_table.term c used a reduced fresh u s xs (atom_stands c.basic (equals_term u s xs) there)

  solves : Solves d (equations_of c.basic)
  solves =
      read_from_table_solves σ a.nodes place d (equations_of c.basic) meets
      (λ q there v inside. reads v (equation_low m c.basic (over_below m c.basic reduced.well_numbered.basic) q there v inside))

  -- the node of an open variable
  open_node : (v : ℕ) → v < m → IsOpen c.basic v
      → slice_get a.nodes (place v) ≡ Some (term (Further (index c used v)) (map place (cond (list_any (marks v) c.basic) [] (v ∷ []))))
  open_node v w bare = node_at c used a reduced fresh v w (own c.basic v bare.no_variable) (fresh_term c.basic (index c used v) v) (term_none c.basic v (fresh_term c.basic (index c used v) v) bare.no_term)

  finite_open : (u : ℕ) → Contains c.basic (Finite u) → IsOpen c.basic u
  finite_open u there = record {
    no_variable = λ r said. not_equal (one_each c.basic reduced.solved.ascending (VarVar u r) (Finite u) said there refl);
    no_term = λ s xs said. not_term (one_each c.basic reduced.solved.ascending (VarTerm u s xs) (Finite u) said there refl);
  }
    where
      not_equal : {r : ℕ} → ¬ (VarVar u r ≡ Finite u)
      not_equal = λ e. cc e

      not_term : {s : Symbol} {xs : List ℕ} → ¬ (VarTerm u s xs ≡ Finite u)
      not_term = λ e. cc e

  below : (atom : Flat) → Contains c.basic atom → variable_of atom < m
  below (VarVar u r) there = (All-contains (AtomOver m) c.basic (VarVar u r) reduced.well_numbered.basic there).0
  below (VarTerm u s xs) there = (All-contains (AtomOver m) c.basic (VarTerm u s xs) reduced.well_numbered.basic there).0
  below (Finite u) there = All-contains (AtomOver m) c.basic (Finite u) reduced.well_numbered.basic there

  is_finite : (u : ℕ) → Contains c.basic (Finite u) → IsFinite (d u).graph
  is_finite u there =
      let w = below (Finite u) there in
      let marked : list_any (marks u) c.basic ≡ true = any_in (marks u) c.basic (Finite u) there (eq-eqb u u refl) in
      let node = open_node u w (finite_open u there) ∙ ap (λ b. Some (term (Further (index c used u)) (map place (cond b [] (u ∷ []))))) marked in
      finite_same (constant σ (index c used u)).graph (d u).graph
      (λ path. sym (reads u w path ∙ reads_constant σ a.nodes (place u) (index c used u) node path)) (constant_finite σ (index c used u))

  is_infinite : (v : ℕ) → v < m → IsOpen c.basic v → ¬ Contains c.basic (Finite v) → ¬ IsFinite (d v).graph
  is_infinite v w bare unmarked = λ finite.
      let none : list_any (marks v) c.basic ≡ false = none_in (marks v) c.basic not_marked in
      let node = open_node v w bare ∙ ap (λ b. Some (term (Further (index c used v)) (map place (cond b [] (v ∷ []))))) none in
      loop_infinite σ (index c used v) (finite_same (d v).graph (loop σ (index c used v)).graph
      (λ path. reads v w path ∙ reads_loop σ a.nodes (place v) (index c used v) node path) finite)
    where
      not_marked : (x : Flat) → Contains c.basic x → marks v x ≡ true → ⊥
      not_marked (VarVar u r) there t = false≢true t
      not_marked (VarTerm u s xs) there t = false≢true t
      not_marked (Finite u) there t = unmarked (subst (λ (n : ℕ). Contains c.basic (Finite n)) (eqb-true u v t) there)

  holds : BasicHolds d c.basic
  holds = all_hold d c.basic atom_holds
    where
      atom_holds : (atom : Flat) → Contains c.basic atom → AtomHolds d atom
      atom_holds (VarVar u r) there = solves (equals_variable u r) (variable_stands c.basic u r there)
      atom_holds (VarTerm u s xs) there = solves (equals_term u s xs) (term_stands c.basic u s xs there)
      atom_holds (Finite u) there = is_finite u there

  has_fresh : IndexesAreUsed c used → HasFreshValues c d (index c used)
  has_fresh are_used = record {
    root = λ v w bare. (
      length (map place (cond (list_any (marks v) c.basic) [] (v ∷ []))),
      reads v w [] ∙ ap (option_map {T = Node} {U = Symbol × ℕ} (λ node. (node.symbol, length node.children))) (open_node v w bare),
    );
    endless = is_infinite;
    own = λ v w low bare low_w bare_w same. indexes_fresh.apart c used v w (tells_open c v low bare) (tells_open c w low_w bare_w) same;
    unused = λ v n low bare stands. indexes_fresh.new c used v (tells_open c v low bare) (are_used (index c used v) n stands);
  }

  root_is : (v : ℕ) → v < c.free → slice_index a.roots v ≡ place v
  root_is v w =
      let first : 0 + v ≡ v = omega arith in
      ap (λ l. slice_index l v) (fresh.roots ∙ map_twice (place_of fresh.order) (representative c.basic) (range_with_len 0 c.free))
      ∙ get_or-map-range_with_len place 0 c.free v v 0 w first

  extends : (e : Valuation σ) → HasTreesOf a e → Extends c.free e d
  extends e trees v w path =
      let low : v < m = omega arith in
      reads v low path ∙ sym (trees v (omega (arith, w, root_count c used a fresh)) path ∙ ap (λ root. read a.nodes root path) (root_is v w))

pub holds_under_fresh : HoldsUnderFresh
holds_under_fresh σ c used a e reduced are_used fits fresh trees =
    some (d σ c used a reduced fits fresh) (
      extends σ c used a reduced fits fresh e trees,
      holds σ c used a reduced fits fresh,
      fresh_values_fail σ c (d σ c used a reduced fits fresh) (index c used) reduced (holds σ c used a reduced fits fresh) (has_fresh σ c used a reduced fits fresh are_used),
    )
