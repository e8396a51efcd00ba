-- The places of a list of nodes at which a finite tree stands.
use Rattle.std.proofs.Common.{◌≡◌, ℕ, zero, suc, ◌<◌, ◌++◌, List, [], ◌∷◌, length, refl, sym, ap, ◌∙◌, subst, arith, Some, None, ◌⊎◌, inl, inr}
use Rattle.std.specs.Prelude.{Option, slice_get, slice_index, get_or, option_and_then, option_map, All, Contains, IsSome}
use Rattle.std.proofs.lemmas.Option.{slice_get-get_or, slice_get_within, get_or_from_slice_get}
use Rattle.classical.specs.Classical.{Either}
use Rattle.classical.proofs.Stable.{◌>>=◌, right}
use Rattle.tree_model.specs.declared.tree.Node.{Node}
use Rattle.tree_model.specs.declared.tree.Symbol.{Symbol}
use Rattle.tree_model.specs.Graphs.{Graph, IsInRange, ChildrenBelow}
use Rattle.tree_model.specs.Trees.{at, read, label_at, child_of, IsFinite}
use Rattle.tree_facts.specs.FiniteLaws.{IsSubtree, NodeIsFiniteWhereChildrenAre, NoneIsFiniteWhereEachGoesOn, FiniteIsGrounded, FiniteWhereNoWalkComesRound}
use Rattle.tree_facts.specs.Walks.{Descends, to_child, through_child, IsGrounded, grounded, Branches}
use Rattle.tree_facts.proofs.Finite.{read_moves, subtree_finite, own_subtree_infinite, node_finite}
use Rattle.tree_facts.proofs.NoRound.{none_comes_round}
use Rattle.tree_facts.proofs.SideBySide.{bare}

label_some : (o : Option Node) (i child : ℕ) → option_and_then {T = Node} {U = ℕ} (λ node. slice_get node.children i) o ≡ Some child
    → IsSome (option_map {T = Node} {U = Symbol × ℕ} (λ node. (node.symbol, length node.children)) o)
label_some None i child e = absurd (cc e)
label_some (Some node) i child e = refl

child_low : (n i child : ℕ) (o : Option Node) → ((node : Node) → o ≡ Some node → ChildrenBelow n node)
    → option_and_then {T = Node} {U = ℕ} (λ node. slice_get node.children i) o ≡ Some child → child < n
child_low n i child None below e = absurd (cc e)
child_low n i child (Some node) below e =
    subst (λ z. z < n) (get_or_from_slice_get node.children i child 0 e) (below node refl i 0 (slice_get_within node.children i child e))

module _ (nodes : List Node) where
  abbrev graph_at : ℕ → Graph
  graph_at place = record { nodes = nodes; root = place }

  -- a child stands at its number
  pub child_reads : (place i child : ℕ) → child_of nodes place i ≡ Some child → IsSubtree (graph_at place) (i ∷ []) (graph_at child)
  child_reads place i child e more = rw e refl

  -- what stands at a place of the list
  abbrev node : ℕ → Node
  node place = get_or nodes place bare

  pub here_read : (place : ℕ) → place < length nodes → label_at nodes place ≡ Some ((node place).symbol, length (node place).children)
  here_read place w = rw (slice_get-get_or nodes place bare w) refl

  pub child_is : (place i : ℕ) → place < length nodes → i < length (node place).children
      → child_of nodes place i ≡ Some (slice_index (node place).children i)
  child_is place i w b = rw (slice_get-get_or nodes place bare w) (slice_get-get_or (node place).children i 0 b)

  below_read : (place : ℕ) → place < length nodes → (i : ℕ) → i < length (node place).children → (path : List ℕ)
      → at (graph_at place) (i ∷ path) ≡ at (graph_at (slice_index (node place).children i)) path
  below_read place w i b path = child_reads place i (slice_index (node place).children i) (child_is place i w b) path

  pub finite_by_children : (place : ℕ) → place < length nodes → ((i child : ℕ) → child_of nodes place i ≡ Some child → IsFinite (graph_at child))
      → IsFinite (graph_at place)
  finite_by_children place w all = node_finite (graph_at place) (node place).symbol (length (node place).children)
      (λ i. graph_at (slice_index (node place).children i)) (here_read place w) (below_read place w)
      (λ i b. all i (slice_index (node place).children i) (child_is place i w b))

  -- a path of each length from a place of a set in which each has a child
  path_of : (some : List ℕ)
      → ((place : ℕ) → Contains some place → (i : ℕ) × (child : ℕ) × (child_of nodes place i ≡ Some child) × Contains some child)
      → (n place : ℕ) → Contains some place → (path : List ℕ) × (length path ≡ n) × IsSome (read nodes place path)
  path_of some on zero place inside = let (i, child, e, more) = on place inside in ([], refl, label_some (slice_get nodes place) i child e)
  path_of some on (suc n) place inside =
      let (i, child, e, more) = on place inside in
      let (path, long, reads) = path_of some on n child more in
      (i ∷ path, ap suc long, read_moves (read nodes child path) (read nodes place (i ∷ path)) (sym (child_reads place i child e path)) reads)

  module _ (all : All (ChildrenBelow (length nodes)) nodes) where
    pub child_within : (place i child : ℕ) → child_of nodes place i ≡ Some child → child < length nodes
    child_within place i child e = child_low (length nodes) i child (slice_get nodes place)
        (λ n s. subst (ChildrenBelow (length nodes)) (get_or_from_slice_get nodes place n n s) (all place n (slice_get_within nodes place n s))) e

    grounded_by : (n place : ℕ) → place < length nodes → ((path : List ℕ) → IsSome (read nodes place path) → length path < n) → IsGrounded nodes place
    grounded_by zero place w bound =
        absurd (omega (arith, bound [] (read_moves (Some ((node place).symbol, length (node place).children)) (label_at nodes place) (sym (here_read place w)) refl)))
    grounded_by (suc n) place w bound = grounded place (λ i child e. grounded_by n child (child_within place i child e)
        (λ path some. omega (arith, bound (i ∷ path) (read_moves (read nodes child path) (read nodes place (i ∷ path)) (sym (child_reads place i child e path)) some))))

    finite_grounded : (place : ℕ) → place < length nodes → IsGrounded nodes place → IsFinite (graph_at place)
    finite_grounded place w (grounded p below) =
        finite_by_children place w (λ i child e. finite_grounded child (child_within place i child e) (below i child e))

    descends_within : (place w : ℕ) → Descends nodes place w → w < length nodes
    descends_within place w (to_child p i child e) = child_within place i w e
    descends_within place w (through_child p i child q e on) = descends_within child w on

  descends_inside : (place w : ℕ) → Descends nodes place w → (path : List ℕ) × (0 < length path) × IsSubtree (graph_at place) path (graph_at w)
  descends_inside place w (to_child p i child e) = (i ∷ [], omega arith, child_reads place i w e)
  descends_inside place w (through_child p i child q e on) =
      let (path, long, inside) = descends_inside child w on in
      (i ∷ path, omega arith, λ more. child_reads place i child e (path ++ more) ∙ inside more)

  descends_on : (u v w : ℕ) → Descends nodes u v → Descends nodes v w → Descends nodes u w
  descends_on u v w (to_child p i child e) on = through_child u i v w e on
  descends_on u v w (through_child p i child q e more) on = through_child u i child w e (descends_on child v w more on)

pub node_finite_where : NodeIsFiniteWhereChildrenAre
node_finite_where nodes place w = (
  λ finite i child e. subtree_finite (graph_at nodes place) (graph_at nodes child) (i ∷ []) (child_reads nodes place i child e) finite,
  finite_by_children nodes place w,
)

pub none_finite : NoneIsFiniteWhereEachGoesOn
none_finite nodes some on place inside finite = do
  (n, bound) ← finite
  let (path, long, reads) = path_of nodes some on n place inside in omega (arith, bound path reads, long)

pub finite_is_grounded : FiniteIsGrounded
finite_is_grounded nodes place in_range = (
  λ finite none. do
    (n, bound) ← finite
    none (grounded_by nodes in_range.children n place in_range.root_within bound),
  λ some c. do
    g ← some
    finite_grounded nodes in_range.children place in_range.root_within g c,
)

module _ (nodes : List Node) (root : ℕ) (in_range : IsInRange nodes root) where
  abbrev IsMet : ℕ → Type 0
  IsMet place = (root ≡ place) ⊎ Descends nodes root place

  within : (place : ℕ) → IsMet place → place < length nodes
  within place (inl e) = subst (λ z. z < length nodes) e in_range.root_within
  within place (inr d) = descends_within nodes in_range.children root place d

  further : (place i child : ℕ) → child_of nodes place i ≡ Some child → IsMet place → IsMet child
  further place i child e (inl s) = inr (to_child root i child (subst (λ z. child_of nodes z i ≡ Some child) (sym s) e))
  further place i child e (inr d) = inr (descends_on nodes root place child d (to_child place i child e))

  finite_there : (place : ℕ) → IsMet place → IsFinite (graph_at nodes root) → IsFinite (graph_at nodes place)
  finite_there place (inl e) f = subst (λ z. IsFinite (graph_at nodes z)) e f
  finite_there place (inr d) f =
      let (path, long, inside) = descends_inside nodes root place d in subtree_finite (graph_at nodes root) (graph_at nodes place) path inside f

  ends : IsFinite (graph_at nodes root) → (place : ℕ) → IsMet place → ¬ Descends nodes place place
  ends f place met = λ d.
      let (path, long, inside) = descends_inside nodes place place d in
      own_subtree_infinite (graph_at nodes place) path (record { children = in_range.children; root_within = within place met }) long inside (finite_there place met f)

  each : (place : ℕ) → IsMet place → Either (IsFinite (graph_at nodes place)) (Branches (graph_at nodes) IsMet (Descends nodes) place)
  each place met = right (record {
    symbol = (node nodes place).symbol;
    children = (node nodes place).children;
    root = here_read nodes place (within place met);
    child = below_read nodes place (within place met);
    good = λ i b. further place i (slice_index (node nodes place).children i) (child_is nodes place i (within place met) b) met;
    leads = λ i b. to_child place i (slice_index (node nodes place).children i) (child_is nodes place i (within place met) b);
  })

  finite : ((place : ℕ) → IsMet place → ¬ Descends nodes place place) → IsFinite (graph_at nodes root)
  finite no_round = none_comes_round IsMet (Descends nodes) (graph_at nodes) (length nodes) (descends_on nodes) within no_round each root (inl refl)

pub no_walk_comes_round : FiniteWhereNoWalkComesRound
no_walk_comes_round nodes root in_range = (ends nodes root in_range, finite nodes root in_range)
