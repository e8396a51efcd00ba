use Rattle.std.proofs.Common.{◌≡◌, ℕ, List, ◌<◌, ◌≤◌, ◌+◌, length, get_or, drop, refl, sym, subst, ◌∙◌, Some, None}
use Rattle.std.specs.Prelude.{slice_get, option_and_then, All}
use Rattle.std.proofs.lemmas.Option.{slice_get_read, slice_get_past, slice_get_within, get_or_from_slice_get}
use Rattle.std.proofs.lemmas.List.{at_drop_more, drop_all}
use Rattle.tree_model.specs.declared.tree.Node.{Node}
use Rattle.tree_model.specs.declared.tree.Symbol.{Symbol}
use Rattle.tree_model.specs.Graphs.{Graph, ChildrenBelow}
use Rattle.tree_model.specs.Trees.{read, at}

module _ (nodes : List Node) (root place : ℕ) (node : Node) (path : List ℕ) (k : ℕ) (within : place < length nodes)
    (looked : node ≡ get_or nodes place node) (same : read nodes place (drop k path) ≡ read nodes root path) where
  -- one step along a path
  step : k < length path → read nodes root path ≡ option_and_then {T = ℕ} {U = Symbol × ℕ} (λ child. read nodes child (drop (k + 1) path)) (slice_get node.children (get_or path k 0))
  step w = sym same ∙ at_drop_more (read nodes place) path k 0 w ∙ rw (slice_get_read nodes _ place node refl within looked) refl

  pub at_none : (g : Graph) → record { nodes = nodes; root = root } ≡ g → k < length path → length node.children ≤ get_or path k 0 → None ≡ at g path
  at_none g e w past = rw (← e, step w, slice_get_past node.children (get_or path k 0) past) refl

  pub at_some : (g : Graph) → record { nodes = nodes; root = root } ≡ g → length path ≤ k → Some (node.symbol, length node.children) ≡ at g path
  at_some g e w = rw (← e, ← same, drop_all k path w, slice_get_read nodes _ place node refl within looked) refl

  pub goes_on : (child : ℕ) → k < length path → slice_get node.children (get_or path k 0) ≡ Some child
      → read nodes child (drop (k + 1) path) ≡ read nodes root path
  goes_on child w got = sym (step w ∙ rw got refl)

pub child_below : (n : ℕ) (nodes : List Node) (place : ℕ) (node : Node) → place < length nodes → node ≡ get_or nodes place node
    → All (ChildrenBelow n) nodes → (i child : ℕ) → slice_get node.children i ≡ Some child → child < n
child_below n nodes place node within read all i child got =
    let P : Node → Type 0 = ChildrenBelow n in
    let h : ChildrenBelow n node = subst P (sym read) (all place node within) in
    subst (λ x. x < n) (get_or_from_slice_get node.children i child 0 got) (h i 0 (slice_get_within node.children i child got))
