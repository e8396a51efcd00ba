-- Indexes of further symbols.
use Rattle.std.proofs.Common.{◌≡◌, ℕ, zero, suc, ◌<◌, ◌≤◌, List, [], ◌∷◌, length, refl, sym, ap, ◌∙◌, arith, Some, None, inl, inr}
use Rattle.std.specs.Prelude.{Option, slice_index, option_and_then, Contains}
use Rattle.std.proofs.lemmas.Option.{some_pair_parts}
use Rattle.classical.proofs.Stable.{◌>>=◌}
use Rattle.tree_model.specs.declared.tree.Node.{Node}
use Rattle.tree_model.specs.declared.tree.Symbol.{Symbol}
use Rattle.tree_model.specs.declared.tree.Symbol.TheVariants.{Named, Further}
use Rattle.tree_model.specs.Graphs.{Graph}
use Rattle.tree_model.specs.OneNode.{constant, loop}
use Rattle.tree_model.specs.Signatures.{Signature}
use Rattle.tree_model.specs.Trees.{at, read, label_at, child_of}
use Rattle.tree_facts.specs.Indexes.{above_index, above_indexes, above_trees}
use Rattle.tree_facts.specs.IndexLaws.{ReadIndexIsBelow, UnusedIndex, ConstantIsApplied, ConstantIsFinite, LoopIsApplied, LoopIsInfinite, ConstantsDiffer, HasSolutionOfConstants}
use Rattle.tree_facts.proofs.Existence.{has_solution}
use Rattle.tree_facts.proofs.Finite.{node_finite, own_subtree_infinite}
use Rattle.tree_facts.proofs.Members.{contains_cases}

-- the index of a further symbol that is read
abbrev index_of : Option (Symbol × ℕ) → ℕ
index_of None = 0
index_of (Some (Named place, n)) = 0
index_of (Some (Further k, n)) = k

label_below : (nodes : List Node) (place k n : ℕ) → label_at nodes place ≡ Some (Further k, n) → k < above_indexes nodes
label_below [] place k n e = absurd (cc e)
label_below (node ∷ nodes) zero k n e =
    let (symbol, count) = some_pair_parts node.symbol (Further k) (length node.children) n e in
    let a : above_index node.symbol ≡ suc k = ap above_index symbol in
    omega (arith, a)
label_below (node ∷ nodes) (suc place) k n e = omega (arith, label_below nodes place k n e)

on_from : (nodes : List Node) (k n : ℕ) (path : List ℕ) → ((place : ℕ) → read nodes place path ≡ Some (Further k, n) → k < above_indexes nodes)
    → (o : Option ℕ) → option_and_then {T = ℕ} {U = Symbol × ℕ} (λ child. read nodes child path) o ≡ Some (Further k, n) → k < above_indexes nodes
on_from nodes k n path below None e = absurd (cc e)
on_from nodes k n path below (Some child) e = below child e

read_below : (nodes : List Node) (k n : ℕ) (path : List ℕ) (place : ℕ) → read nodes place path ≡ Some (Further k, n) → k < above_indexes nodes
read_below nodes k n [] place e = label_below nodes place k n e
read_below nodes k n (i ∷ path) place e = on_from nodes k n path (read_below nodes k n path) (child_of nodes place i) e

pub read_index_below : ReadIndexIsBelow
read_index_below t k le reads = do
  (path, more) ← reads
  (n, e) ← more
  omega (arith, read_below t.nodes k n path t.root e)

above_each : (ts : List Graph) (t : Graph) → Contains ts t → above_indexes t.nodes ≤ above_trees ts
above_each [] t inside = absurd (omega (arith, inside.1))
above_each (u ∷ ts) t inside = elim (contains_cases u t ts inside) [
  | inl e ↦ let same : above_indexes u.nodes ≡ above_indexes t.nodes = ap (λ g. above_indexes g.nodes) e in omega (arith, same)
  | inr more ↦ omega (arith, above_each ts t more)
]

pub unused_index : UnusedIndex
unused_index ts t k inside le = read_index_below t k (omega (arith, above_each ts t inside))

pub constant_applied : ConstantIsApplied
constant_applied σ e v k alike = record { root = alike []; child = λ i w. absurd (omega arith) }

pub constant_finite : ConstantIsFinite
constant_finite σ k = node_finite (constant σ k).graph (Further k) 0 (λ i. (constant σ k).graph) refl (λ i w. absurd (omega arith)) (λ i w. absurd (omega arith))

-- each child of the loop is the loop
loop_child : (σ : Signature) (k : ℕ) (path : List ℕ) → at (loop σ k).graph (0 ∷ path) ≡ at (loop σ k).graph path
loop_child σ k path = refl

first_only : (e : ℕ → List ℕ → Option (Symbol × ℕ)) (v : ℕ) (i : ℕ) → i < 1 → (path : List ℕ) → e v (0 ∷ path) ≡ e v path → e v (i ∷ path) ≡ e (slice_index (v ∷ []) i) path
first_only e v zero w path same = same
first_only e v (suc i) w path same = absurd (omega arith)

pub loop_applied : LoopIsApplied
loop_applied σ e v k alike = record {
  root = alike [];
  child = λ i w path. first_only (λ u. at (e u).graph) v i w path (alike (0 ∷ path) ∙ loop_child σ k path ∙ sym (alike path));
}

pub loop_infinite : LoopIsInfinite
loop_infinite σ k = own_subtree_infinite (loop σ k).graph (0 ∷ []) (loop σ k).in_range (omega arith) (loop_child σ k)

pub constants_differ : ConstantsDiffer
constants_differ σ j k alike = ap index_of (alike [])

pub solution_of_constants : HasSolutionOfConstants
solution_of_constants σ system = has_solution σ system (λ v. constant σ 0)
