-- When equations hold.
use Rattle.std.proofs.Common.{◌≡◌, ℕ, ◌<◌, ◌≤◌, List, ◌∷◌, [], length, refl, sym, ◌∙◌, ap, arith, Some, None, ◌⊎◌, inl, inr}
use Rattle.std.specs.Prelude.{Option, slice_get, slice_index, option_and_then, option_map}
use Rattle.std.proofs.lemmas.Option.{slice_get_past, some_pair_parts}
use Rattle.tree_model.specs.declared.tree.Node.{Node}
use Rattle.tree_model.specs.declared.tree.Symbol.{Symbol}
use Rattle.tree_model.specs.Graphs.{Graph}
use Rattle.tree_model.specs.Trees.{at}
use Rattle.tree_model.proofs.Stability.{read_stable, same_stable}
use Rattle.tree_facts.specs.Equations.{equals_variable, equals_term}
use Rattle.tree_facts.specs.Laws.{EquationIsStable, EquationReadsItsVariables, EqualTermsDecompose, EqualArgumentsCompose}
use Rattle.tree_facts.proofs.Members.{contains_first, argument_occurs}

pub equation_stable : EquationIsStable
equation_stable σ e (equals_variable u r) = same_stable (e u).graph (e r).graph
equation_stable σ e (equals_term u s xs) = record {
  holds = λ k. record {
    root = (read_stable _ _).holds (λ n. k (λ h. n h.root));
    child = λ i w path. (read_stable _ _).holds (λ n. k (λ h. n (h.child i w path)));
  };
}

pub equation_moves : EquationReadsItsVariables
equation_moves σ d e (equals_variable u r) alike holds = λ path.
    sym (alike u (contains_first u (r ∷ [])) path) ∙ holds path ∙ alike r (argument_occurs u (r ∷ []) 0 (omega arith)) path
equation_moves σ d e (equals_term u s xs) alike holds = record {
  root = sym (alike u (contains_first u xs) []) ∙ holds.root;
  child = λ i w path. sym (alike u (contains_first u xs) (i ∷ path)) ∙ holds.child i w path ∙ alike (slice_index xs i) (argument_occurs u xs i w) path;
}

past : (o : Option Node) (f : ℕ → Option (Symbol × ℕ)) (s : Symbol) (n i : ℕ)
    → option_map {T = Node} {U = Symbol × ℕ} (λ node. (node.symbol, length node.children)) o ≡ Some (s, n) → n ≤ i
    → option_and_then {T = ℕ} {U = Symbol × ℕ} f (option_and_then {T = Node} {U = ℕ} (λ node. slice_get node.children i) o) ≡ None
past None f s n i e le = refl
past (Some node) f s n i e le =
    let (_, k) = some_pair_parts node.symbol s (length node.children) n e in
    rw (slice_get_past node.children i (omega (arith, k))) refl

-- past the last child nothing is read
pub at_past : (t : Graph) (s : Symbol) (n i : ℕ) (path : List ℕ) → at t [] ≡ Some (s, n) → n ≤ i → at t (i ∷ path) ≡ None
at_past t s n i path e le = past (slice_get t.nodes t.root) (λ child. at (record { nodes = t.nodes; root = child }) path) s n i e le

pub within_or_past : (i n : ℕ) → (i < n) ⊎ (n ≤ i)
within_or_past i n = grind arith

pub terms_decompose : EqualTermsDecompose
terms_decompose σ d e u v s t xs ys left right alike =
    let (symbols, counts) = some_pair_parts s t (length xs) (length ys) (sym left.root ∙ alike [] ∙ right.root) in
    (symbols, counts, λ i w path. sym (left.child i w path) ∙ alike (i ∷ path) ∙ right.child i (omega (arith, counts)) path)

pub arguments_compose : EqualArgumentsCompose
arguments_compose σ d e u v s xs ys left right counts alike [] = left.root ∙ ap (λ n. Some (s, n)) counts ∙ sym right.root
arguments_compose σ d e u v s xs ys left right counts alike (i ∷ path) = elim (within_or_past i (length xs)) [
  | inl w ↦ left.child i w path ∙ alike i w path ∙ sym (right.child i (omega (arith, counts)) path)
  | inr w ↦ at_past (d u).graph s (length xs) i path left.root w ∙ sym (at_past (e v).graph s (length ys) i path right.root (omega (arith, counts)))
]
