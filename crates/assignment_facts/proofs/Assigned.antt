-- The formula of an assignment holds exactly under its trees.
use Rattle.std.proofs.Common.{◌≡◌, ◌⊎◌, inl, inr, ◌↔◌, ℕ, zero, suc, ◌+◌, ◌<◌, ◌≤◌, Bool, true, false, cond, eqb, List, [], ◌∷◌, ◌++◌, length, slice_get, slice_index, Option, Some, None, All, refl, sym, ap, ◌∙◌, subst, arith}
use Rattle.std.specs.Prelude.{option_map, option_and_then}
use Rattle.std.specs.List.{range_with_len}
use Rattle.std.proofs.lemmas.Bool.{eqb-true, eqb-false, ne_eqb}
use Rattle.std.proofs.lemmas.List.Elements.{All-get_or}
use Rattle.std.proofs.lemmas.Option.{slice_get_cases, slice_get-get_or, slice_get_within, slice_get_past, get_or_from_slice_get, same_Some}
use Rattle.classical.specs.Classical.{Exists}
use Rattle.classical.proofs.Stable.{into, all_stable}
use Rattle.tree_model.specs.declared.tree.Node.{Node}
use Rattle.tree_model.specs.declared.tree.Symbol.{Symbol}
use Rattle.tree_model.specs.Graphs.{Forest, ChildrenBelow, AreInRange, tree_of}
use Rattle.tree_model.specs.Signatures.{Signature, TreeOver, Fits, Alike}
use Rattle.tree_model.specs.Trees.{at, read, label_at, child_of, Same}
use Rattle.tree_model.specs.Valuations.{Valuation, update}
use Rattle.tree_facts.specs.Equations.{IsApplied}
use Rattle.tree_facts.proofs.Equations.{at_past, within_or_past}
use Rattle.formula_ast.specs.declared.pred.Pred.{Pred}
use Rattle.formula_ast.specs.Forms.{Form, exists}
use Rattle.formula_ast.specs.Satisfaction.{Relations, Holds, meaning_of}
use Rattle.formula_ast.proofs.Stable.{read_stable}
use Rattle.form_facts.proofs.Sameness.{holds_alike}
use Rattle.flat_form.specs.declared.atom.Flat.TheVariants.{VarVar, VarTerm}
use Rattle.explicit_form.proofs.Means.{AllOf, conjunction_to, conjunction_from, all_both, all_parts, atom_to, atom_from}
use Rattle.formula_grammar.specs.Meaning.{behind}
use Rattle.formula_printer.specs.Bound.{conjunction}
use Rattle.formula_printer.specs.Assignments.{node_equations, root_equations, equations_of, assignment_form}
use Rattle.assignment_facts.specs.Trees.{HasTrees, AssignmentsSayTheirTrees}

module _ {σ : Signature} (ρ : Relations σ) where
  -- ---- quantifiers for the n variables from k on

  -- d and e agree on all other variables
  abbrev AgreeBeside : ℕ → ℕ → Valuation σ → Valuation σ → Type 0
  AgreeBeside k n d e = (v : ℕ) → (v < k) ⊎ (k + n ≤ v) → Alike (d v) (e v)

  beside_other : (k n v : ℕ) → (v < k + 1) ⊎ (k + 1 + n ≤ v) → (k ≡ v → ⊥) → (v < k) ⊎ (k + suc n ≤ v)
  beside_other k n v (inl below) other = inl (omega (arith, below, other))
  beside_other k n v (inr past) other = inr (omega (arith, past))

  agree_more : (k n : ℕ) (d e : Valuation σ) → AgreeBeside k (suc n) d e → AgreeBeside (k + 1) n d (update e k (d k))
  agree_more k n d e agree v where_v = by (eqb k v) refl
    where
      by : (b : Bool) → eqb k v ≡ b → Alike {σ = σ} (d v) (cond b (d k) (e v))
      by true is = λ path. ap (λ x. at (d x).graph path) (sym (eqb-true k v is))
      by false is = agree v (beside_other k n v where_v (eqb-false k v is))

  exist_to : (n k : ℕ) (f : Form) (e d : Valuation σ) → AgreeBeside k n d e → Holds σ ρ f d → Holds σ ρ (behind exists (range_with_len k n) f) e
  exist_to zero k f e d agree holds = holds_alike ρ f d e (λ v free. agree v (elim (within_or_past v k) [ inl w ↦ inl w | inr w ↦ inr (omega (arith, w)) ])) holds
  exist_to (suc n) k f e d agree holds = λ out. out (d k, exist_to n (k + 1) f (update e k (d k)) d (agree_more k n d e agree) holds)

  agree_less : (k n : ℕ) (e : Valuation σ) (t : TreeOver σ) (d : Valuation σ) → AgreeBeside (k + 1) n d (update e k t) → AgreeBeside k (suc n) d e
  agree_less k n e t d agree v where_v =
      let other : k ≡ v → ⊥ = elim where_v [ inl w ↦ (λ same. omega (arith, w, same)) | inr w ↦ (λ same. omega (arith, w, same)) ] in
      λ path. agree v (elim where_v [ inl w ↦ inl (omega (arith, w)) | inr w ↦ inr (omega (arith, w)) ]) path ∙ ap (λ b. at (cond b t (e v)).graph path) (ne_eqb k v other)

  exist_from : (n k : ℕ) (f : Form) (e : Valuation σ) → Holds σ ρ (behind exists (range_with_len k n) f) e → Exists (λ (d : Valuation σ). AgreeBeside k n d e × Holds σ ρ f d)
  exist_from zero k f e holds = λ out. out (e, ((λ v w path. refl), holds))
  exist_from (suc n) k f e holds = λ out. holds (λ (t, there). exist_from n (k + 1) f (update e k t) there (λ (d, (agree, inner)). out (d, (agree_less k n e t d agree, inner))))

  -- ---- the equations of nodes and of roots

  -- each node's equation holds, where the first of these has number i
  abbrev NodesHold : Valuation σ → ℕ → List Node → Type 0
  NodesHold d i nodes = (j : ℕ) (node : Node) → slice_get nodes j ≡ Some node → IsApplied d (i + j) node.symbol node.children

  nodes_from : (d : Valuation σ) (i : ℕ) (nodes : List Node) → AllOf ρ (node_equations i nodes) d → NodesHold d i nodes
  nodes_from d i [] all j node got = absurd (omega (arith, slice_get_within [] j node got))
  nodes_from d i (first ∷ rest) all zero node got =
      subst (λ (k : ℕ). IsApplied d k node.symbol node.children) (omega arith)
      (subst (λ (x : Node). IsApplied d i x.symbol x.children) (same_Some first node got) (atom_from ρ (VarTerm i first.symbol first.children) d all.0))
  nodes_from d i (first ∷ rest) all (suc j) node got =
      subst (λ (k : ℕ). IsApplied d k node.symbol node.children) (omega arith) (nodes_from d (suc i) rest all.1 j node got)

  nodes_to : (d : Valuation σ) (i : ℕ) (nodes : List Node) → NodesHold d i nodes → AllOf ρ (node_equations i nodes) d
  nodes_to d i [] hold = tt
  nodes_to d i (first ∷ rest) hold = (
    atom_to ρ (VarTerm i first.symbol first.children) d (subst (λ (k : ℕ). IsApplied d k first.symbol first.children) (omega arith) (hold 0 first refl)),
    nodes_to d (suc i) rest (λ j node got. subst (λ (k : ℕ). IsApplied d k node.symbol node.children) (omega arith) (hold (suc j) node got)),
  )

  abbrev RootsHold : Valuation σ → ℕ → List ℕ → Type 0
  RootsHold d i roots = (j : ℕ) → j < length roots → Alike (d (i + j)) (d (slice_index roots j))

  roots_from : (d : Valuation σ) (i : ℕ) (roots : List ℕ) → AllOf ρ (root_equations i roots) d → RootsHold d i roots
  roots_from d i [] all j within = absurd (omega (arith, within))
  roots_from d i (root ∷ rest) all zero within =
      subst (λ (k : ℕ). Alike (d k) (d root)) (omega arith) (atom_from ρ (VarVar i root) d all.0)
  roots_from d i (root ∷ rest) all (suc j) within =
      subst (λ (k : ℕ). Alike (d k) (d (slice_index rest j))) (omega arith) (roots_from d (suc i) rest all.1 j (omega (arith, within)))

  roots_to : (d : Valuation σ) (i : ℕ) (roots : List ℕ) → RootsHold d i roots → AllOf ρ (root_equations i roots) d
  roots_to d i [] hold = tt
  roots_to d i (root ∷ rest) hold = (
    atom_to ρ (VarVar i root) d (subst (λ (k : ℕ). Alike (d k) (d root)) (omega arith) (hold 0 (omega arith))),
    roots_to d (suc i) rest (λ j within. subst (λ (k : ℕ). Alike (d k) (d (slice_index rest j))) (omega arith) (hold (suc j) (omega (arith, within)))),
  )

-- ---- a node's equation, and what is read from it

some_node : (nodes : List Node) (j : ℕ) → j < length nodes → (node : Node) × (slice_get nodes j ≡ Some node)
some_node nodes j within = elim (slice_get_cases nodes j).1 [
  | inl (node, w, got, at) ↦ (node, got)
  | inr (past, none) ↦ absurd (omega (arith, within, past))
]

module _ (nodes : List Node) (j : ℕ) (node : Node) (got : slice_get nodes j ≡ Some node) where
  read_root : read nodes j [] ≡ Some (node.symbol, length node.children)
  read_root = ap (λ o. option_map {T = Node} {U = Symbol × ℕ} (λ n. (n.symbol, length n.children)) o) got

  read_child : (i : ℕ) (path : List ℕ) → i < length node.children → read nodes j (i ∷ path) ≡ read nodes (slice_index node.children i) path
  read_child i path within =
      ap (λ o. option_and_then {T = ℕ} {U = Symbol × ℕ} (λ child. read nodes child path) o)
      (ap (λ o. option_and_then {T = Node} {U = ℕ} (λ n. slice_get n.children i) o) got ∙ slice_get-get_or node.children i 0 within)

  read_past : (i : ℕ) (path : List ℕ) → length node.children ≤ i → read nodes j (i ∷ path) ≡ None
  read_past i path past =
      ap (λ o. option_and_then {T = ℕ} {U = Symbol × ℕ} (λ child. read nodes child path) o)
      (ap (λ o. option_and_then {T = Node} {U = ℕ} (λ n. slice_get n.children i) o) got ∙ slice_get_past node.children i past)

module _ {σ : Signature} (preds : List Pred) (a : Forest) (e : Valuation σ) (in_range : AreInRange a.nodes a.roots) (fits : Fits σ a.nodes) where
  abbrev ρ : Relations σ
  ρ = meaning_of σ preds

  abbrev n : ℕ
  n = length a.nodes

  child_within : (j : ℕ) (node : Node) → slice_get a.nodes j ≡ Some node → (i : ℕ) → i < length node.children → slice_index node.children i < n
  child_within j node got i within =
      All-get_or (λ child. child < n) node.children i 0 within
      (subst (λ (x : Node). ChildrenBelow n x) (get_or_from_slice_get a.nodes j node node got) (All-get_or (ChildrenBelow n) a.nodes j node (slice_get_within a.nodes j node got) in_range.children))

  applied : (d : Valuation σ) → NodesHold ρ d 0 a.nodes → (j : ℕ) (node : Node) → slice_get a.nodes j ≡ Some node → IsApplied d j node.symbol node.children
  applied d hold j node got = subst (λ (k : ℕ). IsApplied d k node.symbol node.children) (omega arith) (hold j node got)

  -- where each node's equation holds, its value is its tree
  follow : (d : Valuation σ) → NodesHold ρ d 0 a.nodes → (path : List ℕ) (j : ℕ) → j < n → at (d j).graph path ≡ read a.nodes j path
  follow d hold [] j within =
      let (node, got) = some_node a.nodes j within in
      (applied d hold j node got).root ∙ sym (read_root a.nodes j node got)
  follow d hold (i ∷ path) j within =
      let (node, got) = some_node a.nodes j within in
      elim (within_or_past i (length node.children)) [
        | inl w ↦ (applied d hold j node got).child i w path ∙ follow d hold path (slice_index node.children i) (child_within j node got i w) ∙ sym (read_child a.nodes j node got i path w)
        | inr w ↦ at_past (d j).graph node.symbol (length node.children) i path (applied d hold j node got).root w ∙ sym (read_past a.nodes j node got i path w)
      ]

  root_within : (i : ℕ) → i < length a.roots → slice_index a.roots i < n
  root_within i within = All-get_or (λ root. root < n) a.roots i 0 within in_range.roots_within

  said : Holds σ ρ (assignment_form a) e → HasTrees a e
  said holds i within =
      into (all_stable (λ path. read_stable (at (e (n + i)).graph path) (at (tree_of a i) path))) (exist_from ρ n 0 (conjunction (equations_of a)) e holds)
      (λ (d, (agree, body)) path.
      let all = all_parts ρ (node_equations 0 a.nodes) (root_equations n a.roots) d (conjunction_from ρ (equations_of a) d body) in
      sym (agree (n + i) (inr (omega arith)) path) ∙ roots_from ρ d n a.roots all.1 i within path
      ∙ follow d (nodes_from ρ d 0 a.nodes all.0) path (slice_index a.roots i) (root_within i within))

  -- ---- the nodes' trees as values

  chosen : (v : ℕ) → (v < n) ⊎ (n ≤ v) → TreeOver σ
  chosen v (inl within) = record { graph = record { nodes = a.nodes; root = v }; in_range = record { children = in_range.children; root_within = within }; fits = fits }
  chosen v (inr past) = e v

  values : Valuation σ
  values v = chosen v (within_or_past v n)

  at_node : (v : ℕ) → v < n → (path : List ℕ) → at (values v).graph path ≡ read a.nodes v path
  unfolding chosen values
  at_node v within path = by (within_or_past v n)
    where
      by : (w : (v < n) ⊎ (n ≤ v)) → at (chosen v w).graph path ≡ read a.nodes v path
      by (inl w) = refl
      by (inr w) = absurd (omega (arith, within, w))

  beside : AgreeBeside ρ 0 n values e
  unfolding chosen values
  beside v (inl below) = absurd (omega (arith, below))
  beside v (inr past) = by (within_or_past v n)
    where
      by : (w : (v < n) ⊎ (n ≤ v)) → Alike {σ = σ} (chosen v w) (e v)
      by (inl w) = absurd (omega (arith, past, w))
      by (inr w) = λ path. refl

  nodes_hold : NodesHold ρ values 0 a.nodes
  nodes_hold j node got =
      let within : j < n = slice_get_within a.nodes j node got in
      subst (λ (k : ℕ). IsApplied values k node.symbol node.children) (omega arith) record {
        root = at_node j within [] ∙ read_root a.nodes j node got;
        child = λ i w path. at_node j within (i ∷ path) ∙ read_child a.nodes j node got i path w
            ∙ sym (at_node (slice_index node.children i) (child_within j node got i w) path);
      }

  roots_hold : HasTrees a e → RootsHold ρ values n a.roots
  roots_hold trees i within path =
      beside (n + i) (inr (omega arith)) path ∙ trees i within path ∙ sym (at_node (slice_index a.roots i) (root_within i within) path)

  shown : HasTrees a e → Holds σ ρ (assignment_form a) e
  shown trees =
      exist_to ρ n 0 (conjunction (equations_of a)) e values beside
      (conjunction_to ρ (equations_of a) values
      (all_both ρ (node_equations 0 a.nodes) (root_equations n a.roots) values (nodes_to ρ values 0 a.nodes nodes_hold) (roots_to ρ values n a.roots (roots_hold trees))))

pub say_their_trees : AssignmentsSayTheirTrees
say_their_trees σ preds a e in_range fits = (said preds a e in_range fits, shown preds a e in_range fits)
