-- Node tables as solutions of equations.
use Rattle.std.specs.Prelude.{◌≡◌, ℕ, List, map, slice_get, Some}
use Rattle.tree_model.specs.declared.tree.Node.{Node}
use Rattle.tree_model.specs.Graphs.{IsInRange}
use Rattle.tree_model.specs.Signatures.{Signature, Fits}
use Rattle.tree_model.specs.Trees.{read, at}
use Rattle.tree_model.specs.Valuations.{Valuation}
use Rattle.tree_facts.specs.Equations.{Equation, equals_variable, equals_term}

-- A table with a place for each variable meets an equation: equal variables have one place, and at the place of a
-- variable that equals a term stands a node with the term's symbol, whose children are the places of the arguments.
abbrev pub Meets : List Node → (ℕ → ℕ) → Equation → Type 0
Meets nodes place (equals_variable u r) = place u ≡ place r
Meets nodes place (equals_term u symbol arguments) =
    slice_get nodes (place u) ≡ Some (record { symbol = symbol; children = map place arguments })

-- the value of the variable is the tree that the table has at the variable's place
abbrev pub IsReadFrom : {σ : Signature} → List Node → (ℕ → ℕ) → Valuation σ → ℕ → Type 0
IsReadFrom nodes place e v = (path : List ℕ) → at (e v).graph path ≡ read nodes (place v) path

-- for each variable the tree that the table has at its place
abbrev pub table_values : (σ : Signature) (nodes : List Node) (place : ℕ → ℕ) → ((v : ℕ) → IsInRange nodes (place v)) → Fits σ nodes → Valuation σ
table_values σ nodes place in_range fits v = record {
  graph = record { nodes = nodes; root = place v };
  in_range = in_range v;
  fits = fits;
}
