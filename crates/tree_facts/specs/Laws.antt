-- Laws of systems of flat equations among the rational trees.
use Rattle.std.specs.Prelude.{◌≡◌, ℕ, ◌<◌, ◌+◌, List, ◌++◌, length, get_or, slice_index, All, Contains}
use Rattle.classical.specs.Classical.{IsStable}
use Rattle.tree_model.specs.declared.tree.Node.{Node}
use Rattle.tree_model.specs.declared.tree.Symbol.{Symbol}
use Rattle.tree_model.specs.Graphs.{Graph, IsInRange, ChildrenBelow}
use Rattle.tree_model.specs.Signatures.{Signature, Fits, Alike}
use Rattle.tree_model.specs.Trees.{read, at}
use Rattle.tree_model.specs.Valuations.{Valuation}
use Rattle.tree_facts.specs.Equations.{Equation, variables_of, IsApplied, EquationHolds, Solves, SystemFits, IsParameter, HasDistinctLefts}
use Rattle.tree_facts.specs.SideBySide.{IsGraphInRange, beside, merged, merged_root}
use Rattle.tree_facts.specs.Tables.{Meets, IsReadFrom, table_values}

-- an equation that is not ruled out to hold holds
abbrev pub EquationIsStable : Type 0
EquationIsStable = (σ : Signature) (e : Valuation σ) (q : Equation) → IsStable (EquationHolds e q)

-- an equation speaks of its own variables alone, and of their values up to being one tree
abbrev pub EquationReadsItsVariables : Type 0
EquationReadsItsVariables =
    (σ : Signature) (d e : Valuation σ) (q : Equation) → ((v : ℕ) → Contains (variables_of q) v → Alike (d v) (e v))
    → EquationHolds d q → EquationHolds e q

-- terms with one value have one symbol and the same number of arguments, with the same values
abbrev pub EqualTermsDecompose : Type 0
EqualTermsDecompose =
    (σ : Signature) (d e : Valuation σ) (u v : ℕ) (s t : Symbol) (xs ys : List ℕ)
    → IsApplied d u s xs → IsApplied e v t ys → Alike (d u) (e v)
    → (s ≡ t) × (length xs ≡ length ys) × ((i : ℕ) → i < length xs → Alike (d (slice_index xs i)) (e (slice_index ys i)))

-- terms with one symbol and the same number of arguments, with the same values, have one value
abbrev pub EqualArgumentsCompose : Type 0
EqualArgumentsCompose =
    (σ : Signature) (d e : Valuation σ) (u v : ℕ) (s : Symbol) (xs ys : List ℕ)
    → IsApplied d u s xs → IsApplied e v s ys → length xs ≡ length ys
    → ((i : ℕ) → i < length xs → Alike (d (slice_index xs i)) (e (slice_index ys i))) → Alike (d u) (e v)

-- a node table with a place for each variable that meets each equation is a solution
abbrev pub TableIsSolution : Type 0
TableIsSolution =
    (σ : Signature) (nodes : List Node) (place : ℕ → ℕ) (in_range : (v : ℕ) → IsInRange nodes (place v)) (fits : Fits σ nodes) (system : List Equation)
    → ((q : Equation) → Contains system q → Meets nodes place q) → Solves (table_values σ nodes place in_range fits) system

-- a valuation solves the system where the variables' values are read from a table that meets each equation
abbrev pub ReadFromTableSolves : Type 0
ReadFromTableSolves =
    (σ : Signature) (nodes : List Node) (place : ℕ → ℕ) (e : Valuation σ) (system : List Equation)
    → ((q : Equation) → Contains system q → Meets nodes place q)
    → ((q : Equation) → Contains system q → (v : ℕ) → Contains (variables_of q) v → IsReadFrom nodes place e v)
    → Solves e system

-- nodes whose children are among them read the same where further nodes follow
abbrev pub FrontReads : Type 0
FrontReads =
    (xs ys : List Node) (place : ℕ) (path : List ℕ) → All (ChildrenBelow (length xs)) xs → place < length xs
    → read (xs ++ ys) place path ≡ read xs place path

-- what stands behind other nodes reads the same from the places moved on
abbrev pub BackReads : Type 0
BackReads = (xs ys : List Node) (place : ℕ) (path : List ℕ) → read (beside xs ys) (length xs + place) path ≡ read ys place path

-- side by side, children stay in range
abbrev pub BesideIsInRange : Type 0
BesideIsInRange =
    (xs ys : List Node) → All (ChildrenBelow (length xs)) xs → All (ChildrenBelow (length ys)) ys
    → All (ChildrenBelow (length (beside xs ys))) (beside xs ys)

-- side by side, nodes fit a signature as before
abbrev pub BesideFits : Type 0
BesideFits = (σ : Signature) (xs ys : List Node) → Fits σ xs → Fits σ ys → Fits σ (beside xs ys)

-- each of the merged graphs reads as before from its root
abbrev pub MergedReads : Type 0
MergedReads =
    (ts : List Graph) (i : ℕ) (d : Graph) (path : List ℕ) → All IsGraphInRange ts → i < length ts
    → read (merged ts) (merged_root ts i) path ≡ at (get_or ts i d) path

-- each of the merged graphs is in range
abbrev pub MergedIsInRange : Type 0
MergedIsInRange = (ts : List Graph) (i : ℕ) → All IsGraphInRange ts → i < length ts → IsInRange (merged ts) (merged_root ts i)

-- merged graphs fit a signature as before
abbrev pub MergedFits : Type 0
MergedFits = (σ : Signature) (ts : List Graph) → All (λ t. Fits σ t.nodes) ts → Fits σ (merged ts)

-- a system with distinct left sides has a solution, whatever the values of the parameters are
abbrev pub HasSolution : Type 0
HasSolution =
    (σ : Signature) (system : List Equation) (e : Valuation σ) → HasDistinctLefts system → SystemFits σ system
    → (d : Valuation σ) × Solves d system × ((v : ℕ) → IsParameter system v → Alike (d v) (e v))

-- two solutions of a system with distinct left sides that are alike on the parameters are alike on all variables
abbrev pub SolutionIsUnique : Type 0
SolutionIsUnique =
    (σ : Signature) (system : List Equation) (d e : Valuation σ) → HasDistinctLefts system → Solves d system → Solves e system
    → ((v : ℕ) → IsParameter system v → Alike (d v) (e v)) → (v : ℕ) → Alike (d v) (e v)

-- two solutions that are alike on the parameters below n are alike on all variables below n, where the system has no others
abbrev pub SolutionIsUniqueBelow : Type 0
SolutionIsUniqueBelow =
    (σ : Signature) (n : ℕ) (system : List Equation) (d e : Valuation σ) → HasDistinctLefts system
    → ((q : Equation) → Contains system q → (v : ℕ) → Contains (variables_of q) v → v < n)
    → Solves d system → Solves e system
    → ((v : ℕ) → v < n → IsParameter system v → Alike (d v) (e v)) → (v : ℕ) → v < n → Alike (d v) (e v)
