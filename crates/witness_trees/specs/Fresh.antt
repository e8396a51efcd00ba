-- The fresh assignment of a cube: the variables that nothing determines take trees of symbols that are not used.
use Rattle.std.specs.Prelude.{◌==◌, Bool, false, not, ℕ, ◌+◌, List, [], ◌∷◌, length, map, filter, take, get_or, if◌then◌else◌}
use Rattle.std.specs.List.{range_with_len, list_any}
use Rattle.tree_model.specs.declared.tree.Node.{Node}
use Rattle.tree_model.specs.declared.tree.Symbol.TheVariants.{Further}
use Rattle.tree_model.specs.Graphs.{Forest}
use Rattle.flat_form.specs.declared.atom.Flat.{Flat}
use Rattle.flat_form.specs.declared.atom.Flat.TheVariants.{VarVar, VarTerm, Finite}
use Rattle.flat_form.specs.declared.cube.Cube.{Cube}
use Rattle.flat_form.specs.Orders.{place_of}
use Rattle.witness_trees.specs.Breadth.{IsByBreadth}

-- ---- indexes

-- the first n numbers that are not used: among n + length used numbers there are so many
abbrev pub unused : List ℕ → ℕ → List ℕ
unused used n = take n (filter (λ k. not (list_any (λ u. u == k) used)) (range_with_len 0 (n + length used)))

-- the atom is an equation with v on its left
abbrev pub defines : ℕ → Flat → Bool
defines v (VarVar u r) = u == v
defines v (VarTerm u symbol xs) = u == v
defines v (Finite u) = false

-- the atom says that v is finite
abbrev pub marks : ℕ → Flat → Bool
marks v (VarVar u r) = false
marks v (VarTerm u symbol xs) = false
marks v (Finite u) = u == v

-- the variables of the cube, free and outer, that are left of no equation of its basic, in ascending order
abbrev pub open_variables : Cube → List ℕ
open_variables c = filter (λ v. not (list_any (defines v) c.basic)) (range_with_len 0 (c.free + c.outer))

-- the index that an open variable takes: in ascending order each takes the least that is neither used nor taken
abbrev pub index : Cube → List ℕ → ℕ → ℕ
index c used v = get_or (unused used (length (open_variables c))) (place_of (open_variables c) v) 0

-- ---- nodes, with variables as their children

-- the variable that v equals, or else v itself
abbrev pub representative : List Flat → ℕ → ℕ
representative [] v = v
representative (VarVar u r ∷ rest) v = if u == v then r else representative rest v
representative (VarTerm u symbol xs ∷ rest) v = representative rest v
representative (Finite u ∷ rest) v = representative rest v

-- the term that v equals, or else this one
abbrev pub term_or : List Flat → ℕ → Node → Node
term_or [] v other = other
term_or (VarVar u r ∷ rest) v other = term_or rest v other
term_or (VarTerm u symbol xs ∷ rest) v other = if u == v then record { symbol = symbol; children = xs } else term_or rest v other
term_or (Finite u ∷ rest) v other = term_or rest v other

-- the constant of this index where v is to be finite, else the symbol applied to v
abbrev pub fresh_node : ℕ → ℕ → Bool → Node
fresh_node k v is_finite = record { symbol = Further k; children = if is_finite then [] else v ∷ [] }

-- the term of an open variable with this index
abbrev pub fresh_term : List Flat → ℕ → ℕ → Node
fresh_term basic k v = fresh_node k v (list_any (marks v) basic)

-- the term with what its variables equal
abbrev pub represented : List Flat → Node → Node
represented basic term = record { symbol = term.symbol; children = map (representative basic) term.children }

-- the symbol and the children of v's node, where v has this index if it is open
abbrev pub label_by : List Flat → ℕ → ℕ → Node
label_by basic k v = represented basic (term_or basic v (fresh_term basic k v))

abbrev pub label : Cube → List ℕ → ℕ → Node
label c used v = label_by c.basic (index c used v) v

-- what the free variables equal, by rank
abbrev pub tops : Cube → List ℕ
tops c = map (representative c.basic) (range_with_len 0 c.free)

-- ---- the assignment

-- one node for each class of variables that the free ones reach, and one root for each free variable
abbrev pub IsFreshAssignment : Cube → List ℕ → Forest → Type 0
IsFreshAssignment c used a = IsByBreadth (label c used) (tops c) a
