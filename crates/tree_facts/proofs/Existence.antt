-- A system with distinct left sides has a solution, whatever the values of the parameters are. Its table has first the
-- nodes of the values of all variables that may occur, and behind them a row for each of these variables.
use Rattle.std.proofs.Common.{ℕ, ◌≡◌, ◌<◌, ◌+◌, List, [], ◌∷◌, ◌++◌, map, length, refl, sym, ap, ◌∙◌, subst, arith, Some, None}
use Rattle.std.specs.Prelude.{Option, slice_get, get_or, All, Contains}
use Rattle.std.specs.List.{range_with_len}
use Rattle.std.proofs.lemmas.List.{length-map, length-append}
use Rattle.std.proofs.lemmas.List.Elements.{All-append, All-map, Contains-get_or}
use Rattle.std.proofs.lemmas.List.FromFn.{length-map-range_with_len, get_or-map-range_with_len}
use Rattle.std.proofs.lemmas.Option.{slice_get-get_or}
use Rattle.tree_model.specs.declared.tree.Node.{Node}
use Rattle.tree_model.specs.declared.tree.Symbol.{Symbol}
use Rattle.tree_model.specs.Graphs.{Graph, ChildrenBelow}
use Rattle.tree_model.specs.Signatures.{Signature, TreeOver, IsRoot, Fits, Alike}
use Rattle.tree_model.specs.Trees.{at, read}
use Rattle.tree_model.specs.Valuations.{Valuation}
use Rattle.tree_facts.specs.Equations.{Equation, equals_variable, equals_term, Solves, SystemFits, IsParameter, HasDistinctLefts}
use Rattle.tree_facts.specs.SideBySide.{IsGraphInRange, merged, merged_root}
use Rattle.tree_facts.specs.Tables.{Meets}
use Rattle.tree_facts.specs.Laws.{HasSolution}
use Rattle.tree_facts.proofs.Lookup.{equation_of, IsEquationOf, found, equation_found, above, variable_below}
use Rattle.tree_facts.proofs.SideBySide.{bare, back_get, read_front, read_merged, merged_below, merged_root_within, merged_fits}
use Rattle.tree_facts.proofs.Members.{contains_first, contains_later, argument_occurs}
use Rattle.tree_facts.proofs.Tables.{met_holds}

module _ (σ : Signature) (system : List Equation) (e : Valuation σ) (distinct : HasDistinctLefts system) (fits : SystemFits σ system) where
  abbrev count : ℕ
  count = above system

  abbrev graphs : List Graph
  graphs = map (λ v. (e v).graph) (range_with_len 0 count)

  abbrev front : List Node
  front = merged graphs

  -- the place of a variable that equals no other one
  abbrev plain_place : ℕ → Option Equation → ℕ
  plain_place v None = merged_root graphs v
  plain_place v (Some (equals_variable u r)) = merged_root graphs v
  plain_place v (Some (equals_term u s xs)) = length front + v

  abbrev place_by : ℕ → Option Equation → ℕ
  place_by v None = merged_root graphs v
  place_by v (Some (equals_variable u r)) = plain_place r (equation_of system r)
  place_by v (Some (equals_term u s xs)) = length front + v

  abbrev place : ℕ → ℕ
  place v = place_by v (equation_of system v)

  abbrev row_by : Option Equation → Node
  row_by None = bare
  row_by (Some (equals_variable u r)) = bare
  row_by (Some (equals_term u s xs)) = record { symbol = s; children = map place xs }

  abbrev rows : List Node
  rows = map (λ v. row_by (equation_of system v)) (range_with_len 0 count)

  abbrev nodes : List Node
  nodes = front ++ rows

  length-rows : length rows ≡ count
  length-rows = length-map-range_with_len (λ v. row_by (equation_of system v)) 0 count

  length-nodes : length nodes ≡ length front + count
  length-nodes = length-append front rows ∙ ap (λ z. length front + z) length-rows

  -- all places are in range, and all nodes fit
  all_graphs : (P : Graph → Type 0) → ((v : ℕ) → P (e v).graph) → All P graphs
  all_graphs P each = All-map P (λ v. (e v).graph) (range_with_len 0 count) (λ i d w. each (get_or (range_with_len 0 count) i d))

  all_rows : (P : Node → Type 0) → ((v : ℕ) (o : Option Equation) → IsEquationOf system v o → P (row_by o)) → All P rows
  all_rows P each = All-map P (λ v. row_by (equation_of system v)) (range_with_len 0 count)
      (λ i d w. each (get_or (range_with_len 0 count) i d) _ (found system (get_or (range_with_len 0 count) i d)))

  graphs_in_range : All IsGraphInRange graphs
  graphs_in_range = all_graphs IsGraphInRange (λ v. (e v).in_range)

  root_within : (v : ℕ) → v < count → merged_root graphs v < length front
  root_within v w = merged_root_within graphs v graphs_in_range (rw (length-map-range_with_len (λ v. (e v).graph) 0 count) w)

  plain_within : (v : ℕ) (o : Option Equation) → v < count → plain_place v o < length nodes
  plain_within v None w = omega (arith, length-nodes, root_within v w)
  plain_within v (Some (equals_variable u r)) w = omega (arith, length-nodes, root_within v w)
  plain_within v (Some (equals_term u s xs)) w = omega (arith, length-nodes)

  place_within : (v : ℕ) (o : Option Equation) → IsEquationOf system v o → v < count → place_by v o < length nodes
  place_within v None is_of w = omega (arith, length-nodes, root_within v w)
  place_within v (Some (equals_variable u r)) is_of w = plain_within r (equation_of system r)
      (variable_below system (equals_variable u r) is_of.0 r (argument_occurs u (r ∷ []) 0 (omega arith)))
  place_within v (Some (equals_term u s xs)) is_of w = omega (arith, length-nodes)

  row_in_range : (v : ℕ) (o : Option Equation) → IsEquationOf system v o → ChildrenBelow (length nodes) (row_by o)
  row_in_range v None is_of = λ i d w. absurd (omega arith)
  row_in_range v (Some (equals_variable u r)) is_of = λ i d w. absurd (omega arith)
  row_in_range v (Some (equals_term u s xs)) is_of = All-map (λ c. c < length nodes) place xs
      (λ i d w. place_within (get_or xs i d) (equation_of system (get_or xs i d)) (found system (get_or xs i d))
      (variable_below system (equals_term u s xs) is_of.0 (get_or xs i d) (contains_later u (get_or xs i d) xs (Contains-get_or xs i d w))))

  row_fits : (v : ℕ) (o : Option Equation) → IsEquationOf system v o → IsRoot σ (row_by o).symbol (length (row_by o).children)
  row_fits v None is_of = tt
  row_fits v (Some (equals_variable u r)) is_of = tt
  row_fits v (Some (equals_term u s xs)) is_of = rw (length-map xs place) (fits u s xs is_of.0)

  nodes_in_range : All (ChildrenBelow (length nodes)) nodes
  nodes_in_range = All-append (ChildrenBelow (length nodes)) front rows
      (λ i d w j c v. omega (arith, length-nodes, merged_below graphs graphs_in_range i d w j c v))
      (all_rows (ChildrenBelow (length nodes)) row_in_range)

  nodes_fit : Fits σ nodes
  nodes_fit = All-append (λ node. IsRoot σ node.symbol (length node.children)) front rows
      (merged_fits σ graphs (all_graphs (λ t. Fits σ t.nodes) (λ v. (e v).fits)))
      (all_rows (λ node. IsRoot σ node.symbol (length node.children)) row_fits)

  -- the solution: a parameter keeps its value, and a variable that equals a term has its row
  row_within : (v u : ℕ) (s : Symbol) (xs : List ℕ) → IsEquationOf system v (Some (equals_term u s xs)) → length front + v < length nodes
  row_within v u s xs is_of = omega (arith, length-nodes, is_of.1, variable_below system (equals_term u s xs) is_of.0 u (contains_first u xs))

  abbrev row_tree : (v : ℕ) → length front + v < length nodes → TreeOver σ
  row_tree v w = record {
    graph = record { nodes = nodes; root = length front + v };
    in_range = record { children = nodes_in_range; root_within = w };
    fits = nodes_fit;
  }

  abbrev plain_value : (v : ℕ) (o : Option Equation) → IsEquationOf system v o → TreeOver σ
  plain_value v None is_of = e v
  plain_value v (Some (equals_variable u r)) is_of = e v
  plain_value v (Some (equals_term u s xs)) is_of = row_tree v (row_within v u s xs is_of)

  abbrev value_by : (v : ℕ) (o : Option Equation) → IsEquationOf system v o → TreeOver σ
  value_by v None is_of = e v
  value_by v (Some (equals_variable u r)) is_of = plain_value r (equation_of system r) (found system r)
  value_by v (Some (equals_term u s xs)) is_of = row_tree v (row_within v u s xs is_of)

  pub solution : Valuation σ
  solution v = value_by v (equation_of system v) (found system v)

  kept : (v : ℕ) (o : Option Equation) (is_of : IsEquationOf system v o) → IsParameter system v → Alike (value_by v o is_of) (e v)
  kept v None is_of parameter = λ path. refl
  kept v (Some q) is_of parameter = absurd (parameter q is_of.0 is_of.1)

  pub solution_keeps : (v : ℕ) → IsParameter system v → Alike (solution v) (e v)
  unfolding solution
  solution_keeps v = kept v (equation_of system v) (found system v)

  -- each variable's value is what the table reads from its place
  parameter_reads : (v : ℕ) → v < count → (path : List ℕ) → at (e v).graph path ≡ read nodes (merged_root graphs v) path
  parameter_reads v w path =
      let within : v < length graphs = rw (length-map-range_with_len (λ v. (e v).graph) 0 count) w in
      let is_graph : get_or graphs v (e v).graph ≡ (e v).graph = get_or-map-range_with_len (λ v. (e v).graph) 0 count v v (e v).graph w (omega arith) in
      sym (read_front front rows (merged_root graphs v) path (merged_below graphs graphs_in_range) (root_within v w)
      ∙ read_merged graphs v (e v).graph path graphs_in_range within ∙ ap (λ t. at t path) is_graph)

  plain_reads : (v : ℕ) (o : Option Equation) (is_of : IsEquationOf system v o) → v < count → (path : List ℕ)
      → at (plain_value v o is_of).graph path ≡ read nodes (plain_place v o) path
  plain_reads v None is_of w path = parameter_reads v w path
  plain_reads v (Some (equals_variable u r)) is_of w path = parameter_reads v w path
  plain_reads v (Some (equals_term u s xs)) is_of w path = refl

  value_reads : (v : ℕ) (o : Option Equation) (is_of : IsEquationOf system v o) → v < count → (path : List ℕ)
      → at (value_by v o is_of).graph path ≡ read nodes (place_by v o) path
  value_reads v None is_of w path = parameter_reads v w path
  value_reads v (Some (equals_variable u r)) is_of w path = plain_reads r (equation_of system r) (found system r)
      (variable_below system (equals_variable u r) is_of.0 r (argument_occurs u (r ∷ []) 0 (omega arith))) path
  value_reads v (Some (equals_term u s xs)) is_of w path = refl

  -- the table meets each equation
  plain_is_place : (u r : ℕ) → Contains system (equals_variable u r) → (o : Option Equation) → IsEquationOf system r o → plain_place r o ≡ place_by r o
  plain_is_place u r inside None is_of = refl
  plain_is_place u r inside (Some (equals_variable q w)) is_of =
      absurd (distinct.direct u r w inside (subst (λ (z : ℕ). Contains system (equals_variable z w)) is_of.1 is_of.0))
  plain_is_place u r inside (Some (equals_term q s xs)) is_of = refl

  table_meets : (q : Equation) → Contains system q → Meets nodes place q
  table_meets (equals_variable u r) inside =
      let is_of : equation_of system u ≡ Some (equals_variable u r) = equation_found system distinct (equals_variable u r) inside in
      ap (place_by u) is_of ∙ plain_is_place u r inside (equation_of system r) (found system r)
  table_meets (equals_term u s xs) inside =
      let is_of : equation_of system u ≡ Some (equals_term u s xs) = equation_found system distinct (equals_term u s xs) inside in
      let w : u < count = variable_below system (equals_term u s xs) inside u (contains_first u xs) in
      let row : get_or rows u bare ≡ row_by (equation_of system u) =
      get_or-map-range_with_len (λ v. row_by (equation_of system v)) 0 count u u bare w (omega arith) in
      let here : slice_get nodes (length front + u) ≡ Some (row_by (equation_of system u)) =
      back_get front rows u ∙ slice_get-get_or rows u bare (omega (arith, length-rows)) ∙ ap Some row in
      ap (λ o. slice_get nodes (place_by u o)) is_of ∙ here ∙ ap (λ o. Some (row_by o)) is_of

  pub solution_solves : Solves solution system
  unfolding solution
  solution_solves q inside = met_holds σ nodes place solution q (table_meets q inside)
      (λ v occurs. value_reads v (equation_of system v) (found system v) (variable_below system q inside v occurs))

pub has_solution : HasSolution
has_solution σ system e distinct fits =
    (solution σ system e distinct fits, solution_solves σ system e distinct fits, solution_keeps σ system e distinct fits)
