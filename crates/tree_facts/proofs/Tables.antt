-- A node table that meets each equation is a solution.
use Rattle.std.proofs.Common.{ℕ, ◌≡◌, ◌<◌, List, [], ◌∷◌, map, length, refl, sym, ap, ◌∙◌, arith, Some}
use Rattle.std.specs.Prelude.{slice_get, slice_index, option_map, Contains}
use Rattle.std.proofs.lemmas.Option.{slice_get-get_or, slice_get-map}
use Rattle.std.proofs.lemmas.List.{length-map}
use Rattle.tree_model.specs.declared.tree.Node.{Node}
use Rattle.tree_model.specs.Signatures.{Signature}
use Rattle.tree_model.specs.Trees.{read}
use Rattle.tree_model.specs.Valuations.{Valuation}
use Rattle.tree_facts.specs.Equations.{Equation, equals_variable, equals_term, variables_of, EquationHolds}
use Rattle.tree_facts.specs.Tables.{Meets, IsReadFrom, table_values}
use Rattle.tree_facts.proofs.Members.{contains_first, argument_occurs}
use Rattle.tree_facts.specs.Laws.{TableIsSolution, ReadFromTableSolves}

map_at : (f : ℕ → ℕ) (xs : List ℕ) (i : ℕ) → i < length xs → slice_get (map f xs) i ≡ Some (f (slice_index xs i))
map_at f xs i w = slice_get-map f xs i ∙ ap (option_map f) (slice_get-get_or xs i 0 w)

-- an equation that the table meets holds where its variables have the values that the table has for them
pub met_holds : (σ : Signature) (nodes : List Node) (place : ℕ → ℕ) (e : Valuation σ) (q : Equation) → Meets nodes place q
    → ((v : ℕ) → Contains (variables_of q) v → IsReadFrom nodes place e v) → EquationHolds e q
met_holds σ nodes place e (equals_variable u r) meets reads = λ path.
    reads u (contains_first u (r ∷ [])) path ∙ ap (λ p. read nodes p path) meets ∙ sym (reads r (argument_occurs u (r ∷ []) 0 (omega arith)) path)
met_holds σ nodes place e (equals_term u symbol xs) meets reads = record {
  root = reads u (contains_first u xs) [] ∙ rw (meets, length-map xs place) refl;
  child = λ i w path. reads u (contains_first u xs) (i ∷ path) ∙ rw (meets, map_at place xs i w) refl
      ∙ sym (reads (slice_index xs i) (argument_occurs u xs i w) path);
}

pub read_from_table_solves : ReadFromTableSolves
read_from_table_solves σ nodes place e system meets reads q inside = met_holds σ nodes place e q (meets q inside) (reads q inside)

pub table_solves : TableIsSolution
table_solves σ nodes place in_range fits system meets q inside =
    met_holds σ nodes place (table_values σ nodes place in_range fits) q (meets q inside) (λ v o path. refl)
