-- Each variable of a reduced cube has a node.
use Rattle.std.proofs.Common.{◌≡◌, ℕ, zero, suc, ◌+◌, ◌<◌, ◌≤◌, List, ◌++◌, map, length, sym, ap, subst, ◌∙◌, ◌⊎◌, inl, inr, arith}
use Rattle.std.specs.Prelude.{Contains, flat_map, slice_index}
use Rattle.std.specs.List.{range_with_len}
use Rattle.tree_model.specs.declared.tree.Node.{Node}
use Rattle.formula_ast.specs.Occurrences.{first_occurrences}
use Rattle.formula_ast.proofs.Standing.{Has, contained, from_contained}
use Rattle.tree_facts.proofs.Equations.{within_or_past}
use Rattle.flat_form.specs.declared.cube.Cube.{Cube}
use Rattle.flat_form.specs.FirstOccurrence.{IsArgument}
use Rattle.flat_form.specs.Reduced.{IsReduced}
use Rattle.witness_trees.specs.Fresh.{index, representative, represented, fresh_term, label, tops}
use Rattle.witness_trees.specs.FreshLaws.{EachIsMet}
use Rattle.witness_trees.proofs.Occurring.{first_has, in_left, in_right, flat_in, map_in, in_range, any_default}
use Rattle.witness_trees.proofs.Terms.{term_own, term_found}

index_in : (xs : List ℕ) (i v : ℕ) → i < length xs → slice_index xs i ≡ v → Contains xs v
index_in xs i v w is = (i, w, any_default xs i v 0 w ∙ is)

module _ (c : Cube) (used : List ℕ) (reduced : IsReduced c) (order : List ℕ)
    (met : order ≡ first_occurrences (tops c ++ flat_map (λ v. (label c used v).children) order)) where
  abbrev children : ℕ → List ℕ
  children v = (label c used v).children

  stands : (v : ℕ) → Has v (tops c ++ flat_map children order) → Contains order v
  stands v h = contained v order (subst (Has v) (sym met) (first_has v (tops c ++ flat_map children order) h))

  top_stands : (v : ℕ) → v < c.free → Contains order (representative c.basic v)
  top_stands v less =
      let r = representative c.basic v in
      stands r (in_left (tops c) (flat_map children order) r (from_contained r (tops c) (map_in (representative c.basic) (range_with_len 0 c.free) v (in_range 0 c.free v (omega arith) (omega arith)))))

  child_stands : (u i v : ℕ) → IsArgument c.basic u i v → Contains order (representative c.basic u) → Contains order (representative c.basic v)
  child_stands u i v argument there =
      let r = representative c.basic v in
      let s = argument.symbol in
      let xs = argument.xs in
      let own : representative c.basic u ≡ u = term_own c.basic reduced.solved.ascending u s xs argument.stands in
      let found : children u ≡ map (representative c.basic) xs =
      ap (λ (n : Node). (represented c.basic n).children) (term_found c.basic reduced.solved.ascending u s xs (fresh_term c.basic (index c used u) u) argument.stands) in
      let child : Contains (children u) r = subst (λ (l : List ℕ). Contains l r) (sym found) (map_in (representative c.basic) xs v (index_in xs i v argument.within argument.is)) in
      stands r (in_right (tops c) (flat_map children order) r
      (from_contained r (flat_map children order) (flat_in children order u r (subst (Contains order) own there) child)))

  -- those below a bound
  all_below : (bound v : ℕ) → v < bound → v < c.free + c.outer → Contains order (representative c.basic v)
  all_below zero v less within = absurd (omega arith)
  all_below (suc bound) v less within = elim (within_or_past v c.free) [
    | inl free ↦ top_stands v free
    | inr le ↦ hung v le within (λ u lower. all_below bound u (omega arith) (omega arith)) (reduced.numbered.hangs v le within)
  ]
    where
      hung : (v : ℕ) → c.free ≤ v → v < c.free + c.outer → ((u : ℕ) → u < v → Contains order (representative c.basic u))
          → (u : ℕ) × (i : ℕ) × ((u < c.free) ⊎ (u < v)) × IsArgument c.basic u i v → Contains order (representative c.basic v)
      hung v le within below (u, i, smaller, argument) =
          let lower : u < v = elim smaller [ inl less ↦ omega arith | inr before ↦ before ] in
          child_stands u i v argument (below u lower)

pub each_is_met : EachIsMet
each_is_met c used a reduced fresh v less = all_below c used reduced fresh.order fresh.met (v + 1) v (omega arith) less
