-- A graph and its tops have one numbering by breadth at most.
use Rattle.std.proofs.Common.{◌≡◌, ℕ, zero, suc, ◌+◌, ◌<◌, ◌≤◌, List, ◌∷◌, [], ◌++◌, length, get_or, map, take, drop, refl, sym, ap, subst, ◌∙◌, ◌⊎◌, inl, inr, append_assoc, arith}
use Rattle.std.specs.Prelude.{Contains, flat_map, slice_index}
use Rattle.std.proofs.Math.ListN.{get_or-append}
use Rattle.std.proofs.lemmas.Grind.{flat_map-append}
use Rattle.std.proofs.lemmas.List.{take_more, take-append-drop, length-append}
use Rattle.tree_model.specs.declared.tree.Node.{Node}
use Rattle.tree_model.specs.Graphs.{Forest}
use Rattle.formula_ast.specs.Occurrences.{first_occurrences}
use Rattle.formula_ast.proofs.Standing.{Has, contained, from_contained}
use Rattle.flat_form.specs.Orders.{place_of}
use Rattle.witness_trees.specs.Breadth.{node_of, IsByBreadth}
use Rattle.witness_trees.specs.Fresh.{label, tops}
use Rattle.witness_trees.specs.FreshLaws.{FreshIsOne}
use Rattle.witness_trees.proofs.Occurring.{starts, first_has, OnePlace, first_one_place, same_place, in_left, in_right, take_has, take_all, any_default, flat_in}

abbrev record_of : List Node → List ℕ → Forest
record_of nodes roots = record { nodes = nodes; roots = roots }

module _ (label : ℕ → Node) (tops : List ℕ) where
  abbrev children : ℕ → List ℕ
  children v = (label v).children

  -- what stands in front of the node behind these
  abbrev Met : List ℕ → List ℕ
  Met p = tops ++ flat_map children p

  abbrev Comes : List ℕ → Type 0
  Comes o = (i : ℕ) → i < length o → Contains tops (slice_index o i) ⊎ ((j : ℕ) × (j < i) × Contains (children (slice_index o j)) (slice_index o i))

  in_front : (o : List ℕ) → o ≡ first_occurrences (Met o) → (k : ℕ) → (w : List ℕ) × (o ≡ first_occurrences (Met (take k o)) ++ w)
  in_front o met k =
      let split : Met o ≡ Met (take k o) ++ flat_map children (drop k o) =
      ap (λ l. Met l) (sym (take-append-drop k o)) ∙ ap (λ l. tops ++ l) (flat_map-append children (take k o) (drop k o))
      ∙ sym (append_assoc tops (flat_map children (take k o)) (flat_map children (drop k o))) in
      let (w, e) = starts (Met (take k o)) (flat_map children (drop k o)) in
      (w, met ∙ ap first_occurrences split ∙ e)

  among : (o : List ℕ) → Comes o → (k : ℕ) → k < length o → Has (get_or o k 0) (Met (take k o))
  among o comes k less = by (comes k less)
    where
      by : Contains tops (slice_index o k) ⊎ ((j : ℕ) × (j < k) × Contains (children (slice_index o j)) (slice_index o k)) → Has (get_or o k 0) (Met (take k o))
      by (inl t) = in_left tops (flat_map children (take k o)) (get_or o k 0) (from_contained (get_or o k 0) tops t)
      by (inr (j, before, child)) =
          in_right tops (flat_map children (take k o)) (get_or o k 0)
          (from_contained (get_or o k 0) (flat_map children (take k o))
          (flat_in children (take k o) (get_or o j 0) (get_or o k 0) (take_has k o j before (omega arith)) child))

  -- the next node is the first that stands in front and is new
  next_is : (o : List ℕ) → o ≡ first_occurrences (Met o) → Comes o → (k : ℕ) → k < length o
      → (k < length (first_occurrences (Met (take k o)))) × (get_or o k 0 ≡ get_or (first_occurrences (Met (take k o))) k 0)
  next_is o met comes k less =
      let v = get_or o k 0 in
      let front = first_occurrences (Met (take k o)) in
      let (w, e) = in_front o met k in
      let (j, within, is) = contained v front (first_has v (Met (take k o)) (among o comes k less)) in
      let at_j : get_or o j 0 ≡ v = ap (λ l. get_or l j 0) e ∙ get_or-append front w 0 j within ∙ any_default front j 0 v within ∙ is in
      let longer : length o ≡ length front + length w = ap length e ∙ length-append front w in
      let one : OnePlace o = subst OnePlace (sym met) (first_one_place (Met o)) in
      let place : j ≡ k = same_place o one j k (omega arith) less at_j in
      let here : k < length front = omega arith in
      (here, ap (λ l. get_or l k 0) e ∙ get_or-append front w 0 k here)

  agree : (o p : List ℕ) → o ≡ first_occurrences (Met o) → Comes o → p ≡ first_occurrences (Met p) → (k : ℕ) → k ≤ length o → (take k o ≡ take k p) × (k ≤ length p)
  agree o p met comes other zero le = (refl, omega arith)
  agree o p met comes other (suc k) le =
      let so_far = agree o p met comes other k (omega arith) in
      let here = next_is o met comes k (omega arith) in
      let (w, e) = in_front p other k in
      let fronts : first_occurrences (Met (take k o)) ≡ first_occurrences (Met (take k p)) = ap (λ l. first_occurrences (Met l)) so_far.0 in
      let front = first_occurrences (Met (take k p)) in
      let within : k < length front = subst (λ (l : List ℕ). k < length l) fronts here.0 in
      let longer : length p ≡ length front + length w = ap length e ∙ length-append front w in
      let item : get_or o k 0 ≡ get_or p k 0 = here.1 ∙ ap (λ l. get_or l k 0) fronts ∙ sym (ap (λ l. get_or l k 0) e ∙ get_or-append front w 0 k within) in
      let one : suc k ≡ k + 1 = omega arith in (
        ap (λ n. take n o) one ∙ take_more o k 0 (omega arith) ∙ ap (λ l. l ++ get_or o k 0 ∷ []) so_far.0 ∙ ap (λ v. take k p ++ v ∷ []) item
            ∙ sym (take_more p k 0 (omega arith)) ∙ sym (ap (λ n. take n p) one),
        omega arith,
      )

  one_order : (o p : List ℕ) → o ≡ first_occurrences (Met o) → Comes o → p ≡ first_occurrences (Met p) → Comes p → o ≡ p
  one_order o p met comes other others =
      let first = agree o p met comes other (length o) (omega arith) in
      let back = agree p o other others met (length p) (omega arith) in
      let sizes : length o ≡ length p = omega (arith, first.1, back.1) in
      sym (take_all o) ∙ first.0 ∙ ap (λ n. take n p) sizes ∙ take_all p

  abbrev forest_of : List ℕ → Forest
  forest_of o = record { nodes = map (node_of label o) o; roots = map (place_of o) tops }

  is_forest : (a : Forest) (by_breadth : IsByBreadth label tops a) → a ≡ forest_of by_breadth.order
  is_forest a by_breadth =
      ap (λ l. record_of l a.roots) by_breadth.nodes ∙ ap (λ l. record_of (map (node_of label by_breadth.order) by_breadth.order) l) by_breadth.roots

  one_by_breadth : (a b : Forest) → IsByBreadth label tops a → IsByBreadth label tops b → a ≡ b
  one_by_breadth a b one other =
      is_forest a one ∙ ap forest_of (one_order one.order other.order one.met one.before other.met other.before) ∙ sym (is_forest b other)

pub fresh_is_one : FreshIsOne
fresh_is_one c used = one_by_breadth (label c used) (tops c)
