-- Numbering by breadth, one node after the other.
use Rattle.std.proofs.Common.{◌≡◌, ℕ, ◌+◌, ◌<◌, ◌≤◌, List, [], ◌∷◌, ◌++◌, length, map, take, refl, sym, ap, subst, ◌∙◌, ◌⊎◌, inl, inr, append_assoc, arith, length-append}
use Rattle.std.specs.Prelude.{All, Contains, flat_map, slice_index}
use Rattle.std.proofs.lemmas.Grind.{flat_map-append}
use Rattle.std.proofs.lemmas.List.{append-nil, map-append, get_or_append_left, take_more, take-append-le}
use Rattle.std.proofs.lemmas.List.Elements.{All-nil, All-cons, All-head, All-tail, All-append, All-weaker}
use Rattle.tree_model.specs.declared.tree.Node.{Node}
use Rattle.tree_model.specs.Graphs.{Forest}
use Rattle.formula_ast.specs.Occurrences.{first_occurrences}
use Rattle.formula_ast.proofs.Standing.{Has, contained}
use Rattle.numbering.proofs.Numbers.{lt_or_le}
use Rattle.witness_trees.specs.Breadth.{node_of, IsByBreadth}
use Rattle.witness_trees.specs.Meeting.{Grows, AreEntered}
use Rattle.witness_trees.specs.Numbering.{IsNext, AreNumbered}
use Rattle.witness_trees.proofs.Occurring.{OnePlace, first_one_place, first_has, has_first, has_at, same_place, in_parts, take_all, any_default}
use Rattle.witness_trees.proofs.Entering.{places_stay, all_still_met}
use Rattle.witness_trees.proofs.Terms.{term}

take_none : {A : Type 0} (xs : List A) → take 0 xs ≡ []
take_none [] = refl
take_none (x ∷ xs) = refl

module _ (label : ℕ → Node) (tops : List ℕ) where
  abbrev children : ℕ → List ℕ
  children v = (label v).children

  -- at the start the tops alone were met
  pub none_numbered : (order roots : List ℕ) → AreEntered [] order tops roots → AreNumbered label tops order [] roots
  none_numbered order roots entered =
      let of_tops : order ≡ first_occurrences tops = entered.collects [] refl in
      record {
        low = omega arith;
        collected = of_tops ∙ ap first_occurrences (sym (append-nil tops)) ∙ ap (λ l. first_occurrences (tops ++ flat_map children l)) (sym (take_none order));
        before = λ i w. inl (contained (slice_index order i) tops
            (has_first (slice_index order i) tops (subst (Has (slice_index order i)) of_tops (has_at order i (slice_index order i) w refl))));
        children_met = subst (All (λ v. All (Contains order) (children v))) (sym (take_none order)) (All-nil (λ v. All (Contains order) (children v)));
        nodes_are = ap (map (node_of label order)) (sym (take_none order));
        tops_met = entered.met;
        roots_are = entered.places_are;
      }

  -- the nodes so far stay as they are
  nodes_stay : (order new xs : List ℕ) → Grows order new → All (λ v. All (Contains order) (children v)) xs
      → map (node_of label new) xs ≡ map (node_of label order) xs
  nodes_stay order new [] grows all = refl
  nodes_stay order new (x ∷ xs) grows all =
      ap (λ l. term (label x).symbol l ∷ map (node_of label new) xs) (places_stay order new (children x) grows (All-head (λ v. All (Contains order) (children v)) x xs all))
      ∙ ap (λ l. node_of label order x ∷ l) (nodes_stay order new xs grows (All-tail (λ v. All (Contains order) (children v)) x xs all))

  module _ (order new : List ℕ) (nodes : List Node) (roots : List ℕ) (node : Node) (numbered : AreNumbered label tops order nodes roots)
      (low : length nodes < length order) (next : IsNext (label (slice_index order (length nodes))) order new node) where
    abbrev at : ℕ
    at = length nodes

    abbrev v : ℕ
    v = slice_index order at

    abbrev grows : Grows order new
    grows = next.entered.grows

    longer : length order ≤ length new
    longer = omega (arith, ap length grows.1, length-append order grows.0)

    done : take (length (nodes ++ node ∷ [])) new ≡ take at order ++ v ∷ []
    done =
        ap (λ n. take n new) (length-append nodes (node ∷ [])) ∙ ap (take (at + 1)) grows.1 ∙ take-append-le (at + 1) order grows.0 (omega arith)
        ∙ take_more order at 0 low

    abbrev seen : List ℕ
    seen = tops ++ flat_map children (take at order)

    collects : new ≡ first_occurrences (seen ++ children v)
    collects = next.entered.collects seen numbered.collected

    collected_more : new ≡ first_occurrences (tops ++ flat_map children (take (length (nodes ++ node ∷ [])) new))
    collected_more =
        collects ∙ ap first_occurrences (append_assoc tops (flat_map children (take at order)) (children v)
        ∙ ap (λ l. tops ++ (flat_map children (take at order) ++ l)) (sym (append-nil (children v)))
        ∙ ap (λ l. tops ++ l) (sym (flat_map-append children (take at order) (v ∷ [])))
        ∙ ap (λ l. tops ++ flat_map children l) (sym done))

    kept : (k : ℕ) → k < length order → slice_index new k ≡ slice_index order k
    kept k w = ap (λ l. slice_index l k) grows.1 ∙ get_or_append_left order grows.0 0 k w

    -- what stands behind the old ones is a child of the node
    child : (k u : ℕ) → k < length new → length order ≤ k → slice_index new k ≡ u → Contains (children (slice_index new at)) u
    child k u w past at_k = by (in_parts seen (children v) u (has_first u (seen ++ children v) (subst (Has u) collects (has_at new k u w at_k))))
      where
        was : Contains order u → ⊥
        was (j, wj, is) =
            let same : j ≡ k =
            same_place new (subst OnePlace (sym collects) (first_one_place (seen ++ children v))) j k (omega (arith, wj, longer)) w
            (kept j wj ∙ any_default order j 0 u wj ∙ is ∙ sym at_k) in
            omega (arith, same, wj, past)

        by : Has u seen ⊎ Has u (children v) → Contains (children (slice_index new at)) u
        by (inl h) = absurd (was (contained u order (subst (Has u) (sym numbered.collected) (first_has u seen h))))
        by (inr h) = subst (λ (z : ℕ). Contains (children z) u) (sym (kept at low)) (contained u (children v) h)

    comes : (k : ℕ) → k < length new
        → Contains tops (slice_index new k) ⊎ ((j : ℕ) × (j < k) × Contains (children (slice_index new j)) (slice_index new k))
    comes k w = by (lt_or_le k (length order))
      where
        old : (o : k < length order) → Contains tops (slice_index order k) ⊎ ((j : ℕ) × (j < k) × Contains (children (slice_index order j)) (slice_index order k))
            → Contains tops (slice_index new k) ⊎ ((j : ℕ) × (j < k) × Contains (children (slice_index new j)) (slice_index new k))
        old o (inl top) = inl (subst (Contains tops) (sym (kept k o)) top)
        old o (inr (j, less, there)) =
            inr (
              j,
              less,
              subst (λ (z : ℕ). Contains (children (slice_index new j)) z) (sym (kept k o))
                  (subst (λ (z : ℕ). Contains (children z) (slice_index order k)) (sym (kept j (omega arith))) there),
            )

        by : (k < length order) ⊎ (length order ≤ k) → Contains tops (slice_index new k) ⊎ ((j : ℕ) × (j < k) × Contains (children (slice_index new j)) (slice_index new k))
        by (inl o) = old o (numbered.before k o)
        by (inr past) = inr (at, omega (arith, low, past), child k (slice_index new k) w past refl)

    node_is : node ≡ node_of label new v
    node_is = ap (λ s. term s node.children) next.symbol ∙ ap (λ l. term (label v).symbol l) next.entered.places_are

    abbrev AllMet : List ℕ → ℕ → Type 0
    AllMet seen v = All (Contains seen) (children v)

    -- one node more
    pub number_more : AreNumbered label tops new (nodes ++ node ∷ []) roots
    number_more = record {
      low = omega (arith, length-append nodes (node ∷ []), low, longer);
      collected = collected_more;
      before = comes;
      children_met = subst (All (AllMet new)) (sym done)
          (All-append (AllMet new) (take at order) (v ∷ [])
          (All-weaker (AllMet order) (AllMet new) (λ x all. all_still_met order new (children x) grows all) (take at order) numbered.children_met)
          (All-cons (AllMet new) v [] next.entered.met (All-nil (AllMet new))));
      nodes_are = ap (λ l. l ++ node ∷ []) (numbered.nodes_are ∙ sym (nodes_stay order new (take at order) grows numbered.children_met))
          ∙ ap (λ n. map (node_of label new) (take at order) ++ n ∷ []) node_is
          ∙ sym (map-append (node_of label new) (take at order) (v ∷ [])) ∙ ap (map (node_of label new)) (sym done);
      tops_met = all_still_met order new tops grows numbered.tops_met;
      roots_are = numbered.roots_are ∙ sym (places_stay order new tops grows numbered.tops_met);
    }

  -- at the end each that was met has a node
  pub all_numbered : (order : List ℕ) (nodes : List Node) (roots : List ℕ) (a : Forest) → AreNumbered label tops order nodes roots → length order ≤ length nodes
      → a.nodes ≡ nodes → a.roots ≡ roots → IsByBreadth label tops a
  all_numbered order nodes roots a numbered end nodes_kept roots_kept =
      let same : length nodes ≡ length order = omega (arith, numbered.low) in
      let full : take (length nodes) order ≡ order = ap (λ n. take n order) same ∙ take_all order in
      record {
        order = order;
        met = numbered.collected ∙ ap (λ l. first_occurrences (tops ++ flat_map children l)) full;
        before = numbered.before;
        nodes = nodes_kept ∙ numbered.nodes_are ∙ ap (map (node_of label order)) full;
        roots = roots_kept ∙ numbered.roots_are;
      }
