-- The nodes of a fresh assignment are a table of trees that meets the equations of its cube.
use Rattle.std.proofs.Common.{◌≡◌, ◌==◌, ℕ, zero, suc, ◌+◌, ◌<◌, Bool, true, false, cond, List, [], ◌∷◌, ◌++◌, length, get_or, map, refl, sym, ap, subst, ◌∙◌, arith, Some}
use Rattle.std.specs.Prelude.{All, Contains, flat_map, slice_get}
use Rattle.std.proofs.lemmas.List.Elements.{All-head, All-tail, All-weaker, All-map, All-contains}
use Rattle.tree_model.specs.declared.tree.Node.{Node}
use Rattle.tree_model.specs.declared.tree.Symbol.{Symbol}
use Rattle.tree_model.specs.Graphs.{Forest, ChildrenBelow, AreInRange}
use Rattle.tree_model.specs.Signatures.{Signature, IsRoot, Fits}
use Rattle.formula_ast.proofs.Standing.{Has, from_contained, contained}
use Rattle.formula_ast.specs.Occurrences.{first_occurrences}
use Rattle.flat_form.specs.declared.atom.Flat.{Flat}
use Rattle.flat_form.specs.declared.atom.Flat.TheVariants.{VarVar, VarTerm, Finite}
use Rattle.flat_form.specs.declared.cube.Cube.{Cube}
use Rattle.flat_form.specs.Fitting.{AtomFits, BasicFits, CubeFits}
use Rattle.flat_form.specs.Numbering.{AtomOver}
use Rattle.flat_form.specs.Orders.{place_of}
use Rattle.flat_form.specs.Reduced.{IsReduced}
use Rattle.numbering.proofs.Numbers.{place_low, place_at}
use Rattle.witness_trees.specs.Breadth.{node_of, IsByBreadth}
use Rattle.witness_trees.specs.Fresh.{index, representative, term_or, fresh_term, label, tops, IsFreshAssignment}
use Rattle.witness_trees.specs.FreshLaws.{node_place, FreshIsTable}
use Rattle.witness_trees.proofs.Occurring.{first_has, in_left, in_right, contained_all, flat_in, many, map_twice}
use Rattle.witness_trees.proofs.Terms.{own, said_is, term_own, term_found, term}
use Rattle.witness_trees.proofs.EachMet.{each_is_met}

-- an item of a list that is made from another
pub made_at : {A : Type 0} (f : ℕ → A) (xs : List ℕ) (i : ℕ) → i < length xs → slice_get (map f xs) i ≡ Some (f (get_or xs i 0))
made_at f [] i w = absurd (omega arith)
made_at f (x ∷ xs) zero w = refl
made_at f (x ∷ xs) (suc i) w = made_at f xs i (omega arith)

-- ---- all places are in range

module _ (label : ℕ → Node) (tops order : List ℕ) (met : order ≡ first_occurrences (tops ++ flat_map (λ v. (label v).children) order)) where
  abbrev children : ℕ → List ℕ
  children v = (label v).children

  placed : (v : ℕ) → Has v (tops ++ flat_map children order) → place_of order v < length order
  placed v h = place_low order v (contained v order (subst (Has v) (sym met) (first_has v (tops ++ flat_map children order) h)))

  children_below : (v : ℕ) → Contains order v → ChildrenBelow (length order) (node_of label order v)
  children_below v there =
      All-map (λ n. n < length order) (place_of order) (children v)
      (All-weaker (Contains (children v)) (λ w. place_of order w < length order)
      (λ w child. placed w (in_right tops (flat_map children order) w (from_contained w (flat_map children order) (flat_in children order v w there child))))
      (children v) (contained_all (children v)))

  nodes_below : All (ChildrenBelow (length order)) (map (node_of label order) order)
  nodes_below =
      All-map (ChildrenBelow (length order)) (node_of label order) order
      (All-weaker (Contains order) (λ v. ChildrenBelow (length order) (node_of label order v)) children_below order (contained_all order))

  roots_below : All (λ n. n < length order) (map (place_of order) tops)
  roots_below =
      All-map (λ n. n < length order) (place_of order) tops
      (All-weaker (Contains tops) (λ w. place_of order w < length order)
      (λ w there. placed w (in_left tops (flat_map children order) w (from_contained w tops there))) tops (contained_all tops))

pub breadth_in_range : (label : ℕ → Node) (tops : List ℕ) (a : Forest) → IsByBreadth label tops a → AreInRange a.nodes a.roots
breadth_in_range label tops a by_breadth =
    let order = by_breadth.order in
    let size : length order ≡ length a.nodes = sym (ap length by_breadth.nodes ∙ many (node_of label order) order) in
    record {
      children = subst (λ (n : ℕ). All (ChildrenBelow n) a.nodes) size
          (subst (λ (l : List Node). All (ChildrenBelow (length order)) l) (sym by_breadth.nodes) (nodes_below label tops order by_breadth.met));
      roots_within = subst (λ (n : ℕ). All (λ root. root < n) a.roots) size
          (subst (λ (l : List ℕ). All (λ root. root < length order) l) (sym by_breadth.roots) (roots_below label tops order by_breadth.met));
    }

-- ---- symbols

module _ (σ : Signature) where
  abbrev HasRoot : Node → Type 0
  HasRoot node = IsRoot σ node.symbol (length node.children)

  term_root : (basic : List Flat) → BasicFits σ basic → (v : ℕ) (other : Node) → HasRoot other → HasRoot (term_or basic v other)
  term_root [] fits v other root = root
  term_root (VarVar u r ∷ rest) fits v other root = term_root rest (All-tail (AtomFits σ) (VarVar u r) rest fits) v other root
  term_root (Finite u ∷ rest) fits v other root = term_root rest (All-tail (AtomFits σ) (Finite u) rest fits) v other root
  term_root (VarTerm u s xs ∷ rest) fits v other root = by (term_root rest (All-tail (AtomFits σ) (VarTerm u s xs) rest fits) v other root) (u == v)
    where
      by : HasRoot (term_or rest v other) → (b : Bool) → HasRoot (cond b (term s xs) (term_or rest v other))
      by more true = All-head (AtomFits σ) (VarTerm u s xs) rest fits
      by more false = more

  node_fits : (c : Cube) (used order : List ℕ) → CubeFits σ c → (v : ℕ) → HasRoot (node_of (label c used) order v)
  node_fits c used order fits v =
      let t = term_or c.basic v (fresh_term c.basic (index c used v) v) in
      let size : length (node_of (label c used) order v).children ≡ length t.children = many (place_of order) (label c used v).children ∙ many (representative c.basic) t.children in
      subst (λ (n : ℕ). IsRoot σ t.symbol n) (sym size) (term_root c.basic fits.basic v (fresh_term c.basic (index c used v) v) tt)

  fits_all : (c : Cube) (used : List ℕ) (a : Forest) → CubeFits σ c → IsFreshAssignment c used a → Fits σ a.nodes
  fits_all c used a fits fresh =
      subst (λ (l : List Node). Fits σ l) (sym fresh.nodes)
      (All-map HasRoot (node_of (label c used) fresh.order) fresh.order (λ k d w. node_fits c used fresh.order fits (get_or fresh.order k d)))

-- ---- equations

module _ (c : Cube) (used : List ℕ) (a : Forest) (reduced : IsReduced c) (fresh : IsFreshAssignment c used a) where
  pub equal_met : (u r : ℕ) → Contains c.basic (VarVar u r) → node_place c fresh.order u ≡ node_place c fresh.order r
  equal_met u r there =
      let direct = reduced.solved.direct u r there in
      ap (place_of fresh.order) (said_is c.basic reduced.solved.ascending u r there ∙ sym (own c.basic r direct.1))

  -- the node of a variable that stands for itself
  pub node_at : (v : ℕ) → v < c.free + c.outer → representative c.basic v ≡ v → (t : Node) → term_or c.basic v (fresh_term c.basic (index c used v) v) ≡ t
      → slice_get a.nodes (node_place c fresh.order v) ≡ Some (record { symbol = t.symbol; children = map (node_place c fresh.order) t.children })
  node_at v within own t is =
      let order = fresh.order in
      let rep = representative c.basic in
      let stood : Contains order (rep v) = each_is_met c used a reduced fresh v within in
      let low = place_low order (rep v) stood in
      ap (λ l. slice_get l (node_place c order v)) fresh.nodes ∙ made_at (node_of (label c used) order) order (node_place c order v) low
      ∙ ap (λ w. Some (node_of (label c used) order w)) (place_at order (rep v) low ∙ own)
      ∙ ap (λ (n : Node). Some (term n.symbol (map (place_of order) (map rep n.children)))) is
      ∙ ap (λ l. Some (term t.symbol l)) (map_twice (place_of order) rep t.children)

  term_met : (u : ℕ) (s : Symbol) (xs : List ℕ) → u < c.free + c.outer → Contains c.basic (VarTerm u s xs)
      → slice_get a.nodes (node_place c fresh.order u) ≡ Some (record { symbol = s; children = map (node_place c fresh.order) xs })
  term_met u s xs within there =
      node_at u within (term_own c.basic reduced.solved.ascending u s xs there) (term s xs) (term_found c.basic reduced.solved.ascending u s xs (fresh_term c.basic (index c used u) u) there)

pub fresh_table : FreshIsTable
fresh_table = record {
  in_range = λ c used. breadth_in_range (label c used) (tops c);
  fits = fits_all;
  equal = equal_met;
  term = λ c used a reduced fresh u s xs there.
      term_met c used a reduced fresh u s xs (All-contains (AtomOver (c.free + c.outer)) c.basic (VarTerm u s xs) reduced.well_numbered.basic there).0 there;
}
