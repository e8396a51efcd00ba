-- Nodes that are numbered are never refused.
use Rattle.std.proofs.Common.{◌≡◌, ℕ, zero, suc, ◌<◌, ◌≤◌, [], ◌∷◌, List, length, refl, arith, Some}
use Rattle.std.specs.Prelude.{slice_get, slice_index_or}
use Rattle.tree_model.specs.Answers.{AreRefused}
use Rattle.tree_model.specs.Graphs.{Forest, AreInRange}
use Rattle.tree_model.specs.declared.tree.Node.{Node}
use Rattle.tree_model.specs.declared.tree.Symbol.TheVariants.{Further}
use Rattle.tree_model.specs.declared.tree.TreeError.{TreeError}
use Rattle.tree_model.specs.declared.tree.TreeError.TheVariants.{Child, Root}
use Rattle.witness_trees.specs.Numbering.{AreLabels, AreNumbered}
use Rattle.witness_trees.proofs.Numbered.{all_numbered}
use Rattle.witness_trees.proofs.Table.{breadth_in_range}
use Rattle.witness_trees.proofs.Terms.{term}

in_range_not_refused : (nodes : List Node) (roots : List ℕ) (error : TreeError) → AreInRange nodes roots → AreRefused nodes roots error → ⊥
in_range_not_refused nodes roots (Child i) range refused = refused.stray (term (Further 0) []) (range.children i (term (Further 0) []) refused.within)
in_range_not_refused nodes roots Root range refused = refused.1 range.roots_within

-- the labels of a table
label_in : List Node → ℕ → Node
label_in labels v = slice_index_or labels v (term (Further 0) [])

got : (labels : List Node) (v : ℕ) → v < length labels → slice_get labels v ≡ Some (label_in labels v)
unfolding label_in
got [] v w = absurd (omega arith)
got (x ∷ labels) zero w = refl
got (x ∷ labels) (suc v) w = got labels v (omega arith)

pub never_refused : (labels : List Node) (tops order : List ℕ) (nodes : List Node) (roots : List ℕ) (error : TreeError)
    → ((label : ℕ → Node) → AreLabels label labels → AreNumbered label tops order nodes roots) → length order ≤ length nodes → AreRefused nodes roots error → ⊥
never_refused labels tops order nodes roots error numbered end =
    let a : Forest = record { nodes = nodes; roots = roots } in
    in_range_not_refused nodes roots error
    (breadth_in_range (label_in labels) tops a (all_numbered (label_in labels) tops order nodes roots a (numbered (label_in labels) (got labels)) end refl refl))
