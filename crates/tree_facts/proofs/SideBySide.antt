-- Graphs in one list of nodes read as before.
use Rattle.std.proofs.Common.{ℕ, zero, suc, ◌≡◌, ◌<◌, ◌+◌, List, [], ◌∷◌, ◌++◌, map, length, refl, subst, ap, ◌∙◌, arith, Some, None}
use Rattle.std.specs.Prelude.{All, slice_get, get_or, option_and_then, option_map, Option}
use Rattle.std.proofs.lemmas.List.{length-map, length-append}
use Rattle.std.proofs.lemmas.List.Elements.{All-append, All-map, All-head, All-tail}
use Rattle.std.proofs.lemmas.Option.{slice_get-get_or, slice_get-map, slice_get_within, get_or_from_slice_get}
use Rattle.tree_model.specs.declared.tree.Node.{Node}
use Rattle.tree_model.specs.declared.tree.Symbol.{Symbol}
use Rattle.tree_model.specs.declared.tree.Symbol.TheVariants.{Further}
use Rattle.tree_model.specs.Graphs.{Graph, ChildrenBelow}
use Rattle.tree_model.specs.Signatures.{IsRoot, Fits}
use Rattle.tree_model.specs.Trees.{read}
use Rattle.tree_facts.specs.SideBySide.{IsGraphInRange, shift, beside, merged, merged_root}
use Rattle.tree_facts.specs.Laws.{FrontReads, BackReads, BesideIsInRange, BesideFits, MergedReads, MergedIsInRange, MergedFits}

-- a node with no children, which fits each signature
abbrev pub bare : Node
bare = record { symbol = Further 0; children = [] }

pub front_get : {A : Type 0} (xs ys : List A) (i : ℕ) → i < length xs → slice_get (xs ++ ys) i ≡ slice_get xs i
front_get [] ys i w = absurd (omega arith)
front_get (x ∷ xs) ys zero w = refl
front_get (x ∷ xs) ys (suc i) w = front_get xs ys i (omega arith)

pub back_get : {A : Type 0} (xs ys : List A) (j : ℕ) → slice_get (xs ++ ys) (length xs + j) ≡ slice_get ys j
back_get [] ys j = let e : 0 + j ≡ j = omega arith in rw e refl
back_get (x ∷ xs) ys j = let e : suc (length xs) + j ≡ suc (length xs + j) = omega arith in rw e (back_get xs ys j)

-- two ways on that agree at the child
same_on : (f g : ℕ → Option (Symbol × ℕ)) (o : Option ℕ) → ((c : ℕ) → o ≡ Some c → f c ≡ g c)
    → option_and_then {T = ℕ} {U = Symbol × ℕ} f o ≡ option_and_then {T = ℕ} {U = Symbol × ℕ} g o
same_on f g None h = refl
same_on f g (Some c) h = h c refl

moved_on : (f g : ℕ → Option (Symbol × ℕ)) (k : ℕ) (o : Option ℕ) → ((c : ℕ) → f (k + c) ≡ g c)
    → option_and_then {T = ℕ} {U = Symbol × ℕ} f (option_map (λ c. k + c) o) ≡ option_and_then {T = ℕ} {U = Symbol × ℕ} g o
moved_on f g k None h = refl
moved_on f g k (Some c) h = h c

moved_child : (f g : ℕ → Option (Symbol × ℕ)) (k i : ℕ) (o : Option Node) → ((c : ℕ) → f (k + c) ≡ g c)
    → option_and_then {T = ℕ} {U = Symbol × ℕ} f (option_and_then {T = Node} {U = ℕ} (λ node. slice_get node.children i) (option_map (shift k) o))
    ≡ option_and_then {T = ℕ} {U = Symbol × ℕ} g (option_and_then {T = Node} {U = ℕ} (λ node. slice_get node.children i) o)
moved_child f g k i None h = refl
moved_child f g k i (Some node) h = rw (slice_get-map (λ c. k + c) node.children i) (moved_on f g k (slice_get node.children i) h)

moved_label : (k : ℕ) (o : Option Node)
    → option_map {T = Node} {U = Symbol × ℕ} (λ node. (node.symbol, length node.children)) (option_map (shift k) o)
    ≡ option_map {T = Node} {U = Symbol × ℕ} (λ node. (node.symbol, length node.children)) o
moved_label k None = refl
moved_label k (Some node) = rw (length-map node.children (λ c. k + c)) refl

child_below : (n : ℕ) (xs : List ℕ) (i c : ℕ) → All (λ x. x < n) xs → slice_get xs i ≡ Some c → c < n
child_below n xs i c all e = subst (λ z. z < n) (get_or_from_slice_get xs i c 0 e) (all i 0 (slice_get_within xs i c e))

pub read_front : FrontReads
read_front xs ys place [] all w = rw (front_get xs ys place w) refl
read_front xs ys place (i ∷ path) all w = rw (front_get xs ys place w, slice_get-get_or xs place bare w)
    (same_on (λ c. read (xs ++ ys) c path) (λ c. read xs c path) (slice_get (get_or xs place bare).children i)
    (λ c e. read_front xs ys c path all (child_below (length xs) (get_or xs place bare).children i c (all place bare w) e)))

pub read_back : BackReads
read_back xs ys place [] = rw (back_get xs (map (shift (length xs)) ys) place, slice_get-map (shift (length xs)) ys place)
    (moved_label (length xs) (slice_get ys place))
read_back xs ys place (i ∷ path) = rw (back_get xs (map (shift (length xs)) ys) place, slice_get-map (shift (length xs)) ys place)
    (moved_child (λ c. read (beside xs ys) c path) (λ c. read ys c path) (length xs) i (slice_get ys place) (λ c. read_back xs ys c path))

pub length-beside : (xs ys : List Node) → length (beside xs ys) ≡ length xs + length ys
length-beside xs ys = length-append xs (map (shift (length xs)) ys) ∙ ap (λ z. length xs + z) (length-map ys (shift (length xs)))

pub beside_in_range : BesideIsInRange
beside_in_range xs ys front back =
    let k : ℕ = length xs in
    let n : ℕ = length (beside xs ys) in
    All-append (ChildrenBelow n) xs (map (shift k) ys)
    (λ i d w j c v. omega (arith, length-beside xs ys, front i d w j c v))
    (All-map (ChildrenBelow n) (shift k) ys (λ i d w. All-map (λ c. c < n) (λ c. k + c) (get_or ys i d).children
    (λ j c v. omega (arith, length-beside xs ys, back i d w j c v))))

pub beside_fits : BesideFits
beside_fits σ xs ys front back = All-append (λ node. IsRoot σ node.symbol (length node.children)) xs (map (shift (length xs)) ys) front
    (All-map (λ node. IsRoot σ node.symbol (length node.children)) (shift (length xs)) ys
    (λ i d w. rw (length-map (get_or ys i d).children (λ c. length xs + c)) (back i d w)))

pub read_merged : MergedReads
read_merged [] i d path all w = absurd (omega arith)
read_merged (t ∷ ts) zero d path all w =
    let first : IsGraphInRange t = All-head IsGraphInRange t ts all in
    read_front t.nodes (map (shift (length t.nodes)) (merged ts)) t.root path first.children first.root_within
read_merged (t ∷ ts) (suc i) d path all w =
    read_back t.nodes (merged ts) (merged_root ts i) path ∙ read_merged ts i d path (All-tail IsGraphInRange t ts all) (omega arith)

pub merged_below : (ts : List Graph) → All IsGraphInRange ts → All (ChildrenBelow (length (merged ts))) (merged ts)
merged_below [] all = λ i d w. absurd (omega arith)
merged_below (t ∷ ts) all =
    let first : IsGraphInRange t = All-head IsGraphInRange t ts all in
    beside_in_range t.nodes (merged ts) first.children (merged_below ts (All-tail IsGraphInRange t ts all))

pub merged_root_within : (ts : List Graph) (i : ℕ) → All IsGraphInRange ts → i < length ts → merged_root ts i < length (merged ts)
merged_root_within [] i all w = absurd (omega arith)
merged_root_within (t ∷ ts) zero all w =
    let first : IsGraphInRange t = All-head IsGraphInRange t ts all in
    omega (arith, first.root_within, length-beside t.nodes (merged ts))
merged_root_within (t ∷ ts) (suc i) all w =
    omega (arith, length-beside t.nodes (merged ts), merged_root_within ts i (All-tail IsGraphInRange t ts all) (omega arith))

pub merged_in_range : MergedIsInRange
merged_in_range ts i all w = record { children = merged_below ts all; root_within = merged_root_within ts i all w }

pub merged_fits : MergedFits
merged_fits σ [] all = λ i d w. absurd (omega arith)
merged_fits σ (t ∷ ts) all = beside_fits σ t.nodes (merged ts) (All-head (λ t. Fits σ t.nodes) t ts all)
    (merged_fits σ ts (All-tail (λ t. Fits σ t.nodes) t ts all))
