-- The formula of an assignment: what fits in it, and its text.
use Rattle.std.proofs.Common.{◌≡◌, ℕ, zero, suc, ◌+◌, ◌-◌, ◌<◌, ◌≤◌, false, ◌==◌, List, [], ◌∷◌, ◌++◌, take, drop, get_or, length, Some, refl, sym, ap, ◌∙◌, subst, arith, append_assoc, add-zero, zero-add, add-one, length-append}
use Rattle.std.specs.List.{flat_map, join_by}
use Rattle.std.proofs.lemmas.List.Concat.{flat_map-append}
use Rattle.std.proofs.lemmas.Option.{slice_get-get_or}
use Rattle.formula_ast.proofs.Lists.{take_more_got}
use Rattle.std.specs.Prelude.{All, map, slice_get, slice_index, slice_index_or, codes}
use Rattle.std.proofs.Math.Seq.{drop-cons}
use Rattle.std.proofs.lemmas.List.{length-map, append-nil, length-take-le, get_or_append_left, get_or-append_right}
use Rattle.std.proofs.lemmas.List.Elements.{All-append, All-cons, All-nil}
use Rattle.std.proofs.lemmas.Bool.Decides.{nat_tests}
use Rattle.tree_model.specs.declared.tree.Node.{Node}
use Rattle.tree_model.specs.declared.tree.Symbol.{Symbol}
use Rattle.tree_model.specs.Graphs.{Forest, AreInRange, ChildrenBelow}
use Rattle.tree_model.specs.Signatures.{Signature, IsRoot, Fits}
use Rattle.formula_ast.specs.declared.term.Term.TheVariants as term
use Rattle.formula_ast.specs.Forms as form
use Rattle.formula_ast.specs.Forms.{Form}
use Rattle.formula_grammar.specs.Written.{Text, headed, and, quantified, exists, group}
use Rattle.formula_grammar.specs.Grammar.{level}
use Rattle.formula_printer.specs.Assignments.{node_equation, node_equations, root_equations, equations_of, assignment_form}
use Rattle.formula_printer.specs.Bound.{chained, conjunction, exist}
use Rattle.formula_printer.specs.Printable.{NodeHasWords, TermFits, FormFits}
use Rattle.formula_printer.specs.Steps.{before}
use Rattle.formula_printer.specs.Texts.{names_text, term_text, text_of}
use Rattle.formula_printer.specs.Writing.{text_at, symbol_head, written_terms, written, placed, quantify}
use Rattle.formula_printer.proofs.Layers.{written-var, written-app, has_word, variable_fits_in, application_fits_in}
use Rattle.formula_printer.proofs.Levels.{kept, grouped}
use Rattle.formula_printer.proofs.Places.{some_is}

-- ---- what fits

module _ (σ : Signature) (n : ℕ) where
  children_fit : (cs : List ℕ) → All (λ child. child < n) cs → All (TermFits σ n) (map (λ child. term.Var child) cs)
  children_fit [] h = All-nil (TermFits σ n)
  children_fit (c ∷ cs) h =
      All-cons (TermFits σ n) (term.Var c) (map (λ child. term.Var child) cs) (variable_fits_in σ n c (h 0 c (omega arith))) (children_fit cs (λ j d w. h (suc j) d (omega arith)))

  node_fits : (s : Symbol) (cs : List ℕ) → IsRoot σ s (length cs) → All (λ child. child < n) cs
      → TermFits σ n (term.App s (record { items = map (λ child. term.Var child) cs }))
  node_fits s cs root h = application_fits_in σ n s (record { items = map (λ child. term.Var child) cs }) (rw length-map root) (children_fit cs h)

  nodes_fit : (i : ℕ) (nodes : List Node) → i + length nodes ≤ n → Fits σ nodes → All (ChildrenBelow n) nodes → All (FormFits σ n) (node_equations i nodes)
  nodes_fit i [] w roots below = All-nil (FormFits σ n)
  nodes_fit i (node ∷ nodes) w roots below =
      All-cons (FormFits σ n) (node_equation i node) (node_equations (suc i) nodes)
      (variable_fits_in σ n i (omega arith), node_fits node.symbol node.children (roots 0 node (omega arith)) (below 0 node (omega arith)))
      (nodes_fit (suc i) nodes (omega arith) (λ j d h. roots (suc j) d (omega arith)) (λ j d h. below (suc j) d (omega arith)))

  roots_fit : (i : ℕ) (roots : List ℕ) → i + length roots ≤ n → All (λ root. root < n) roots → All (FormFits σ n) (root_equations i roots)
  roots_fit i [] w below = All-nil (FormFits σ n)
  roots_fit i (root ∷ roots) w below =
      All-cons (FormFits σ n) _ (root_equations (suc i) roots)
      (variable_fits_in σ n i (omega arith), variable_fits_in σ n root (below 0 root (omega arith)))
      (roots_fit (suc i) roots (omega arith) (λ j d h. below (suc j) d (omega arith)))

  chained_fits : (f : Form) (fs : List Form) → FormFits σ n f → All (FormFits σ n) fs → FormFits σ n (chained and f fs)
  chained_fits f [] h all = h
  chained_fits f (g ∷ gs) h all = chained_fits (form.and f g) gs (h, all 0 g (omega arith)) (λ j d w. all (suc j) d (omega arith))

  conjunction_fits : (fs : List Form) → All (FormFits σ n) fs → FormFits σ n (conjunction fs)
  conjunction_fits [] all = tt
  conjunction_fits (f ∷ fs) all = chained_fits f fs (all 0 f (omega arith)) (λ j d w. all (suc j) d (omega arith))

  exist_fits : (i m : ℕ) (f : Form) → i + m ≤ n → FormFits σ n f → FormFits σ n (exist i m f)
  exist_fits i zero f w h = h
  exist_fits i (suc m) f w h = (omega arith, exist_fits (i + 1) m f (omega arith) h)

pub below_more : (m n : ℕ) (xs : List ℕ) → m ≤ n → All (λ x. x < m) xs → All (λ x. x < n) xs
below_more m n xs h all i d w = let below : slice_index_or xs i d < m = all i d w in omega (arith, below, h)

children_below : (m n : ℕ) (nodes : List Node) → m ≤ n → All (ChildrenBelow m) nodes → All (ChildrenBelow n) nodes
children_below m n nodes h all i d w = below_more m n (slice_index_or nodes i d).children h (all i d w)

-- the formula of an assignment fits
pub assignment_fits : (σ : Signature) (n : ℕ) (a : Forest) → length a.nodes + length a.roots ≤ n → Fits σ a.nodes → AreInRange a.nodes a.roots
    → FormFits σ n (assignment_form a)
assignment_fits σ n a w fits range =
    exist_fits σ n 0 (length a.nodes) (conjunction (equations_of a)) (omega arith)
    (conjunction_fits σ n (equations_of a)
    (All-append (FormFits σ n) (node_equations 0 a.nodes) (root_equations (length a.nodes) a.roots)
    (nodes_fit σ n 0 a.nodes (omega arith) fits (children_below (length a.nodes) n a.nodes (omega arith) range.children))
    (roots_fit σ n (length a.nodes) a.roots w (below_more (length a.nodes) n a.roots (omega arith) range.roots_within))))

-- the words of nodes
pub node_words : (σ : Signature) (n : ℕ) (nodes : List Node) → length nodes ≤ n → Fits σ nodes → All (ChildrenBelow (length nodes)) nodes → All (NodeHasWords σ n) nodes
node_words σ n nodes w fits below i d h = record {
  symbol = has_word σ (slice_index_or nodes i d).symbol (length (slice_index_or nodes i d).children) (fits i d h);
  children = below_more (length nodes) n (slice_index_or nodes i d).children w (below i d h);
}

-- ---- the equations, by place

equations_before : (k : ℕ) (nodes : List Node) (i : ℕ) (d : Node) (e : Form) → i < length nodes → get_or (node_equations k nodes) i e ≡ node_equation (k + i) (get_or nodes i d)
equations_before k [] i d e h = absurd (omega arith)
equations_before k (x ∷ nodes) zero d e h = ap (λ j. node_equation j x) (sym (add-zero k))
equations_before k (x ∷ nodes) (suc i) d e h = equations_before (suc k) nodes i d e (omega arith) ∙ ap (λ j. node_equation j (get_or nodes i d)) (omega arith)

equations_behind : (k : ℕ) (roots : List ℕ) (i : ℕ) (e : Form) → i < length roots → get_or (root_equations k roots) i e ≡ form.equal (term.Var (k + i)) (term.Var (get_or roots i 0))
equations_behind k [] i e h = absurd (omega arith)
equations_behind k (x ∷ roots) zero e h = ap (λ j. form.equal (term.Var j) (term.Var x)) (sym (add-zero k))
equations_behind k (x ∷ roots) (suc i) e h = equations_behind (suc k) roots i e (omega arith) ∙ ap (λ j. form.equal (term.Var j) (term.Var (get_or roots i 0))) (omega arith)

nodes_length : (k : ℕ) (nodes : List Node) → length (node_equations k nodes) ≡ length nodes
nodes_length k [] = refl
nodes_length k (node ∷ nodes) = ap suc (nodes_length (suc k) nodes)

roots_length : (k : ℕ) (roots : List ℕ) → length (root_equations k roots) ≡ length roots
roots_length k [] = refl
roots_length k (root ∷ roots) = ap suc (roots_length (suc k) roots)

pub equations_count : (a : Forest) → length (equations_of a) ≡ length a.nodes + length a.roots
equations_count a =
    let all = length-append (node_equations 0 a.nodes) (root_equations (length a.nodes) a.roots) in
    omega (arith, all, nodes_length 0 a.nodes, roots_length (length a.nodes) a.roots)

-- the place among the variables of one behind the nodes
pub root_place : (a : Forest) (i : ℕ) → length a.nodes ≤ i → i < length (equations_of a) → i - length a.nodes < length a.roots
root_place a i past within = omega (arith, equations_count a)

module _ (σ : Signature) (names : List Text) where
  abbrev text : Form → Text
  text f = text_of (written σ names f)

  pub node_text : (a : Forest) (i : ℕ) (node : Node) → i < length a.nodes → get_or a.nodes i node ≡ node
      → text (get_or (equations_of a) i form.always)
      ≡ text_at names i ++ codes " = " ++ term_text (headed (symbol_head σ node.symbol) (written_terms σ names (map (λ child. term.Var child) node.children)))
  node_text a i node h same =
      let within : i < length (node_equations 0 a.nodes) = omega (arith, nodes_length 0 a.nodes) in
      ap text (get_or_append_left (node_equations 0 a.nodes) (root_equations (length a.nodes) a.roots) form.always i within ∙ equations_before 0 a.nodes i node form.always h
      ∙ ap (λ j. node_equation j (get_or a.nodes i node)) (zero-add i) ∙ ap (node_equation i) same)
      ∙ rw (written-var, written-app) refl

  pub root_text : (a : Forest) (i root : ℕ) → length a.nodes ≤ i → i < length (equations_of a) → slice_get a.roots (i - length a.nodes) ≡ Some root
      → text (get_or (equations_of a) i form.always) ≡ text_at names i ++ codes " = " ++ text_at names root
  root_text a i root h w got =
      let n : ℕ = length a.nodes in
      let within : i - n < length a.roots = root_place a i h w in
      let place : n + (i - n) ≡ i = omega arith in
      let is : get_or a.roots (i - n) 0 ≡ root = some_is (sym (slice_get-get_or a.roots (i - n) 0 within) ∙ got) in
      ap text (get_or-append_right (node_equations 0 a.nodes) (root_equations n a.roots) n i form.always (nodes_length 0 a.nodes) h
      ∙ equations_behind n a.roots (i - n) form.always within ∙ ap (λ j. form.equal (term.Var j) (term.Var (get_or a.roots (i - n) 0))) place
      ∙ ap (λ r. form.equal (term.Var i) (term.Var r)) is)
      ∙ rw (written-var σ names i, written-var σ names root) refl

pub got_below : (n : ℕ) (xs : List ℕ) (i x : ℕ) → i < length xs → All (λ r. r < n) xs → slice_get xs i ≡ Some x → x < n
got_below n xs i x within all got = subst (λ z. z < n) (some_is (sym (slice_get-get_or xs i 0 within) ∙ got)) (all i 0 within)

-- ---- the whole text

flat_map-push : {X : Type 0} (f : X → Text) (xs : List X) (x : X) → flat_map f (xs ++ x ∷ []) ≡ flat_map f xs ++ f x
flat_map-push f xs x = flat_map-append f xs (x ∷ []) ∙ ap (λ l. flat_map f xs ++ l) (append-nil (f x))

pub names_more : (names : List Text) (i : ℕ) → i < length names → names_text (take (i + 1) names) ≡ names_text (take i names) ++ codes " " ++ text_at names i
names_more names i h =
    ap names_text (take_more_got names i (text_at names i) (slice_get-get_or names i [] h)) ∙ flat_map-push (λ x. codes " " ++ x) (take i names) (text_at names i)
    ∙ sym (append_assoc (names_text (take i names)) (codes " ") (text_at names i))

joined_push : (f : Form → Text) (sep : Text) (fs : List Form) (g : Form) → join_by f sep (fs ++ g ∷ []) ≡ join_by f sep fs ++ before [] sep (length fs) ++ f g
joined_push f sep [] g = append-nil (f g)
joined_push f sep (x ∷ xs) g =
    let later : (suc (length xs) == 0) ≡ false = grind (arith, nat_tests) in
    rw later (ap (λ l. f x ++ l) (flat_map-push (λ y. sep ++ f y) xs g) ∙ regroup (f x) (flat_map (λ y. sep ++ f y) xs) sep (f g))
  where
    regroup : (a b c d : Text) → a ++ (b ++ (c ++ d)) ≡ ((a ++ b) ++ c) ++ d
    regroup a b c d = simp append_assoc

-- one more item, with a text between each two
pub joined_more : (f : Form → Text) (sep : Text) (fs : List Form) (i : ℕ) → i < length fs
    → join_by f sep (take (i + 1) fs) ≡ join_by f sep (take i fs) ++ before [] sep i ++ f (get_or fs i form.always)
joined_more f sep fs i h =
    let item : Form = get_or fs i form.always in
    ap (join_by f sep) (take_more_got fs i item (slice_get-get_or fs i form.always h)) ∙ joined_push f sep (take i fs) item
    ∙ ap (λ n. join_by f sep (take i fs) ++ before [] sep n ++ f item) (length-take-le i fs (omega arith))

module _ (σ : Signature) (names : List Text) where
  abbrev level_in : Form → ℕ
  level_in f = level (written σ names f)

  -- formulas of the highest level
  abbrev AreAtoms : List Form → Type 0
  AreAtoms [] = Unit {0}
  AreAtoms (f ∷ fs) = (level_in f ≡ 5) × AreAtoms fs

  and_text : (f g : Form) → 4 ≤ level_in f → level_in g ≡ 5 → text σ names (form.and f g) ≡ text σ names f ++ codes " & " ++ text σ names g
  and_text f g tight atom =
      ap (λ w. text_of w ++ codes " & " ++ text_of (placed 5 (written σ names g))) (kept 4 (written σ names f) tight)
      ∙ ap (λ w. text σ names f ++ codes " & " ++ text_of w) (kept 5 (written σ names g) (omega (arith, atom)))

  chained_text : (f : Form) (fs : List Form) → 4 ≤ level_in f → AreAtoms fs
      → text σ names (chained and f fs) ≡ text σ names f ++ flat_map (λ g. codes " & " ++ text σ names g) fs
  chained_text f [] tight atoms = sym (append-nil (text σ names f))
  chained_text f (g ∷ gs) tight atoms =
      let later : Text = flat_map (λ h. codes " & " ++ text σ names h) gs in
      chained_text (form.and f g) gs (omega arith) atoms.1 ∙ ap (λ l. l ++ later) (and_text f g tight atoms.0)
      ∙ regroup (text σ names f) (codes " & ") (text σ names g) later
    where
      regroup : (a b c d : Text) → ((a ++ b) ++ c) ++ d ≡ a ++ ((b ++ c) ++ d)
      regroup a b c d = simp append_assoc

  conjunction_text : (fs : List Form) → AreAtoms fs → 0 < length fs → text σ names (conjunction fs) ≡ join_by (text σ names) (codes " & ") fs
  conjunction_text [] atoms some = absurd (omega arith)
  conjunction_text (f ∷ fs) atoms some = chained_text f fs (omega (arith, atoms.0)) atoms.1

  -- a conjunction of two and more
  level_chained : (f g : Form) (gs : List Form) → level_in (chained and f (g ∷ gs)) ≡ 4
  level_chained f g [] = refl
  level_chained f g (h ∷ hs) = level_chained (form.and f g) h hs

  level_conjunction : (fs : List Form) → 2 ≤ length fs → level_in (conjunction fs) ≡ 4
  level_conjunction [] h = absurd (omega arith)
  level_conjunction (f ∷ []) h = absurd (omega arith)
  level_conjunction (f ∷ g ∷ gs) h = level_chained f g gs

  nodes_atoms : (i : ℕ) (nodes : List Node) (fs : List Form) → AreAtoms fs → AreAtoms (node_equations i nodes ++ fs)
  nodes_atoms i [] fs atoms = atoms
  nodes_atoms i (node ∷ nodes) fs atoms = (refl, nodes_atoms (suc i) nodes fs atoms)

  roots_atoms : (i : ℕ) (roots : List ℕ) → AreAtoms (root_equations i roots)
  roots_atoms i [] = tt
  roots_atoms i (root ∷ roots) = (refl, roots_atoms (suc i) roots)

  -- quantifiers
  abbrev names_from : ℕ → ℕ → List Text
  names_from i zero = []
  names_from i (suc m) = text_at names i ∷ names_from (i + 1) m

  names_are : (m i : ℕ) → i + m ≤ length names → names_from i m ≡ take m (drop i names)
  names_are zero i h = refl
  names_are (suc m) i h = let w : i < length names = omega arith in rw (drop-cons names i []) (ap (λ l. text_at names i ∷ l) (names_are m (i + 1) (omega arith) ∙ ap (λ k. take m (drop k names)) (add-one i)))

  exist_written : (m i : ℕ) (f : Form) → level_in f < 5 → written σ names (exist i (suc m) f) ≡ quantified exists (text_at names i) (names_from (i + 1) m) (group (written σ names f))
  exist_written zero i f low = ap (quantify exists (text_at names i)) (grouped 5 (written σ names f) low)
  exist_written (suc m) i f low = ap (λ w. quantify exists (text_at names i) (placed 5 w)) (exist_written m (i + 1) f low)

  exist_text : (n : ℕ) (f : Form) → 0 < n → n ≤ length names → level_in f < 5
      → text σ names (exist 0 n f) ≡ codes "exists" ++ names_text (take n names) ++ codes ": (" ++ text σ names f ++ codes ")"
  exist_text zero f some w low = absurd (omega arith)
  exist_text (suc m) f some w low =
      ap text_of (exist_written m 0 f low)
      ∙ ap (λ xs. codes "exists" ++ names_text xs ++ codes ": " ++ (codes "(" ++ text σ names f ++ codes ")")) (names_are (suc m) 0 (omega (arith, w)))
      ∙ regroup (codes "exists" ++ names_text (take (suc m) names)) (codes ": ") (codes "(") (text σ names f) (codes ")")
    where
      regroup : (a b c d e : Text) → (a ++ b) ++ ((c ++ d) ++ e) ≡ ((a ++ (b ++ c)) ++ d) ++ e
      regroup a b c d e = simp append_assoc

  pub assignment_text : (a : Forest) → 0 < length a.nodes → 0 < length a.roots → length a.nodes ≤ length names
      → text σ names (assignment_form a)
      ≡ codes "exists" ++ names_text (take (length a.nodes) names) ++ codes ": (" ++ join_by (text σ names) (codes " & ") (equations_of a) ++ codes ")"
  assignment_text a some rooted w =
      let low : level_in (conjunction (equations_of a)) ≡ 4 = level_conjunction (equations_of a) (omega (arith, equations_count a)) in
      let atoms = nodes_atoms 0 a.nodes (root_equations (length a.nodes) a.roots) (roots_atoms (length a.nodes) a.roots) in
      exist_text (length a.nodes) (conjunction (equations_of a)) some w (omega (arith, low))
      ∙ ap (λ l. codes "exists" ++ names_text (take (length a.nodes) names) ++ codes ": (" ++ l ++ codes ")")
      (conjunction_text (equations_of a) atoms (omega (arith, equations_count a)))

pub child_at : (cs : List ℕ) (i c : ℕ) → i < length cs → c ≡ slice_index cs i → slice_get (map (λ child. term.Var child) cs) i ≡ Some (term.Var c)
child_at [] i c w is = absurd (omega arith)
child_at (x ∷ cs) zero c w is = ap (λ y. Some (term.Var y)) (sym is)
child_at (x ∷ cs) (suc i) c w is = child_at cs i c (omega arith) is
