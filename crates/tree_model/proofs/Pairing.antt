-- The pairs that two trees are compared at.
use Rattle.std.proofs.Common.{◌≡◌, ℕ, zero, suc, ◌<◌, ◌≤◌, ◌+◌, ◌*◌, ◌/◌, Bool, true, false, List, [], ◌∷◌, ◌++◌, Option, Some, None, length, get_or, set, take, refl, sym, ap, ◌∙◌, subst, ◌⊎◌, inl, inr, arith, append_assoc, add-one}
use Rattle.std.specs.Prelude.{All, Contains, slice_get, slice_index, option_and_then}
use Rattle.std.specs.List.{zip}
use Rattle.std.proofs.lemmas.Bool.{cases_eq}
use Rattle.std.proofs.lemmas.List.{append-nil, take-append-le, take_all, length-append, length-set, get_or-set_other}
use Rattle.std.proofs.lemmas.List.Elements.{All-nil, All-cons, All-head, All-tail, All-push, All-append, All-contains, All-weaker, All-more, Contains-append_left, Contains-append_right, Contains-push, Contains-push_cases, Contains-get_or}
use Rattle.std.proofs.lemmas.Option.{slice_get_read, some_pair_parts}
use Rattle.std.proofs.lemmas.Nat.{div-mul-add}
use Rattle.tree_model.specs.declared.tree.Node.{Node}
use Rattle.tree_model.specs.declared.tree.Symbol.{Symbol}
use Rattle.tree_model.specs.Comparing.{Table, IsTable, Adds}
use Rattle.tree_model.specs.Graphs.{Graph}
use Rattle.tree_model.specs.Trees.{read, label_at, child_of, Same}
use Rattle.tree_model.proofs.Marking.{child_of-node}

abbrev Pair : Type 0
Pair = ℕ × ℕ

contains_one : (pair : Pair) → Contains (pair ∷ []) pair
contains_one pair = (0, omega arith, refl)

-- what was among the pairs before is among them afterwards
pub kept : {s t : Table} {ps : List Pair} → Adds s t ps → (pair : Pair) → Contains s.pairs pair → Contains t.pairs pair
kept {s = s} {t = t} a pair has = subst (λ (l : List Pair). Contains l pair) (sym a.grown.1) (Contains-append_left s.pairs a.grown.0 pair has)

pub adds_none : (t : Table) → Adds t t []
adds_none t = record {
  grown = ([], sym (append-nil t.pairs));
  only = λ pair has. inl has;
  all = All-nil (Contains t.pairs);
  counted = refl;
  height_kept = refl;
  width_kept = refl;
}

pub adds_then : {s t u : Table} {ps qs : List Pair} → Adds s t ps → Adds t u qs → Adds s u (ps ++ qs)
adds_then {s = s} {t = t} {u = u} {ps = ps} {qs = qs} a b = record {
  grown = (a.grown.0 ++ b.grown.0, b.grown.1 ∙ ap (λ l. l ++ b.grown.0) a.grown.1 ∙ append_assoc s.pairs a.grown.0 b.grown.0);
  only = λ pair has. by pair (b.only pair has);
  all = All-append (Contains u.pairs) ps qs (All-weaker (Contains t.pairs) (Contains u.pairs) (kept b) ps a.all) b.all;
  counted = b.counted ∙ a.counted;
  height_kept = b.height_kept ∙ a.height_kept;
  width_kept = b.width_kept ∙ a.width_kept;
}
  where
    early : (pair : Pair) → Contains s.pairs pair ⊎ Contains ps pair → Contains s.pairs pair ⊎ Contains (ps ++ qs) pair
    early pair (inl has) = inl has
    early pair (inr has) = inr (Contains-append_left ps qs pair has)

    by : (pair : Pair) → Contains t.pairs pair ⊎ Contains qs pair → Contains s.pairs pair ⊎ Contains (ps ++ qs) pair
    by pair (inl has) = early pair (a.only pair has)
    by pair (inr has) = inr (Contains-append_right ps qs pair has)

-- a pair that is among them already
pub adds_known : (t : Table) (pair : Pair) → Contains t.pairs pair → Adds t t (pair ∷ [])
adds_known t pair has = record {
  grown = ([], sym (append-nil t.pairs));
  only = λ p h. inl h;
  all = All-cons (Contains t.pairs) pair [] has (All-nil (Contains t.pairs));
  counted = refl;
  height_kept = refl;
  width_kept = refl;
}

-- a pair that is new
pub adds_new : (s t : Table) (pair : Pair) → t.pairs ≡ s.pairs ++ pair ∷ [] → t.left + 1 ≡ s.left → t.height ≡ s.height → t.width ≡ s.width
    → Adds s t (pair ∷ [])
adds_new s t pair e left height width = record {
  grown = (pair ∷ [], e);
  only = λ p h. by p (Contains-push_cases s.pairs pair p (subst (λ (l : List Pair). Contains l p) e h));
  all = All-cons (Contains t.pairs) pair [] (subst (λ (l : List Pair). Contains l pair) (sym e) (Contains-push s.pairs pair)) (All-nil (Contains t.pairs));
  counted =
      let longer : length t.pairs ≡ length s.pairs + 1 = ap (λ (l : List Pair). length l) e ∙ length-append s.pairs (pair ∷ []) in
      omega (arith, longer, left);
  height_kept = height;
  width_kept = width;
}
  where
    by : (p : Pair) → Contains s.pairs p ⊎ (pair ≡ p) → Contains s.pairs p ⊎ Contains (pair ∷ []) p
    by p (inl h) = inl h
    by p (inr h) = inr (subst (Contains (pair ∷ [])) h (contains_one pair))

-- neither has a child, or both have one and these are listed
abbrev pub AreListed : List Pair → Option ℕ → Option ℕ → Type 0
AreListed pairs None None = Unit {0}
AreListed pairs (Some x) (Some y) = Contains pairs (x, y)
AreListed pairs _ _ = ⊥

-- the places read one symbol, and their children are listed
pub record AgreesAt (lefts rights : List Node) (pairs : List (ℕ × ℕ)) (pair : ℕ × ℕ) : Type 0 where
  pub label : label_at lefts pair.0 ≡ label_at rights pair.1
  pub children : (i : ℕ) → AreListed pairs (child_of lefts pair.0 i) (child_of rights pair.1 i)

-- the places read alike at every path
abbrev pub AreAlike : List Node → List Node → ℕ × ℕ → Type 0
AreAlike lefts rights pair = (path : List ℕ) → read lefts pair.0 path ≡ read rights pair.1 path

-- the state of the comparison, where the first i pairs were looked at
pub record IsComparing (a b : Graph) (table : Table) (i : ℕ) : Type 0 where
  pub roots : Contains table.pairs (a.root, b.root)
  pub done : All (AgreesAt a.nodes b.nodes table.pairs) (take i table.pairs)
  pub alike : Same a b → All (AreAlike a.nodes b.nodes) table.pairs
  pub height_is : table.height ≡ length a.nodes
  pub width_is : table.width ≡ length b.nodes

-- children that are listed side by side
listed_children : (pairs : List Pair) (xs ys : List ℕ) → length xs ≡ length ys → All (Contains pairs) (zip xs ys)
    → (i : ℕ) → AreListed pairs (slice_get xs i) (slice_get ys i)
listed_children pairs [] [] e all i = tt
listed_children pairs [] (y ∷ ys) e all i = absurd (omega (arith, e))
listed_children pairs (x ∷ xs) [] e all i = absurd (omega (arith, e))
listed_children pairs (x ∷ xs) (y ∷ ys) e all zero = All-head (Contains pairs) (x, y) (zip xs ys) all
listed_children pairs (x ∷ xs) (y ∷ ys) e all (suc i) = listed_children pairs xs ys (omega (arith, e)) (All-tail (Contains pairs) (x, y) (zip xs ys) all) i

-- below a listed pair of options the readings are alike, if they are below each listed pair
alike_below : (pairs : List Pair) (a b : Option ℕ) (f g : ℕ → Option (Symbol × ℕ)) → ((x y : ℕ) → Contains pairs (x, y) → f x ≡ g y)
    → AreListed pairs a b → option_and_then {T = ℕ} {U = Symbol × ℕ} f a ≡ option_and_then {T = ℕ} {U = Symbol × ℕ} g b
alike_below pairs None None f g h listed = refl
alike_below pairs None (Some y) f g h listed = absurd listed
alike_below pairs (Some x) None f g h listed = absurd listed
alike_below pairs (Some x) (Some y) f g h listed = h x y listed

-- where all the pairs agree, they read alike
pub closed : (lefts rights : List Node) (pairs : List Pair) → All (AgreesAt lefts rights pairs) pairs
    → (path : List ℕ) (x y : ℕ) → Contains pairs (x, y) → read lefts x path ≡ read rights y path
closed lefts rights pairs all [] x y has = (All-contains (AgreesAt lefts rights pairs) pairs (x, y) all has).label
closed lefts rights pairs all (i ∷ path) x y has =
    alike_below pairs (child_of lefts x i) (child_of rights y i) (λ child. read lefts child path) (λ child. read rights child path)
    (closed lefts rights pairs all path) ((All-contains (AgreesAt lefts rights pairs) pairs (x, y) all has).children i)

listed_more : (pairs more : List Pair) → ((pair : Pair) → Contains pairs pair → Contains more pair) → (a b : Option ℕ) → AreListed pairs a b → AreListed more a b
listed_more pairs more k None None listed = listed
listed_more pairs more k None (Some y) listed = listed
listed_more pairs more k (Some x) None listed = listed
listed_more pairs more k (Some x) (Some y) listed = k (x, y) listed

agrees_more : {lefts rights : List Node} {pairs more : List Pair} → ((pair : Pair) → Contains pairs pair → Contains more pair) → (pair : Pair)
    → AgreesAt lefts rights pairs pair → AgreesAt lefts rights more pair
agrees_more {pairs = pairs} {more = more} k pair a = record {
  label = a.label;
  children = λ i. listed_more pairs more k _ _ (a.children i);
}

-- what is marked behind one more pair
pub marked : (pairs : List Pair) (marks : List Bool) (height width x y : ℕ) → x < height → y < width → IsTable pairs marks height width
    → IsTable (pairs ++ (x, y) ∷ []) (set marks (x * width + y) true) height width
marked pairs marks height width x y left right t = record {
  size = length-set marks (x * width + y) true ∙ t.size;
  within = All-push (λ (pair : Pair). (pair.0 < height) × (pair.1 < width)) pairs (x, y) t.within (left, right);
  listed = λ p q lp lq m. by p q lp lq m (cases_eq (p * width + q) (x * width + y));
}
  where
    by : (p q : ℕ) → p < height → q < width → get_or (set marks (x * width + y) true) (p * width + q) false ≡ true
        → (p * width + q ≡ x * width + y) ⊎ (p * width + q ≡ x * width + y → ⊥) → Contains (pairs ++ (x, y) ∷ []) (p, q)
    by p q lp lq m (inl same) =
        let row : p ≡ x = sym (div-mul-add p width q lq) ∙ ap (λ n. n / width) same ∙ div-mul-add x width y right in
        let column : q ≡ y = omega (arith, same, ap (λ n. n * width) row) in
        rw (row, column) (Contains-push pairs (x, y))
    by p q lp lq m (inr other) =
        Contains-append_left pairs ((x, y) ∷ []) (p, q) (t.listed p q lp lq (sym (get_or-set_other marks (x * width + y) (p * width + q) true false other) ∙ m))

zip_next : (xs ys : List ℕ) (i : ℕ) → length xs ≡ length ys → i < length xs → take (suc i) (zip xs ys) ≡ take i (zip xs ys) ++ (slice_index xs i, slice_index ys i) ∷ []
zip_next [] ys i l w = absurd (omega arith)
zip_next (x ∷ xs) [] i l w = absurd (omega arith)
zip_next (x ∷ xs) (y ∷ ys) zero l w = refl
zip_next (x ∷ xs) (y ∷ ys) (suc i) l w = ap (λ rest. (x, y) ∷ rest) (zip_next xs ys i (omega arith) (omega arith))

pub zip_more : (xs ys : List ℕ) (i : ℕ) → length xs ≡ length ys → i < length xs → take (i + 1) (zip xs ys) ≡ take i (zip xs ys) ++ (slice_index xs i, slice_index ys i) ∷ []
zip_more xs ys i l w = rw add-one (zip_next xs ys i l w)

pub zip_short : (xs ys : List ℕ) → length (zip xs ys) ≤ length xs
zip_short [] ys = omega arith
zip_short (x ∷ xs) [] = omega arith
zip_short (x ∷ xs) (y ∷ ys) = omega (arith, zip_short xs ys)

all_from : {A : Type 0} (P : A → Type 0) (xs : List A) → ((x : A) → Contains xs x → P x) → All P xs
all_from P xs f k d w = f (get_or xs k d) (Contains-get_or xs k d w)

module _ (lefts rights : List Node) where
  below : (xs ys : List ℕ)
      → ((i : ℕ) (path : List ℕ) → option_and_then {T = ℕ} {U = Symbol × ℕ} (λ c. read lefts c path) (slice_get xs i) ≡ option_and_then {T = ℕ} {U = Symbol × ℕ} (λ c. read rights c path) (slice_get ys i))
      → All (AreAlike lefts rights) (zip xs ys)
  below [] ys h = All-nil (AreAlike lefts rights)
  below (x ∷ xs) [] h = All-nil (AreAlike lefts rights)
  below (x ∷ xs) (y ∷ ys) h = All-cons (AreAlike lefts rights) (x, y) (zip xs ys) (h 0) (below xs ys (λ i. h (suc i)))

  module _ (x y : ℕ) (p q : Node) (left : x < length lefts) (right : y < length rights) (p_is : p ≡ get_or lefts x p) (q_is : q ≡ get_or rights y q) where
    left_label : label_at lefts x ≡ Some (p.symbol, length p.children)
    left_label = rw (slice_get_read lefts _ x p refl left p_is) refl

    right_label : label_at rights y ≡ Some (q.symbol, length q.children)
    right_label = rw (slice_get_read rights _ y q refl right q_is) refl

    -- nodes of one symbol whose children are listed
    pub agrees : (pairs : List Pair) → p.symbol ≡ q.symbol → length p.children ≡ length q.children → All (Contains pairs) (zip p.children q.children)
        → AgreesAt lefts rights pairs (x, y)
    agrees pairs s n all = record {
      label = rw (left_label, right_label, s, n) refl;
      children = λ i. rw (child_of-node lefts x i p left p_is, child_of-node rights y i q right q_is) (listed_children pairs p.children q.children n all i);
    }

    -- alike places have nodes of one symbol and as many children
    pub one_label : AreAlike lefts rights (x, y) → (p.symbol ≡ q.symbol) × (length p.children ≡ length q.children)
    one_label alike = some_pair_parts p.symbol q.symbol (length p.children) (length q.children) (sym left_label ∙ alike [] ∙ right_label)

    -- and alike children
    pub alike_children : AreAlike lefts rights (x, y) → All (AreAlike lefts rights) (zip p.children q.children)
    alike_children alike = below p.children q.children (λ i path.
        rw (← child_of-node lefts x i p left p_is, ← child_of-node rights y i q right q_is) (alike (i ∷ path)))

module _ (a b : Graph) where
  pub begins : (s t : Table) → s.pairs ≡ [] → Adds s t ((a.root, b.root) ∷ []) → t.height ≡ length a.nodes → t.width ≡ length b.nodes
      → IsComparing a b t 0
  begins s t none adds height width = record {
    roots = All-head (Contains t.pairs) (a.root, b.root) [] adds.all;
    done = All-nil (AgreesAt a.nodes b.nodes t.pairs);
    alike = λ same. all_from (AreAlike a.nodes b.nodes) t.pairs (λ pair has. by same pair (adds.only pair has));
    height_is = height;
    width_is = width;
  }
    where
      one : Same a b → (pair : Pair) → Contains ((a.root, b.root) ∷ []) pair → AreAlike a.nodes b.nodes pair
      one same pair has = All-contains (AreAlike a.nodes b.nodes) ((a.root, b.root) ∷ []) pair (All-cons (AreAlike a.nodes b.nodes) (a.root, b.root) [] same (All-nil (AreAlike a.nodes b.nodes))) has

      by : Same a b → (pair : Pair) → Contains s.pairs pair ⊎ Contains ((a.root, b.root) ∷ []) pair → AreAlike a.nodes b.nodes pair
      by same pair (inl has) = absurd (omega (arith, has.1, ap (λ (l : List Pair). length l) none))
      by same pair (inr has) = one same pair has

  module _ (s : Table) (i : ℕ) (state : IsComparing a b s i) (pair : Pair) (p q : Node) (within : i < length s.pairs) (pair_is : pair ≡ get_or s.pairs i pair)
      (left : pair.0 < length a.nodes) (right : pair.1 < length b.nodes) (p_is : p ≡ get_or a.nodes pair.0 p) (q_is : q ≡ get_or b.nodes pair.1 q) where
    has_pair : Contains s.pairs pair
    has_pair = (i, within, sym pair_is)

    -- one tree has one symbol here
    pub one_label_here : Same a b → (p.symbol ≡ q.symbol) × (length p.children ≡ length q.children)
    one_label_here same =
        one_label a.nodes b.nodes pair.0 pair.1 p q left right p_is q_is (All-contains (AreAlike a.nodes b.nodes) s.pairs pair (state.alike same) has_pair)

    pub compared : (t : Table) → p.symbol ≡ q.symbol → length p.children ≡ length q.children → Adds s t (zip p.children q.children)
        → IsComparing a b t (i + 1)
    compared t symbol count adds = record {
      roots = kept adds (a.root, b.root) state.roots;
      done = subst (All (AgreesAt a.nodes b.nodes t.pairs)) (sym front) (All-more (AgreesAt a.nodes b.nodes t.pairs) s.pairs i pair within
          (All-weaker (AgreesAt a.nodes b.nodes s.pairs) (AgreesAt a.nodes b.nodes t.pairs) (agrees_more (kept adds)) (take i s.pairs) state.done)
          (subst (AgreesAt a.nodes b.nodes t.pairs) pair_is (agrees a.nodes b.nodes pair.0 pair.1 p q left right p_is q_is t.pairs symbol count adds.all)));
      alike = λ same. all_from (AreAlike a.nodes b.nodes) t.pairs (λ one has. by same one (adds.only one has));
      height_is = adds.height_kept ∙ state.height_is;
      width_is = adds.width_kept ∙ state.width_is;
    }
      where
        front : take (i + 1) t.pairs ≡ take (i + 1) s.pairs
        front = ap (λ l. take (i + 1) l) adds.grown.1 ∙ take-append-le (i + 1) s.pairs adds.grown.0 (omega arith)

        by : Same a b → (one : Pair) → Contains s.pairs one ⊎ Contains (zip p.children q.children) one → AreAlike a.nodes b.nodes one
        by same one (inl has) = All-contains (AreAlike a.nodes b.nodes) s.pairs one (state.alike same) has
        by same one (inr has) =
            All-contains (AreAlike a.nodes b.nodes) (zip p.children q.children) one
            (alike_children a.nodes b.nodes pair.0 pair.1 p q left right p_is q_is (All-contains (AreAlike a.nodes b.nodes) s.pairs pair (state.alike same) has_pair)) has

  -- with no pair left both are one tree
  pub all_compared : (s : Table) (i : ℕ) → length s.pairs ≤ i → IsComparing a b s i → Same a b
  all_compared s i all state path =
      closed a.nodes b.nodes s.pairs (subst (All (AgreesAt a.nodes b.nodes s.pairs)) (take_all i s.pairs all) state.done) path a.root b.root state.roots
