-- A solved conjunction is its own solved form.
use Rattle.std.proofs.Common.{ℕ, ◌≡◌, ◌<◌, ◌≤◌, List, [], length, refl, sym, ap, ◌∙◌, subst, arith, inl, inr, ◌⊎◌, Some, None}
use Rattle.std.specs.Prelude.{Option, slice_index, Contains}
use Rattle.std.proofs.lemmas.Grind.{same_number_lists}
use Rattle.classical.specs.Classical.{Exists}
use Rattle.classical.proofs.Codes.{nat_stable}
use Rattle.classical.proofs.Stable.{◌>>=◌, either_way}
use Rattle.tree_model.specs.declared.tree.Symbol.{Symbol}
use Rattle.tree_facts.specs.Equations.{Equation, equals_variable, equals_term}
use Rattle.tree_facts.proofs.Lookup.{equation_of, IsEquationOf, found}
use Rattle.flat_form.specs.declared.atom.Flat.{Flat}
use Rattle.flat_form.specs.declared.atom.Flat.TheVariants.{VarVar, VarTerm, Finite}
use Rattle.flat_form.specs.Classes.{Class, itself, turned, joined, stated, inward, outward, Reached, marked, child, Walk, step, more, Unsolvable, clash, loop}
use Rattle.flat_form.specs.Solved.{IsOpen, IsSolved}
use Rattle.flat_form.specs.Added.{IsHead, by_root, AddsEqual, AddsTerm, AddsFinite, Adds}
use Rattle.flat_facts.specs.AddedLaws.{SolvedIsOwnForm}
use Rattle.flat_facts.proofs.Heads.{head_unique}
use Rattle.flat_facts.proofs.Lists.{one_each, equations_of, atom_stands, parameter_open}
use Rattle.flat_facts.proofs.Shapes.{all_open, finite_open}

le_or_lt : (m n : ℕ) → (m ≤ n) ⊎ (n < m)
le_or_lt m n = grind arith

module _ (atoms : List Flat) (solved : IsSolved atoms) where
  -- r is what v equals; where no equation says so, it is v itself
  abbrev Stands : ℕ → ℕ → Type 0
  Stands v r = Contains atoms (VarVar v r) ⊎ ((v ≡ r) × ((q : ℕ) → ¬ Contains atoms (VarVar v q)))

  right_of : Flat → ℕ
  right_of (VarVar u r) = r
  right_of (VarTerm u s xs) = u
  right_of (Finite u) = u

  kinds_differ : (u r : ℕ) (s : Symbol) (xs : List ℕ) → ¬ (VarVar u r ≡ VarTerm u s xs)
  kinds_differ u r s xs = λ e. cc e

  one_right : (v r q : ℕ) → Contains atoms (VarVar v r) → Contains atoms (VarVar v q) → r ≡ q
  unfolding right_of
  one_right v r q i j = ap right_of (one_each atoms solved.ascending (VarVar v r) (VarVar v q) i j refl)

  stands_once : (v r q : ℕ) → Stands v r → Stands v q → r ≡ q
  stands_once v r q (inl i) (inl j) = one_right v r q i j
  stands_once v r q (inl i) (inr own) = absurd (own.1 r i)
  stands_once v r q (inr own) (inl j) = absurd (own.1 q j)
  stands_once v r q (inr own) (inr same) = sym own.0 ∙ same.0

  stands_some : (v : ℕ) → Exists (Stands v)
  stands_some v c = do
    x ← either_way ((r : ℕ) × Contains atoms (VarVar v r))
    elim x [
      | inl (r, i) ↦ c (r, inl i)
      | inr none ↦ c (v, inr (refl, λ r i. none (r, i)))
    ]

  term_own : (v : ℕ) (s : Symbol) (xs : List ℕ) → Contains atoms (VarTerm v s xs) → Stands v v
  term_own v s xs i = inr (refl, λ r j. kinds_differ v r s xs (one_each atoms solved.ascending (VarVar v r) (VarTerm v s xs) j i refl))

  open_own : (v : ℕ) → IsOpen atoms v → Stands v v
  open_own v bare = inr (refl, bare.no_variable)

  argument_own : (v : ℕ) (s : Symbol) (xs : List ℕ) → Contains atoms (VarTerm v s xs) → (i : ℕ) → i < length xs → Stands (slice_index xs i) (slice_index xs i)
  argument_own v s xs stands i w = inr (refl, solved.plain v s xs stands i w)

  one_term : (u v : ℕ) (s t : Symbol) (xs ys : List ℕ) → Contains atoms (VarTerm u s xs) → Contains atoms (VarTerm v t ys) → u ≡ v → VarTerm u s xs ≡ VarTerm v t ys
  one_term u v s t xs ys i j e = one_each atoms solved.ascending (VarTerm u s xs) (VarTerm v t ys) i j e

  list_of : Flat → List ℕ
  list_of (VarVar u r) = []
  list_of (VarTerm u s xs) = xs
  list_of (Finite u) = []

  symbol_or : Symbol → Flat → Symbol
  symbol_or d (VarVar u r) = d
  symbol_or d (VarTerm u s xs) = s
  symbol_or d (Finite u) = d

  one_list_of : (u v : ℕ) (s t : Symbol) (xs ys : List ℕ) → Contains atoms (VarTerm u s xs) → Contains atoms (VarTerm v t ys) → u ≡ v → xs ≡ ys
  unfolding list_of
  one_list_of u v s t xs ys i j e = ap list_of (one_term u v s t xs ys i j e)

  one_symbol : (u v : ℕ) (s t : Symbol) (xs ys : List ℕ) → Contains atoms (VarTerm u s xs) → Contains atoms (VarTerm v t ys) → u ≡ v → s ≡ t
  unfolding symbol_or
  one_symbol u v s t xs ys i j e = ap (symbol_or s) (one_term u v s t xs ys i j e)

  -- the variables of a class equal one
  pub class_stands : {u v : ℕ} → Class atoms u v → (r q : ℕ) → Stands u r → Stands v q → r ≡ q
  class_stands (itself u) r q a b = stands_once u r q a b
  class_stands (turned c) r q a b = sym (class_stands c q r b a)
  class_stands (joined {u} {v} {w} c d) r q a b = (nat_stable r q).holds (λ n. do
    (m, between) ← stands_some v
    n (class_stands c r m a between ∙ class_stands d m q between b))
  class_stands (stated {u} {v} i) r q a b = stands_once u r v a (inl i) ∙ stands_once v v q (inr (refl, (solved.direct u v i).1)) b
  class_stands (inward {u} {v} s xs ys i j len c k w) r q a b =
      let same : u ≡ v = class_stands c u v (term_own u s xs i) (term_own v s ys j) in
      let lists : xs ≡ ys = one_list_of u v s s xs ys i j same in
      let P : List ℕ → Type 0 = λ z. Stands (slice_index z k) q in
      stands_once (slice_index xs k) r q a (subst P (sym lists) b)
  class_stands (outward {u} {v} s xs ys i j len c) r q a b =
      let lists : xs ≡ ys = same_number_lists xs ys len (λ k w.
      class_stands (c k w) (slice_index xs k) (slice_index ys k) (argument_own u s xs i k w) (argument_own v s ys j k (omega (arith, len)))) in
      let P : List ℕ → Type 0 = λ z. Contains atoms (VarTerm v s z) in
      let same : u ≡ v = solved.apart u v s xs i (subst P (sym lists) j) in
      let Q : ℕ → Type 0 = λ z. Stands z q in
      stands_once u r q a (subst Q (sym same) b)

  -- what is reached is the class of a finite root
  record FromRoot (v : ℕ) : Type 0 where
    root : ℕ
    stands : Contains atoms (Finite root)
    one_class : Class atoms root v

  root_no_term : (root v : ℕ) (s : Symbol) (xs : List ℕ) → Contains atoms (Finite root) → Class atoms root v → ¬ Contains atoms (VarTerm v s xs)
  root_no_term root v s xs finite c = λ i.
      let bare : IsOpen atoms root = finite_open atoms solved.ascending root finite in
      let same : root ≡ v = class_stands c root v (open_own root bare) (term_own v s xs i) in
      bare.no_term s xs (subst (λ z. Contains atoms (VarTerm z s xs)) (sym same) i)

  from_root : {v : ℕ} → Reached atoms v → FromRoot v
  from_root (marked {u} {v} i c) = record { root = u; stands = i; one_class = c }
  from_root (child {u} {w} s xs r i k within c) = let f = from_root r in absurd (root_no_term f.root u s xs f.stands f.one_class i)

  walk_no_root : (root : ℕ) {u w : ℕ} → Contains atoms (Finite root) → Class atoms root u → ¬ Walk atoms u w
  walk_no_root root finite c = λ walk. first root finite c walk
    where
      first : (root : ℕ) {u w : ℕ} → Contains atoms (Finite root) → Class atoms root u → Walk atoms u w → ⊥
      first root finite c (step {u} {v} {w} s xs d i k within e) = root_no_term root v s xs finite (joined c d) i
      first root finite c (more a b) = first root finite c a

  own_solvable : ¬ Unsolvable atoms
  own_solvable (clash c) =
      let same : c.left ≡ c.right = class_stands c.one_class c.left c.right
      (term_own c.left c.left_symbol c.xs c.left_stands) (term_own c.right c.right_symbol c.ys c.right_stands) in
      c.differ (
        one_symbol c.left c.right c.left_symbol c.right_symbol c.xs c.ys c.left_stands c.right_stands same,
        ap length (one_list_of c.left c.right c.left_symbol c.right_symbol c.xs c.ys c.left_stands c.right_stands same),
      )
  own_solvable (loop {v} r walk) = let f = from_root r in walk_no_root f.root f.stands f.one_class walk

  no_base : (a : Flat) → ¬ Contains [] a
  no_base a = λ i. omega (arith, i.1)

  -- the head of a class is what its variables equal
  own_least : (v r w : ℕ) → Stands v r → Class atoms v w → r ≤ w
  own_least v r w a c = elim (le_or_lt r w) [
    | inl le ↦ le
    | inr lt ↦ absurd (do
      (q, b) ← stands_some w
      let same : r ≡ q = class_stands c r q a b in
          elim b [
            | inl i ↦ omega (arith, (solved.direct w q i).0, same, lt)
            | inr own ↦ omega (arith, own.0, same, lt)
          ])
  ]

  stands_class : (v r : ℕ) → Stands v r → Class atoms v r
  stands_class v r (inl i) = stated i
  stands_class v r (inr own) = let P : ℕ → Type 0 = λ z. Class atoms v z in subst P own.0 (itself v)

  stands_head : (v r : ℕ) → Stands v r → IsHead [] atoms v r
  stands_head v r a = by_root (λ w c t. no_base (VarTerm w t.0 t.1) t.2) (stands_class v r a) (all_open r) (λ w c o. own_least v r w a c)

  own_each : (a : Flat) → Contains atoms a → Adds [] atoms a
  own_each (VarVar v r) i = record {
    bare = all_open v;
    head = stands_head v r (inl i);
    differ = λ e. omega (arith, (solved.direct v r i).0, e);
  }
  own_each (VarTerm v s xs) i = record {
    bare = all_open v;
    head = stands_head v v (term_own v s xs i);
    variable = v;
    xs = xs;
    one_class = itself v;
    stands = i;
    as_many = refl;
    heads = λ k w. stands_head (slice_index xs k) (slice_index xs k) (argument_own v s xs i k w);
  }
  own_each (Finite v) i = record {
    bare = all_open v;
    head = stands_head v v (open_own v (finite_open atoms solved.ascending v i));
    no_term = λ u s xs c. root_no_term v u s xs i c;
    reached = marked i (itself v);
    new = λ r c. no_base (Finite r);
  }

  -- v has a term, equals another variable, or is a root
  data Kind (v : ℕ) : Type 0 where
    equal : (r : ℕ) → Contains atoms (VarVar v r) → Kind v
    applied : (s : Symbol) (xs : List ℕ) → Contains atoms (VarTerm v s xs) → Kind v
    root : IsOpen atoms v → Kind v

  kind_by : (v : ℕ) (o : Option Equation) → IsEquationOf (equations_of atoms) v o → Kind v
  kind_by v None parameter = root (parameter_open atoms v parameter)
  kind_by v (Some (equals_variable u r)) is_of =
      equal r (subst (λ (z : ℕ). Contains atoms (VarVar z r)) is_of.1 (atom_stands atoms (equals_variable u r) is_of.0))
  kind_by v (Some (equals_term u s xs)) is_of =
      applied s xs (subst (λ (z : ℕ). Contains atoms (VarTerm z s xs)) is_of.1 (atom_stands atoms (equals_term u s xs) is_of.0))

  kind : (v : ℕ) → Kind v
  kind v = kind_by v (equation_of (equations_of atoms) v) (found (equations_of atoms) v)

  is_head : (v r h : ℕ) → Stands v r → IsHead [] atoms v h → r ≡ h
  is_head v r h a head = head_unique [] atoms v r h (stands_head v r a) head

  equal_in : (v h : ℕ) → Kind v → AddsEqual [] atoms v h → Contains atoms (VarVar v h)
  equal_in v h (equal r i) new = subst (λ z. Contains atoms (VarVar v z)) (is_head v r h (inl i) new.head) i
  equal_in v h (applied s xs i) new = absurd (new.differ (is_head v v h (term_own v s xs i) new.head))
  equal_in v h (root bare) new = absurd (new.differ (is_head v v h (open_own v bare) new.head))

  own_differs : (v r : ℕ) → Contains atoms (VarVar v r) → ¬ IsHead [] atoms v v
  own_differs v r i head = omega (arith, (solved.direct v r i).0, is_head v r v (inl i) head)

  term_in : (v : ℕ) (s : Symbol) (ys : List ℕ) → Kind v → AddsTerm [] atoms v s ys → Contains atoms (VarTerm v s ys)
  term_in v s ys (equal r i) new = absurd (own_differs v r i new.head)
  term_in v s ys (root bare) new =
      let same : v ≡ new.variable = class_stands new.one_class v new.variable (open_own v bare) (term_own new.variable s new.xs new.stands) in
      absurd (bare.no_term s new.xs (subst (λ z. Contains atoms (VarTerm z s new.xs)) (sym same) new.stands))
  term_in v s ys (applied t zs i) new =
      let same : v ≡ new.variable = class_stands new.one_class v new.variable (term_own v t zs i) (term_own new.variable s new.xs new.stands) in
      let lists : new.xs ≡ ys = same_number_lists new.xs ys (sym new.as_many) (λ k w.
      is_head (slice_index new.xs k) (slice_index new.xs k) (slice_index ys k) (argument_own new.variable s new.xs new.stands k w) (new.heads k w)) in
      let here : Contains atoms (VarTerm v s new.xs) = subst (λ z. Contains atoms (VarTerm z s new.xs)) (sym same) new.stands in
      subst (λ z. Contains atoms (VarTerm v s z)) lists here

  finite_in : (v : ℕ) → Kind v → AddsFinite [] atoms v → Contains atoms (Finite v)
  finite_in v (equal r i) new = absurd (own_differs v r i new.head)
  finite_in v (applied s xs i) new = absurd (new.no_term v s xs (itself v) i)
  finite_in v (root bare) new =
      let f = from_root new.reached in
      let same : f.root ≡ v = class_stands f.one_class f.root v (open_own f.root (finite_open atoms solved.ascending f.root f.stands)) (open_own v bare) in
      subst (λ z. Contains atoms (Finite z)) same f.stands

  own_all : (a : Flat) → Adds [] atoms a → Contains atoms a
  own_all (VarVar v h) new = equal_in v h (kind v) new
  own_all (VarTerm v s ys) new = term_in v s ys (kind v) new
  own_all (Finite v) new = finite_in v (kind v) new

pub own_form : SolvedIsOwnForm
own_form atoms solved = record {
  solvable = own_solvable atoms solved;
  ascending = solved.ascending;
  each = own_each atoms solved;
  all = own_all atoms solved;
}
