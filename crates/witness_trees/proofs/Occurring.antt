-- Lists of numbers: what stands in them, first occurrences, and lists without repeats.
use Rattle.std.proofs.Common.{◌≡◌, ◌≢◌, ◌==◌, ℕ, zero, suc, ◌+◌, ◌<◌, ◌≤◌, Bool, true, false, cond, not, List, [], ◌∷◌, ◌++◌, length, get_or, map, take, refl, sym, ap, ◌∙◌, ◌⊎◌, inl, inr, arith}
use Rattle.std.specs.Prelude.{All, Contains, flat_map}
use Rattle.std.specs.List.{range_with_len}
use Rattle.std.proofs.lemmas.Bool.{eqb-true, eqb-false, cases_eq}
use Rattle.std.proofs.lemmas.List.Elements.{All-cons, All-nil, All-append, All-head, All-tail, All-contains, filter-append}
use Rattle.std.proofs.lemmas.List.FromFn.{length-range_with_len, get_or-range_with_len}
use Rattle.formula_ast.specs.Occurrences.{without, first_occurrences}
use Rattle.formula_ast.proofs.Standing.{Has, contained}

-- ---- first occurrences

-- those of the first of two lists stand in front
pub starts : (xs ys : List ℕ) → (w : List ℕ) × (first_occurrences (xs ++ ys) ≡ first_occurrences xs ++ w)
starts [] ys = (first_occurrences ys, refl)
starts (x ∷ xs) ys =
    let (w, e) = starts xs ys in
    (without x w, ap (λ l. x ∷ without x l) e ∙ ap (λ l. x ∷ l) (filter-append (λ z. not (x == z)) (first_occurrences xs) w))

pub has_kept : (x y : ℕ) (zs : List ℕ) → Has y (without x zs) → (x ≢ y) × Has y zs
has_kept x y [] h = absurd h
has_kept x y (z ∷ zs) h = by (has_kept x y zs) (x == z) refl h
  where
    by : (Has y (without x zs) → (x ≢ y) × Has y zs) → (b : Bool) → (x == z) ≡ b → Has y (cond (not b) (z ∷ without x zs) (without x zs)) → (x ≢ y) × Has y (z ∷ zs)
    by rest true e k = let r = rest k in (r.0, inr r.1)
    by rest false e (inl is) = (λ same. eqb-false x z e (same ∙ sym is), inl is)
    by rest false e (inr k) = let r = rest k in (r.0, inr r.1)

pub has_still : (x y : ℕ) (zs : List ℕ) → x ≢ y → Has y zs → Has y (without x zs)
has_still x y [] ne h = absurd h
has_still x y (z ∷ zs) ne h = by (has_still x y zs ne) (x == z) refl h
  where
    by : (Has y zs → Has y (without x zs)) → (b : Bool) → (x == z) ≡ b → Has y (z ∷ zs) → Has y (cond (not b) (z ∷ without x zs) (without x zs))
    by rest true e (inl is) = absurd (ne (eqb-true x z e ∙ is))
    by rest true e (inr k) = rest k
    by rest false e (inl is) = inl is
    by rest false e (inr k) = inr (rest k)

pub first_has : (y : ℕ) (xs : List ℕ) → Has y xs → Has y (first_occurrences xs)
first_has y [] h = h
first_has y (x ∷ xs) (inl e) = inl e
first_has y (x ∷ xs) (inr h) = by (first_has y xs h) (cases_eq x y)
  where
    by : Has y (first_occurrences xs) → (x ≡ y) ⊎ (x ≡ y → ⊥) → Has y (first_occurrences (x ∷ xs))
    by rest (inl e) = inl e
    by rest (inr ne) = inr (has_still x y (first_occurrences xs) ne rest)

-- and are among its items
pub has_first : (y : ℕ) (xs : List ℕ) → Has y (first_occurrences xs) → Has y xs
has_first y [] h = h
has_first y (x ∷ xs) (inl e) = inl e
has_first y (x ∷ xs) (inr h) = inr (has_first y xs (has_kept x y (first_occurrences xs) h).1)

-- ---- lists without repeats

unfoldable pub OnePlace : List ℕ → Type 0
OnePlace [] = Unit {0}
OnePlace (x ∷ xs) = (Has x xs → ⊥) × OnePlace xs

pub without_one_place : (x : ℕ) (zs : List ℕ) → OnePlace zs → OnePlace (without x zs)
unfolding OnePlace
without_one_place x [] one = tt
without_one_place x (z ∷ zs) one = by (without_one_place x zs one.1) (x == z)
  where
    by : OnePlace (without x zs) → (b : Bool) → OnePlace (cond (not b) (z ∷ without x zs) (without x zs))
    by rest true = rest
    by rest false = (λ h. one.0 (has_kept x z zs h).1, rest)

pub first_one_place : (xs : List ℕ) → OnePlace (first_occurrences xs)
unfolding OnePlace
first_one_place [] = tt
first_one_place (x ∷ xs) = (λ h. (has_kept x x (first_occurrences xs) h).0 refl, without_one_place x (first_occurrences xs) (first_one_place xs))

pub has_at : (xs : List ℕ) (i v : ℕ) → i < length xs → get_or xs i 0 ≡ v → Has v xs
has_at [] i v w e = absurd (omega arith)
has_at (x ∷ xs) zero v w e = inl e
has_at (x ∷ xs) (suc i) v w e = inr (has_at xs i v (omega arith) e)

pub same_place : (xs : List ℕ) → OnePlace xs → (i j : ℕ) → i < length xs → j < length xs → get_or xs i 0 ≡ get_or xs j 0 → i ≡ j
unfolding OnePlace
same_place [] one i j v w e = absurd (omega arith)
same_place (x ∷ xs) one zero zero v w e = refl
same_place (x ∷ xs) one zero (suc j) v w e = absurd (one.0 (has_at xs j x (omega arith) (sym e)))
same_place (x ∷ xs) one (suc i) zero v w e = absurd (one.0 (has_at xs i x (omega arith) e))
same_place (x ∷ xs) one (suc i) (suc j) v w e = ap suc (same_place xs one.1 i j (omega arith) (omega arith) e)

-- ---- joined lists

pub in_left : (xs ys : List ℕ) (v : ℕ) → Has v xs → Has v (xs ++ ys)
in_left [] ys v h = absurd h
in_left (x ∷ xs) ys v (inl e) = inl e
in_left (x ∷ xs) ys v (inr h) = inr (in_left xs ys v h)

pub in_right : (xs ys : List ℕ) (v : ℕ) → Has v ys → Has v (xs ++ ys)
in_right [] ys v h = h
in_right (x ∷ xs) ys v h = inr (in_right xs ys v h)

pub in_parts : (xs ys : List ℕ) (v : ℕ) → Has v (xs ++ ys) → Has v xs ⊎ Has v ys
in_parts [] ys v h = inr h
in_parts (x ∷ xs) ys v (inl e) = inl (inl e)
in_parts (x ∷ xs) ys v (inr h) = elim (in_parts xs ys v h) [ inl k ↦ inl (inr k) | inr k ↦ inr k ]

pub take_has : (k : ℕ) (xs : List ℕ) (j : ℕ) → j < k → j < length xs → Contains (take k xs) (get_or xs j 0)
take_has k [] j less w = absurd (omega arith)
take_has zero (x ∷ xs) j less w = absurd (omega arith)
take_has (suc k) (x ∷ xs) zero less w = (0, omega arith, refl)
take_has (suc k) (x ∷ xs) (suc j) less w = let c = take_has k xs j (omega arith) (omega arith) in (suc c.0, omega (arith, c.1), c.2)

pub take_all : {A : Type 0} (xs : List A) → take (length xs) xs ≡ xs
take_all [] = refl
take_all (x ∷ xs) = ap (λ l. x ∷ l) (take_all xs)

pub any_default : {A : Type 0} (xs : List A) (k : ℕ) (d e : A) → k < length xs → get_or xs k d ≡ get_or xs k e
any_default [] k d e w = absurd (omega arith)
any_default (x ∷ xs) zero d e w = refl
any_default (x ∷ xs) (suc k) d e w = any_default xs k d e (omega arith)

-- each item of a list is among it
pub contained_all : {A : Type 0} (xs : List A) → All (Contains xs) xs
contained_all xs k d w = (k, w, any_default xs k (get_or xs k d) d w)

module _ {A : Type 0} (P : A → Type 0) where
  pub all_left : (xs ys : List A) → All P (xs ++ ys) → All P xs
  all_left [] ys all = All-nil P
  all_left (x ∷ xs) ys all = All-cons P x xs (All-head P x (xs ++ ys) all) (all_left xs ys (All-tail P x (xs ++ ys) all))

  pub all_right : (xs ys : List A) → All P (xs ++ ys) → All P ys
  all_right [] ys all = all
  all_right (x ∷ xs) ys all = all_right xs ys (All-tail P x (xs ++ ys) all)

  -- of each item of the lists that stand for items
  pub all_flat : {B : Type 0} (f : B → List A) (ys : List B) → All (λ y. All P (f y)) ys → All P (flat_map f ys)
  all_flat f [] all = All-nil P
  all_flat f (y ∷ ys) all =
      All-append P (f y) (flat_map f ys) (All-head (λ y. All P (f y)) y ys all) (all_flat f ys (All-tail (λ y. All P (f y)) y ys all))

  pub flat_all : {B : Type 0} (f : B → List A) (ys : List B) → All P (flat_map f ys) → All (λ y. All P (f y)) ys
  flat_all f [] all = All-nil (λ y. All P (f y))
  flat_all f (y ∷ ys) all =
      All-cons (λ y. All P (f y)) y ys (all_left (f y) (flat_map f ys) all) (flat_all f ys (all_right (f y) (flat_map f ys) all))

pub flat_in : {A B : Type 0} (f : B → List A) (ys : List B) (y : B) (x : A) → Contains ys y → Contains (f y) x → Contains (flat_map f ys) x
flat_in f ys y x there c =
    All-contains (Contains (flat_map f ys)) (f y) x
    (All-contains (λ y. All (Contains (flat_map f ys)) (f y)) ys y (flat_all (Contains (flat_map f ys)) f ys (contained_all (flat_map f ys))) there) c

pub map_in : (f : ℕ → ℕ) (xs : List ℕ) (v : ℕ) → Contains xs v → Contains (map f xs) (f v)
map_in f [] v c = absurd (omega (arith, c.1))
map_in f (x ∷ xs) v (zero, w, is) = (0, omega arith, ap f is)
map_in f (x ∷ xs) v (suc i, w, is) = let c = map_in f xs v (i, omega (arith, w), is) in (suc c.0, omega (arith, c.1), c.2)

pub many : {A B : Type 0} (f : A → B) (xs : List A) → length (map f xs) ≡ length xs
many f [] = refl
many f (x ∷ xs) = ap suc (many f xs)

pub map_twice : {A B C : Type 0} (g : B → C) (f : A → B) (xs : List A) → map g (map f xs) ≡ map (λ x. g (f x)) xs
map_twice g f [] = refl
map_twice g f (x ∷ xs) = ap (λ l. g (f x) ∷ l) (map_twice g f xs)

-- ---- numbers in order

pub in_range : (a n v : ℕ) → a ≤ v → v < a + n → Contains (range_with_len a n) v
in_range a zero v le less = absurd (omega arith)
in_range a (suc n) v le less = by (λ lower. in_range (a + 1) n v lower (omega arith)) (cases_eq a v)
  where
    by : (a + 1 ≤ v → Contains (range_with_len (a + 1) n) v) → (a ≡ v) ⊎ (a ≡ v → ⊥) → Contains (range_with_len a (suc n)) v
    by rest (inl is) = (0, omega arith, is)
    by rest (inr ne) = let c = rest (omega arith) in (suc c.0, omega (arith, c.1), c.2)

pub range_in : (a n v : ℕ) → Contains (range_with_len a n) v → (a ≤ v) × (v < a + n)
range_in a n v (i, w, is) =
    let less : i < n = omega (arith, length-range_with_len a n) in
    let at_i : a + i ≡ v = sym (get_or-range_with_len a n i v less) ∙ is in (omega arith, omega arith)

pub range_one_place : (a n : ℕ) → OnePlace (range_with_len a n)
unfolding OnePlace
range_one_place a zero = tt
range_one_place a (suc n) = (λ h. absurd (omega (arith, (range_in (a + 1) n a (contained a (range_with_len (a + 1) n) h)).0)), range_one_place (a + 1) n)
