-- The open variables of a cube take indexes that are not used, and no two take one.
use Rattle.std.proofs.Common.{◌≡◌, ◌==◌, ℕ, zero, suc, ◌+◌, ◌<◌, ◌≤◌, Bool, true, false, cond, not, ◌||◌, List, [], ◌∷◌, length, get_or, take, filter, refl, sym, ap, subst, ◌∙◌, inl, inr, arith}
use Rattle.std.specs.Prelude.{Contains}
use Rattle.std.specs.List.{range_with_len, list_any}
use Rattle.std.proofs.lemmas.Bool.{false≢true, eqb-true, eq-eqb}
use Rattle.std.proofs.lemmas.List.FromFn.{length-range_with_len}
use Rattle.formula_ast.specs.Occurrences.{without}
use Rattle.formula_ast.proofs.Standing.{Has, contained, from_contained}
use Rattle.flat_form.specs.declared.atom.Flat.{Flat}
use Rattle.flat_form.specs.declared.atom.Flat.TheVariants.{VarVar, VarTerm, Finite}
use Rattle.flat_form.specs.declared.cube.Cube.{Cube}
use Rattle.flat_form.specs.Orders.{place_of}
use Rattle.flat_form.specs.Solved.{IsOpen}
use Rattle.numbering.proofs.Numbers.{place_low, place_at}
use Rattle.witness_trees.specs.Fresh.{unused, defines, open_variables, index}
use Rattle.witness_trees.specs.FreshLaws.{IndexesAreFresh}
use Rattle.witness_trees.proofs.Occurring.{OnePlace, same_place, without_one_place, has_at, range_in, in_range, range_one_place}
use Rattle.witness_trees.proofs.Terms.{any_in, none_in}

-- ---- what a filter and a front keep

pub filter_has : (p : ℕ → Bool) (xs : List ℕ) (v : ℕ) → Has v (filter p xs) → (p v ≡ true) × Has v xs
filter_has p [] v h = absurd h
filter_has p (x ∷ xs) v h = by (filter_has p xs v) (p x) refl h
  where
    by : (Has v (filter p xs) → (p v ≡ true) × Has v xs) → (b : Bool) → p x ≡ b → Has v (cond b (x ∷ filter p xs) (filter p xs)) → (p v ≡ true) × Has v (x ∷ xs)
    by rest true is (inl e) = (subst (λ (w : ℕ). p w ≡ true) e is, inl e)
    by rest true is (inr k) = let r = rest k in (r.0, inr r.1)
    by rest false is k = let r = rest k in (r.0, inr r.1)

pub filter_keeps : (p : ℕ → Bool) (xs : List ℕ) (v : ℕ) → p v ≡ true → Has v xs → Has v (filter p xs)
filter_keeps p [] v t h = absurd h
filter_keeps p (x ∷ xs) v t h = by (filter_keeps p xs v t) (p x) refl h
  where
    by : (Has v xs → Has v (filter p xs)) → (b : Bool) → p x ≡ b → Has v (x ∷ xs) → Has v (cond b (x ∷ filter p xs) (filter p xs))
    by rest true is (inl e) = inl e
    by rest true is (inr k) = inr (rest k)
    by rest false is (inl e) = absurd (false≢true (sym is ∙ subst (λ (w : ℕ). p w ≡ true) (sym e) t))
    by rest false is (inr k) = rest k

pub filter_one_place : (p : ℕ → Bool) (xs : List ℕ) → OnePlace xs → OnePlace (filter p xs)
unfolding OnePlace
filter_one_place p [] one = tt
filter_one_place p (x ∷ xs) one = by (filter_one_place p xs one.1) (p x)
  where
    by : OnePlace (filter p xs) → (b : Bool) → OnePlace (cond b (x ∷ filter p xs) (filter p xs))
    by rest true = (λ h. one.0 (filter_has p xs x h).1, rest)
    by rest false = rest

front_has : (n : ℕ) (xs : List ℕ) (v : ℕ) → Has v (take n xs) → Has v xs
front_has zero [] v h = h
front_has zero (x ∷ xs) v h = absurd h
front_has (suc n) [] v h = h
front_has (suc n) (x ∷ xs) v (inl e) = inl e
front_has (suc n) (x ∷ xs) v (inr h) = inr (front_has n xs v h)

front_one_place : (n : ℕ) (xs : List ℕ) → OnePlace xs → OnePlace (take n xs)
unfolding OnePlace
front_one_place zero [] one = tt
front_one_place zero (x ∷ xs) one = tt
front_one_place (suc n) [] one = tt
front_one_place (suc n) (x ∷ xs) one = (λ h. one.0 (front_has n xs x h), front_one_place n xs one.1)

front_length : (n : ℕ) (xs : List ℕ) → n ≤ length xs → length (take n xs) ≡ n
front_length zero [] le = refl
front_length zero (x ∷ xs) le = refl
front_length (suc n) [] le = absurd (omega arith)
front_length (suc n) (x ∷ xs) le = ap suc (front_length n xs (omega arith))

-- ---- how many are left

without_none : (u : ℕ) (xs : List ℕ) → (Has u xs → ⊥) → without u xs ≡ xs
without_none u [] none = refl
without_none u (x ∷ xs) none = by (without_none u xs (λ h. none (inr h))) (u == x) refl
  where
    by : without u xs ≡ xs → (b : Bool) → (u == x) ≡ b → cond (not b) (x ∷ without u xs) (without u xs) ≡ x ∷ xs
    by rest true is = absurd (none (inl (sym (eqb-true u x is))))
    by rest false is = ap (λ l. x ∷ l) rest

pub loses_one : (u : ℕ) (xs : List ℕ) → OnePlace xs → length xs ≤ 1 + length (without u xs)
unfolding OnePlace
loses_one u [] one = omega arith
loses_one u (x ∷ xs) one = by (loses_one u xs one.1) (u == x) refl
  where
    by : length xs ≤ 1 + length (without u xs) → (b : Bool) → (u == x) ≡ b → length (x ∷ xs) ≤ 1 + length (cond (not b) (x ∷ without u xs) (without u xs))
    by rest true is =
        let same : length (without u xs) ≡ length xs = ap length (without_none u xs (λ h. one.0 (subst (λ (w : ℕ). Has w xs) (eqb-true u x is) h))) in omega arith
    by rest false is = omega arith

abbrev is_used : List ℕ → ℕ → Bool
is_used used k = list_any (λ u. u == k) used

abbrev free_of : List ℕ → List ℕ → List ℕ
free_of used xs = filter (λ k. not (is_used used k)) xs

all_free : (xs : List ℕ) → free_of [] xs ≡ xs
all_free [] = refl
all_free (x ∷ xs) = ap (λ l. x ∷ l) (all_free xs)

one_more_used : (u : ℕ) (used xs : List ℕ) → free_of (u ∷ used) xs ≡ free_of used (without u xs)
one_more_used u used [] = refl
one_more_used u used (x ∷ xs) = by (one_more_used u used xs) (u == x)
  where
    by : free_of (u ∷ used) xs ≡ free_of used (without u xs) → (b : Bool)
        → cond (not (b || is_used used x)) (x ∷ free_of (u ∷ used) xs) (free_of (u ∷ used) xs) ≡ free_of used (cond (not b) (x ∷ without u xs) (without u xs))
    by rest true = rest
    by rest false = ap (λ l. cond (not (is_used used x)) (x ∷ l) l) rest

enough : (used xs : List ℕ) → OnePlace xs → length xs ≤ length (free_of used xs) + length used
enough [] xs one = let same = ap length (all_free xs) in omega arith
enough (u ∷ used) xs one =
    let rest = enough used (without u xs) (without_one_place u xs one) in
    let same : length (free_of (u ∷ used) xs) ≡ length (free_of used (without u xs)) = ap length (one_more_used u used xs) in
    omega (arith, loses_one u xs one)

-- there are as many as are asked for
pub unused_length : (used : List ℕ) (n : ℕ) → length (unused used n) ≡ n
unused_length used n =
    let all = range_with_len 0 (n + length used) in
    front_length n (free_of used all) (omega (arith, enough used all (range_one_place 0 (n + length used)), length-range_with_len 0 (n + length used)))

unused_one_place : (used : List ℕ) (n : ℕ) → OnePlace (unused used n)
unused_one_place used n =
    let all = range_with_len 0 (n + length used) in
    front_one_place n (free_of used all) (filter_one_place (λ k. not (is_used used k)) all (range_one_place 0 (n + length used)))

-- ---- open variables

not_is_true : (b : Bool) → not b ≡ true → b ≡ false
not_is_true true e = absurd (false≢true e)
not_is_true false e = refl

pub open_tells : (c : Cube) (v : ℕ) → Contains (open_variables c) v → (v < c.free + c.outer) × IsOpen c.basic v
open_tells c v there =
    let kept = filter_has (λ v. not (list_any (defines v) c.basic)) (range_with_len 0 (c.free + c.outer)) v (from_contained v (open_variables c) there) in
    let none = not_is_true (list_any (defines v) c.basic) kept.0 in
    let within = range_in 0 (c.free + c.outer) v (contained v (range_with_len 0 (c.free + c.outer)) kept.1) in (
      omega (arith, within.1),
      record {
        no_variable = λ r said. false≢true (sym none ∙ any_in (defines v) c.basic (VarVar v r) said (eq-eqb v v refl));
        no_term = λ s xs said. false≢true (sym none ∙ any_in (defines v) c.basic (VarTerm v s xs) said (eq-eqb v v refl));
      },
    )

pub tells_open : (c : Cube) (v : ℕ) → v < c.free + c.outer → IsOpen c.basic v → Contains (open_variables c) v
tells_open c v less bare =
    let all = range_with_len 0 (c.free + c.outer) in
    let none : list_any (defines v) c.basic ≡ false = none_in (defines v) c.basic defined in
    contained v (open_variables c)
    (filter_keeps (λ v. not (list_any (defines v) c.basic)) all v (ap not none) (from_contained v all (in_range 0 (c.free + c.outer) v (omega arith) (omega arith))))
  where
    defined : (x : Flat) → Contains c.basic x → defines v x ≡ true → ⊥
    defined (VarVar u r) there t = bare.no_variable r (subst (λ (w : ℕ). Contains c.basic (VarVar w r)) (eqb-true u v t) there)
    defined (VarTerm u s xs) there t = bare.no_term s xs (subst (λ (w : ℕ). Contains c.basic (VarTerm w s xs)) (eqb-true u v t) there)
    defined (Finite u) there t = false≢true t

-- ---- indexes

module _ (c : Cube) (used : List ℕ) where
  abbrev taken : List ℕ
  taken = unused used (length (open_variables c))

  abbrev place : ℕ → ℕ
  place = place_of (open_variables c)

  index_new : (v : ℕ) → Contains (open_variables c) v → ¬ Contains used (index c used v)
  index_new v there used_too =
      let k = index c used v in
      let all = range_with_len 0 (length (open_variables c) + length used) in
      let among : Has k taken = has_at taken (place v) k (omega (arith, unused_length used (length (open_variables c)), place_low (open_variables c) v there)) refl in
      let kept = filter_has (λ k. not (is_used used k)) all k (front_has (length (open_variables c)) (free_of used all) k among) in
      false≢true (sym (not_is_true (is_used used k) kept.0) ∙ any_in (λ u. u == k) used k used_too (eq-eqb k k refl))

  index_apart : (v w : ℕ) → Contains (open_variables c) v → Contains (open_variables c) w → index c used v ≡ index c used w → v ≡ w
  index_apart v w first second same =
      let size = unused_length used (length (open_variables c)) in
      let low_v = place_low (open_variables c) v first in
      let low_w = place_low (open_variables c) w second in
      let places : place v ≡ place w =
      same_place taken (unused_one_place used (length (open_variables c))) (place v) (place w) (omega (arith, size, low_v)) (omega (arith, size, low_w)) same in
      sym (place_at (open_variables c) v low_v) ∙ ap (λ i. get_or (open_variables c) i 0) places ∙ place_at (open_variables c) w low_w

pub indexes_fresh : IndexesAreFresh
indexes_fresh = record { new = index_new; apart = index_apart }
