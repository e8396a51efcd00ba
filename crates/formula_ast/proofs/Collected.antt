-- Lists that are collected, each item once.
use Rattle.std.proofs.Common.{◌≡◌, ℕ, Bool, true, false, cond, not, ◌||◌, ◌==◌, List, [], ◌∷◌, ◌++◌, refl, sym, ap, ◌∙◌, append_assoc}
use Rattle.std.specs.List.{list_any}
use Rattle.std.proofs.lemmas.Bool.{eqb-true}
use Rattle.std.proofs.lemmas.List.{append-nil}
use Rattle.std.proofs.lemmas.List.Elements.{filter-append}
use Rattle.formula_ast.specs.Occurrences.{without, first_occurrences}
use Rattle.formula_ast.specs.Collecting.{Collects, without_all}

-- whether x is in the list
abbrev pub has : ℕ → List ℕ → Bool
has x xs = list_any (λ y. y == x) xs

or_kept : (a b c d : Bool) → (a || c) ≡ (a || d) → (a || (b || c)) ≡ (a || (b || d))
or_kept true b c d e = refl
or_kept false true c d e = refl
or_kept false false c d e = e

or_twice : (a c d : Bool) → (a || c) ≡ (a || d) → (a || c) ≡ (a || (a || d))
or_twice true c d e = refl
or_twice false c d e = e

cond_not : (b : Bool) (u v : List ℕ) → cond (not b) u v ≡ cond b v u
cond_not true u v = refl
cond_not false u v = refl

has-without : (x y : ℕ) (xs : List ℕ) → ((y == x) || has x (without y xs)) ≡ ((y == x) || has x xs)
has-without x y [] = refl
has-without x y (z ∷ zs) = by (has-without x y zs) (y == z) refl
  where
    by : ((y == x) || has x (without y zs)) ≡ ((y == x) || has x zs)
        → (b : Bool) → (y == z) ≡ b → ((y == x) || has x (cond (not b) (z ∷ without y zs) (without y zs))) ≡ ((y == x) || ((z == x) || has x zs))
    by rest true e =
        or_twice (y == x) (has x (without y zs)) (has x zs) rest
        ∙ ap (λ w. (y == x) || ((w == x) || has x zs)) (eqb-true y z e)
    by rest false e = or_kept (y == x) (z == x) (has x (without y zs)) (has x zs) rest

-- an item is among the first occurrences where it is in the list
pub has-first : (x : ℕ) (xs : List ℕ) → has x (first_occurrences xs) ≡ has x xs
has-first x [] = refl
has-first x (y ∷ ys) = has-without x y (first_occurrences ys) ∙ ap (λ b. (y == x) || b) (has-first x ys)

without_one : (x y : ℕ) → without y (x ∷ []) ≡ cond (y == x) [] (x ∷ [])
without_one x y = cond_not (y == x) (x ∷ []) []

-- one more item
pub first-push : (xs : List ℕ) (x : ℕ) → first_occurrences (xs ++ x ∷ []) ≡ cond (has x xs) (first_occurrences xs) (first_occurrences xs ++ x ∷ [])
first-push [] x = refl
first-push (y ∷ ys) x = ap (λ l. y ∷ without y l) (first-push ys x) ∙ by (has x ys) (y == x) (without_one x y)
  where
    by : (b c : Bool) → without y (x ∷ []) ≡ cond c [] (x ∷ [])
        → y ∷ without y (cond b (first_occurrences ys) (first_occurrences ys ++ x ∷ []))
        ≡ cond (c || b) (y ∷ without y (first_occurrences ys)) (y ∷ without y (first_occurrences ys) ++ x ∷ [])
    by true true e = refl
    by true false e = refl
    by false true e =
        ap (λ l. y ∷ l) (filter-append (λ z. not (y == z)) (first_occurrences ys) (x ∷ []) ∙ ap (λ l. without y (first_occurrences ys) ++ l) e ∙ append-nil (without y (first_occurrences ys)))
    by false false e =
        ap (λ l. y ∷ l) (filter-append (λ z. not (y == z)) (first_occurrences ys) (x ∷ []) ∙ ap (λ l. without y (first_occurrences ys) ++ l) e)

without_all-nil : (bound : List ℕ) → without_all bound [] ≡ []
without_all-nil [] = refl
without_all-nil (x ∷ bound) = ap (without x) (without_all-nil bound)

without_all-append : (bound xs ys : List ℕ) → without_all bound (xs ++ ys) ≡ without_all bound xs ++ without_all bound ys
without_all-append [] xs ys = refl
without_all-append (x ∷ bound) xs ys = ap (without x) (without_all-append bound xs ys) ∙ filter-append (λ y. not (x == y)) (without_all bound xs) (without_all bound ys)

pub without_all-push : (bound : List ℕ) (x : ℕ) (xs : List ℕ) → without_all (bound ++ x ∷ []) xs ≡ without_all bound (without x xs)
without_all-push [] x xs = refl
without_all-push (y ∷ bound) x xs = ap (without y) (without_all-push bound x xs)

without_all-one : (bound : List ℕ) (x : ℕ) → without_all bound (x ∷ []) ≡ cond (has x bound) [] (x ∷ [])
without_all-one [] x = refl
without_all-one (y ∷ bound) x = ap (without y) (without_all-one bound x) ∙ by (has x bound) (y == x) (without_one x y)
  where
    by : (b c : Bool) → without y (x ∷ []) ≡ cond c [] (x ∷ []) → without y (cond b [] (x ∷ [])) ≡ cond (c || b) [] (x ∷ [])
    by true true e = refl
    by true false e = refl
    by false true e = e
    by false false e = e

pub collects_none : (xs : List ℕ) → Collects xs xs []
collects_none xs seen is = is ∙ ap first_occurrences (sym (append-nil seen))

pub collects_then : {a b c xs ys : List ℕ} → Collects a b xs → Collects b c ys → Collects a c (xs ++ ys)
collects_then {xs = xs} {ys = ys} first second seen is = second (seen ++ xs) (first seen is) ∙ ap first_occurrences (append_assoc seen xs ys)

was_had : (xs : List ℕ) (x : ℕ) (b : Bool) → has x xs ≡ b → (seen : List ℕ) → xs ≡ first_occurrences seen → has x seen ≡ b
was_had xs x b e seen is = sym (has-first x seen) ∙ ap (has x) (sym is) ∙ e

-- an item that is there
pub collects_known : (xs : List ℕ) (x : ℕ) → has x xs ≡ true → Collects xs xs (x ∷ [])
collects_known xs x known seen is =
    is ∙ sym (first-push seen x ∙ ap (λ b. cond b (first_occurrences seen) (first_occurrences seen ++ x ∷ [])) (was_had xs x true known seen is))

-- an item that is new
pub collects_new : (xs : List ℕ) (x : ℕ) → has x xs ≡ false → Collects xs (xs ++ x ∷ []) (x ∷ [])
collects_new xs x new seen is =
    ap (λ l. l ++ x ∷ []) is ∙ sym (first-push seen x ∙ ap (λ b. cond b (first_occurrences seen) (first_occurrences seen ++ x ∷ [])) (was_had xs x false new seen is))

-- a variable that a quantifier binds
pub collects_bound : (bound xs : List ℕ) (x : ℕ) → has x bound ≡ true → Collects xs xs (without_all bound (x ∷ []))
collects_bound bound xs x e = rw (without_all-one bound x, e) (collects_none xs)

-- one that none binds
pub collects_free : (bound xs ys : List ℕ) (x : ℕ) → has x bound ≡ false → Collects xs ys (x ∷ []) → Collects xs ys (without_all bound (x ∷ []))
collects_free bound xs ys x e h = rw (without_all-one bound x, e) h

pub nothing_met : (bound xs : List ℕ) → Collects xs xs (without_all bound [])
nothing_met bound xs = rw without_all-nil (collects_none xs)

pub both_met : (bound : List ℕ) {a b c : List ℕ} (xs ys : List ℕ) → Collects a b (without_all bound xs) → Collects b c (without_all bound ys)
    → Collects a c (without_all bound (xs ++ ys))
both_met bound xs ys first second = rw without_all-append (collects_then first second)
