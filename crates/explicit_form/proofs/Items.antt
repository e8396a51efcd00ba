-- What holds of each item of a list, as a loop goes over it.
use Rattle.std.proofs.Common.{◌≡◌, ℕ, zero, suc, ◌+◌, ◌≤◌, List, [], ◌∷◌, ◌++◌, length, map, take, refl, sym, ap, subst, ◌∙◌, arith, Some}
use Rattle.std.specs.Prelude.{All, Contains, ◌↔◌, slice_get}
use Rattle.std.proofs.lemmas.List.{take_all}
use Rattle.std.proofs.lemmas.List.Elements.{All-push, All-contains, All-nil, All-cons, All-head, All-tail}
use Rattle.formula_ast.proofs.Lists.{take_more_got}
use Rattle.explicit_form.proofs.Joined.{map_more}

pub got_in : {A : Type 0} (xs : List A) (i : ℕ) (x : A) → slice_get xs i ≡ Some x → Contains xs x
got_in [] i x got = absurd (cc got)
got_in (y ∷ xs) zero x got = let same : y ≡ x = cc got in (0, omega arith, same)
got_in (y ∷ xs) (suc i) x got = let c = got_in xs i x got in (suc c.0, omega (arith, c.1), c.2)

-- one item more
pub all_next : {A : Type 0} (P : A → Type 0) (xs : List A) (i : ℕ) (x : A) → slice_get xs i ≡ Some x → All P (take i xs) → P x → All P (take (i + 1) xs)
all_next P xs i x got all p = subst (All P) (sym (take_more_got xs i x got)) (All-push P (take i xs) x all p)

-- an item for which it fails
pub item_fails : {A : Type 0} (P : A → Type 0) (xs : List A) (i : ℕ) (x : A) → slice_get xs i ≡ Some x → ¬ P x → ¬ All P xs
item_fails P xs i x got fails all = fails (All-contains P xs x all (got_in xs i x got))

pub got_map : {A B : Type 0} (f : A → B) (xs : List A) (i : ℕ) (x : A) → slice_get xs i ≡ Some x → slice_get (map f xs) i ≡ Some (f x)
got_map f [] i x got = absurd (cc got)
got_map f (y ∷ xs) zero x got = let same : y ≡ x = cc got in ap (λ z. Some (f z)) same
got_map f (y ∷ xs) (suc i) x got = got_map f xs i x got

-- an item with the value stands there
pub in_map : {A : Type 0} (f : A → ℕ) (xs : List A) (i : ℕ) (x : A) (v : ℕ) → slice_get xs i ≡ Some x → f x ≡ v → Contains (map f xs) v
in_map f xs i x v got is = got_in (map f xs) i v (got_map f xs i x got ∙ ap Some is)

pub not_in_map : {A : Type 0} (f : A → ℕ) (xs : List A) (v : ℕ) → All (λ x. ¬ (f x ≡ v)) xs → ¬ Contains (map f xs) v
not_in_map f [] v none c = absurd (omega (arith, c.1))
not_in_map f (x ∷ xs) v none (zero, less, is) = All-head (λ x. ¬ (f x ≡ v)) x xs none is
not_in_map f (x ∷ xs) v none (suc i, less, is) = not_in_map f xs v (All-tail (λ x. ¬ (f x ≡ v)) x xs none) (i, omega (arith, less), is)

-- lists with different values somewhere
pub map_differs : {A : Type 0} (f : A → ℕ) (xs ys : List A) (i : ℕ) (x y : A) → slice_get xs i ≡ Some x → slice_get ys i ≡ Some y → ¬ (f x ≡ f y) → ¬ (map f xs ≡ map f ys)
map_differs f xs ys i x y got that differ same =
    let one : Some (f x) ≡ Some (f y) = sym (got_map f xs i x got) ∙ ap (λ l. slice_get l i) same ∙ got_map f ys i y that in
    differ (cc one)

many : {A : Type 0} (f : A → ℕ) (xs : List A) → length (map f xs) ≡ length xs
many f [] = refl
many f (x ∷ xs) = ap suc (many f xs)

lengths : {A : Type 0} (f : A → ℕ) (xs ys : List A) → map f xs ≡ map f ys → length xs ≡ length ys
lengths f xs ys same = sym (many f xs) ∙ ap length same ∙ many f ys

pub map_lengths : {A : Type 0} (f : A → ℕ) (xs ys : List A) → ¬ (length xs ≡ length ys) → ¬ (map f xs ≡ map f ys)
map_lengths f xs ys differ same = differ (lengths f xs ys same)

-- lists with the same values so far
pub map_next : {A : Type 0} (f : A → ℕ) (xs ys : List A) (i : ℕ) (x y : A) → slice_get xs i ≡ Some x → slice_get ys i ≡ Some y → map f (take i xs) ≡ map f (take i ys) → f x ≡ f y
    → map f (take (i + 1) xs) ≡ map f (take (i + 1) ys)
map_next f xs ys i x y got that same is =
    map_more f xs i x got ∙ ap (λ l. l ++ f x ∷ []) same ∙ ap (λ v. map f (take i ys) ++ v ∷ []) is ∙ sym (map_more f ys i y that)

pub all_map : {A : Type 0} (P : ℕ → Type 0) (f : A → ℕ) (xs : List A) → All P (map f xs) ↔ All (λ x. P (f x)) xs
all_map P f [] = (λ all. All-nil (λ x. P (f x)), λ all. All-nil P)
all_map P f (x ∷ xs) = (
  λ all. All-cons (λ x. P (f x)) x xs (All-head P (f x) (map f xs) all) ((all_map P f xs).0 (All-tail P (f x) (map f xs) all)),
  λ all. All-cons P (f x) (map f xs) (All-head (λ x. P (f x)) x xs all) ((all_map P f xs).1 (All-tail (λ x. P (f x)) x xs all)),
)

-- lists of one length with the same values as far as they go
pub map_whole : {A : Type 0} (f : A → ℕ) (xs ys : List A) (i : ℕ) → length xs ≤ i → length xs ≡ length ys → map f (take i xs) ≡ map f (take i ys) → map f xs ≡ map f ys
map_whole f xs ys i past same is =
    let left : take i xs ≡ xs = take_all i xs past in
    let right : take i ys ≡ ys = take_all i ys (omega arith) in
    sym (ap (map f) left) ∙ is ∙ ap (map f) right
