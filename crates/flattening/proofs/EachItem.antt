-- What holds of each item of lists that are put together.
use Rattle.std.specs.Prelude.{All, Contains, flat_map}
use Rattle.std.proofs.Common.{◌≡◌, ℕ, zero, suc, List, [], ◌∷◌, ◌++◌, length, get_or, ◌<◌, refl, arith}
use Rattle.std.proofs.lemmas.List.Elements.{All-nil, All-cons, All-head, All-tail, All-append}

module _ {A : Type 0} (P : A → Type 0) where
  pub all_left : (xs ys : List A) → All P (xs ++ ys) → All P xs
  all_left [] ys all = All-nil P
  all_left (x ∷ xs) ys all = All-cons P x xs (All-head P x (xs ++ ys) all) (all_left xs ys (All-tail P x (xs ++ ys) all))

  pub all_right : (xs ys : List A) → All P (xs ++ ys) → All P ys
  all_right [] ys all = all
  all_right (x ∷ xs) ys all = all_right xs ys (All-tail P x (xs ++ ys) all)

  -- of each item of the lists that stand for items
  pub all_flat : {B : Type 0} (f : B → List A) (ys : List B) → All (λ y. All P (f y)) ys → All P (flat_map f ys)
  all_flat f [] all = All-nil P
  all_flat f (y ∷ ys) all =
      All-append P (f y) (flat_map f ys) (All-head (λ y. All P (f y)) y ys all) (all_flat f ys (All-tail (λ y. All P (f y)) y ys all))

  pub flat_all : {B : Type 0} (f : B → List A) (ys : List B) → All P (flat_map f ys) → All (λ y. All P (f y)) ys
  flat_all f [] all = All-nil (λ y. All P (f y))
  flat_all f (y ∷ ys) all =
      All-cons (λ y. All P (f y)) y ys (all_left (f y) (flat_map f ys) all) (flat_all f ys (all_right (f y) (flat_map f ys) all))

pub any_default : {A : Type 0} (xs : List A) (k : ℕ) (d e : A) → k < length xs → get_or xs k d ≡ get_or xs k e
any_default [] k d e w = absurd (omega arith)
any_default (x ∷ xs) zero d e w = refl
any_default (x ∷ xs) (suc k) d e w = any_default xs k d e (omega arith)

-- each item of a list is among it
pub contained_all : {A : Type 0} (xs : List A) → All (Contains xs) xs
contained_all xs k d w = (k, w, any_default xs k (get_or xs k d) d w)
