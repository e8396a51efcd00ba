-- What is remembered stays right when further conjunctions are kept.
use Rattle.std.specs.Prelude.{All, Option, Some, slice_get}
use Rattle.std.proofs.Common.{ℕ, ◌≡◌, List, [], ◌∷◌, ◌++◌, length, refl, sym, ap, ◌∙◌, subst}
use Rattle.std.proofs.lemmas.List.Elements.{All-weaker, All-append, All-cons, All-nil}
use Rattle.std.proofs.lemmas.Option.{slice_get_within}
use Rattle.tree_facts.proofs.SideBySide.{front_get}
use Rattle.flat_form.specs.declared.atom.Flat.{Flat}
use Rattle.flat_form.specs.declared.cube.Part.{Part}
use Rattle.cube_reduction.specs.declared.memory.Known.{Known}
use Rattle.cube_reduction.specs.Fates.{Becomes}
use Rattle.cube_reduction.specs.Remembered.{IsRight}

pub same_item : {A : Type 0} {o : Option A} {x y : A} → o ≡ Some x → o ≡ Some y → x ≡ y
same_item a b = cc

pub in_front : {A : Type 0} (xs ys : List A) (i : ℕ) (x : A) → slice_get xs i ≡ Some x → slice_get (xs ++ ys) i ≡ Some x
in_front xs ys i x e = front_get xs ys i (slice_get_within xs i x e) ∙ e

pub at_end : {A : Type 0} (xs : List A) (x : A) → slice_get (xs ++ x ∷ []) (length xs) ≡ Some x
at_end [] x = refl
at_end (y ∷ xs) x = at_end xs x

all_right_more : (bases : List (List Flat)) (base : List Flat) (known : List Known) → All (IsRight bases) known → All (IsRight (bases ++ base ∷ [])) known
all_right_more bases base known are =
    All-weaker (IsRight bases) (IsRight (bases ++ base ∷ [])) (λ s is. (is.0, in_front bases (base ∷ []) s.base is.0 is.1, is.2)) known are

pub recalled : (bases : List (List Flat)) (s : Known) (place count : ℕ) (part : Part) → IsRight bases s → s.base ≡ place → s.count ≡ count → s.part ≡ part
    → (base : List Flat) → slice_get bases place ≡ Some base → Becomes count base part s.fate
recalled bases s place count part (own, stands, comes) is_place is_count is_part base at =
    subst (λ (z : List Flat). Becomes count z part s.fate) (same_item stands (ap (λ (i : ℕ). slice_get bases i) is_place ∙ at))
    (subst (λ (z : ℕ). Becomes z own part s.fate) is_count (subst (λ (z : Part). Becomes s.count own z s.fate) is_part comes))

pub still_right : (bases : List (List Flat)) (known new : List Known) → All (IsRight bases) known → new ≡ known → All (IsRight bases) new
still_right bases known new are same = subst (λ (z : List Known). All (IsRight bases) z) (sym same) are

pub one_right_more : (bases : List (List Flat)) (known new : List Known) (s : Known) → All (IsRight bases) known → IsRight bases s → new ≡ known ++ s ∷ []
    → All (IsRight bases) new
one_right_more bases known new s are is more =
    subst (λ (z : List Known). All (IsRight bases) z) (sym more) (All-append (IsRight bases) known (s ∷ []) are (All-cons (IsRight bases) s [] is (All-nil (IsRight bases))))

-- over the conjunctions as they are then
pub right_over : (bases new : List (List Flat)) (known : List Known) → All (IsRight bases) known → new ≡ bases → All (IsRight new) known
right_over bases new known are same = subst (λ (z : List (List Flat)). All (IsRight z) known) (sym same) are

pub right_over_more : (bases new : List (List Flat)) (base : List Flat) (known : List Known) → All (IsRight bases) known → new ≡ bases ++ base ∷ [] → All (IsRight new) known
right_over_more bases new base known are more =
    subst (λ (z : List (List Flat)). All (IsRight z) known) (sym more) (all_right_more bases base known are)

pub last_stands : (bases new : List (List Flat)) (base copy : List Flat) (place : ℕ) → new ≡ bases ++ copy ∷ [] → copy ≡ base → place ≡ length bases → slice_get new place ≡ Some base
last_stands bases new base copy place more same at =
    subst (λ (z : List (List Flat)). slice_get z place ≡ Some base) (sym more)
    (subst (λ (k : ℕ). slice_get (bases ++ copy ∷ []) k ≡ Some base) (sym at) (at_end bases copy ∙ ap (λ (z : List Flat). Some z) same))
