-- New numbers for the variables of equations.
use Rattle.std.proofs.Common.{◌≡◌, ℕ, zero, suc, ◌<◌, List, [], ◌∷◌, map, length, refl, sym, subst, arith, inl, inr}
use Rattle.std.specs.Prelude.{slice_index, Contains}
use Rattle.std.proofs.lemmas.List.{length-map}
use Rattle.tree_model.specs.Trees.{at}
use Rattle.tree_facts.specs.Equations.{Equation, equals_variable, equals_term, EquationHolds}
use Rattle.tree_facts.specs.Renumbering.{renumbered, RenumberedHolds, RenumberedSolves}
use Rattle.tree_facts.proofs.Members.{contains_first, contains_later, contains_cases}

pub index-map : (f : ℕ → ℕ) (xs : List ℕ) (i : ℕ) → i < length xs → slice_index (map f xs) i ≡ f (slice_index xs i)
index-map f [] i w = absurd (omega arith)
index-map f (x ∷ xs) zero w = refl
index-map f (x ∷ xs) (suc i) w = index-map f xs i (omega arith)

pub renumbered_holds : RenumberedHolds
renumbered_holds σ e f (equals_variable u r) = (λ holds. holds, λ holds. holds)
renumbered_holds σ e f (equals_term u s xs) = (
  λ holds. record {
    root = rw (length-map xs f) at holds.root;
    child = λ i w path. let P : ℕ → Type 0 = λ z. at (e (f u)).graph (i ∷ path) ≡ at (e z).graph path in
        subst P (index-map f xs i w) (holds.child i (rw (length-map xs f) w) path);
  },
  λ holds. record {
    root = rw (length-map xs f) holds.root;
    child = λ i w path. let v : i < length xs = rw (length-map xs f) at w in
        let P : ℕ → Type 0 = λ z. at (e (f u)).graph (i ∷ path) ≡ at (e z).graph path in
        subst P (sym (index-map f xs i v)) (holds.child i v path);
  },
)

-- an element of a list, and of the list of images
pub contains_map : {A B : Type 0} (f : A → B) (xs : List A) (x : A) → Contains xs x → Contains (map f xs) (f x)
contains_map f [] x inside = absurd (omega (arith, inside.1))
contains_map f (y ∷ xs) x inside = elim (contains_cases y x xs inside) [
  | inl e ↦ subst (λ z. Contains (f y ∷ map f xs) (f z)) e (contains_first (f y) (map f xs))
  | inr more ↦ contains_later (f y) (f x) (map f xs) (contains_map f xs x more)
]

pub contains_image : {A B : Type 0} (f : A → B) (xs : List A) (y : B) → Contains (map f xs) y → (x : A) × Contains xs x × (f x ≡ y)
contains_image f [] y inside = absurd (omega (arith, inside.1))
contains_image f (x ∷ xs) y inside = elim (contains_cases (f x) y (map f xs) inside) [
  | inl e ↦ (x, contains_first x xs, e)
  | inr more ↦ let (z, there, e) = contains_image f xs y more in (z, contains_later x z xs there, e)
]

pub renumbered_solves : RenumberedSolves
renumbered_solves σ e f system = (
  λ solves q inside. (renumbered_holds σ e f q).0 (solves (renumbered f q) (contains_map (renumbered f) system q inside)),
  λ solves q inside. let (p, there, same) = contains_image (renumbered f) system q inside in
      subst (λ (z : Equation). EquationHolds e z) same ((renumbered_holds σ e f p).1 (solves p there)),
)
