-- What is stable, and how a stable fact is shown by cases.
use Rattle.std.specs.Prelude.{◌≡◌, ℕ}
use Rattle.classical.specs.Classical.{Either, Exists, IsStable}

-- "A and B" is stable where both are
abbrev pub BothIsStable : Type 0 → Type 0 → Type 0
BothIsStable A B = IsStable A → IsStable B → IsStable (A × B)

-- "A implies B" is stable where B is
abbrev pub ImpliesIsStable : Type 0 → Type 0 → Type 0
ImpliesIsStable A B = IsStable B → IsStable (A → B)

-- "not A" is stable
abbrev pub NotIsStable : Type 0 → Type 0
NotIsStable A = IsStable (¬ A)

-- "P of each x" is stable where each P x is
abbrev pub EachIsStable : {A : Type 0} → (A → Type 0) → Type 0
EachIsStable {A} P = ((x : A) → IsStable (P x)) → IsStable ((x : A) → P x)

-- "A or B", read classically, is stable
abbrev pub EitherIsStable : Type 0 → Type 0 → Type 0
EitherIsStable A B = IsStable (Either A B)

-- "some x has P", read classically, is stable
abbrev pub ExistsIsStable : {A : Type 0} → (A → Type 0) → Type 0
ExistsIsStable P = IsStable (Exists P)

-- each fact holds or does not, read classically
abbrev pub HoldsOrNot : Type 0 → Type 0
HoldsOrNot A = Either A (¬ A)

-- a stable fact that follows from A and from "not A" holds
abbrev pub ByCases : Type 0 → Type 0 → Type 0
ByCases A B = IsStable B → (A → B) → (¬ A → B) → B

-- an equation of numbers is stable
abbrev pub EqualNumbersAreStable : Type 0
EqualNumbersAreStable = (m n : ℕ) → IsStable (m ≡ n)
