-- Facts read classically. The logic has no excluded middle. A choice, or the existence of a value, is said by
-- what classical logic makes of it: that it isn't ruled out.
use Rattle.std.specs.Prelude.{◌⊎◌}

-- one of the two holds
abbrev pub Either : Type 0 → Type 0 → Type 0
Either A B = ¬ ¬ (A ⊎ B)

-- some x has P
abbrev pub Exists : {A : Type 0} → (A → Type 0) → Type 0
Exists {A} P = ¬ ¬ ((x : A) × P x)

-- A holds where it isn't ruled out, so that it means the same read classically
pub record IsStable (A : Type 0) : Type 0 where
  pub holds : ¬ ¬ A → A
