-- What is drawn from a state, with the state behind it.
use Rattle.std.specs.Prelude.{◌≡◌, ℕ, zero, suc, List, [], ◌∷◌, ◌++◌, length, get_or}
use Rattle.draws.specs.Draws.{next, drawn}

-- a value drawn from a state, and the state behind
abbrev pub Draw : Type 0 → Type 0
Draw X = ℕ → X × ℕ

-- the number of one of so many outcomes
abbrev pub number : ℕ → Draw ℕ
number outcomes state = (drawn (next state) outcomes, next state)

-- a value for which nothing is drawn
abbrev pub always : {X : Type 0} → X → Draw X
always x state = (x, state)

-- a value made of a drawn one
abbrev pub made : {X Y : Type 0} → (X → Y) → Draw X → Draw Y
made f x state = (f (x state).0, (x state).1)

-- a value made of two that are drawn one after the other
abbrev pub made_of_two : {X Y Z : Type 0} → (X → Y → Z) → Draw X → Draw Y → Draw Z
made_of_two f x y state = (f (x state).0 (y (x state).1).0, (y (x state).1).1)

-- first the number of a choice is drawn, and then that choice
abbrev pub one_of : {X : Type 0} → Draw X → List (Draw X) → Draw X
one_of first others state = get_or (first ∷ others) (drawn (next state) (length (first ∷ others))) first (next state)

-- so many of them, one after the other
abbrev pub times : {X : Type 0} → ℕ → Draw X → Draw (List X)
times zero x = always []
times (suc n) x = made_of_two (λ first rest. first ∷ rest) x (times n x)

-- what is drawn from the old state was written behind the old text, and the new state is the one behind it
pub record Writes {X : Type 0} (text_of : X → List ℕ) (draw : Draw X) (old_state : ℕ) (old_text : List ℕ) (new_state : ℕ) (new_text : List ℕ) : Type 0 where
  pub text : new_text ≡ old_text ++ text_of (draw old_state).0
  pub state : new_state ≡ (draw old_state).1
