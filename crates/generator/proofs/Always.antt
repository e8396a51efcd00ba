-- What holds of each value that may be drawn.
use Rattle.std.proofs.Common.{◌≡◌, ℕ, zero, suc, List, [], ◌∷◌, length, get_or, refl, ap}
use Rattle.draws.specs.Draws.{next, drawn}
use Rattle.generator.specs.Drawing.{Draw, made, made_of_two, one_of, times}

abbrev pub Always : {X : Type 0} → (X → Type 0) → Draw X → Type 0
Always P draw = (state : ℕ) → P (draw state).0

abbrev pub AllAlways : {X : Type 0} → (X → Type 0) → List (Draw X) → Type 0
AllAlways P [] = Unit {0}
AllAlways P (draw ∷ draws) = Always P draw × AllAlways P draws

abbrev pub Each : {X : Type 0} → (X → Type 0) → List X → Type 0
Each P [] = Unit {0}
Each P (x ∷ xs) = P x × Each P xs

pub always_made : {X Y : Type 0} (P : X → Type 0) (Q : Y → Type 0) (f : X → Y) (draw : Draw X) → ((x : X) → P x → Q (f x)) → Always P draw → Always Q (made f draw)
always_made P Q f draw step h state = step (draw state).0 (h state)

pub always_two : {X Y Z : Type 0} (P : X → Type 0) (Q : Y → Type 0) (R : Z → Type 0) (f : X → Y → Z) (dx : Draw X) (dy : Draw Y)
    → ((x : X) (y : Y) → P x → Q y → R (f x y)) → Always P dx → Always Q dy → Always R (made_of_two f dx dy)
always_two P Q R f dx dy step h k state = step (dx state).0 (dy (dx state).1).0 (h state) (k (dx state).1)

always_at : {X : Type 0} (P : X → Type 0) (draws : List (Draw X)) (k : ℕ) (other : Draw X) → AllAlways P draws → Always P other → Always P (get_or draws k other)
always_at P [] k other h o = o
always_at P (draw ∷ draws) zero other h o = h.0
always_at P (draw ∷ draws) (suc k) other h o = always_at P draws k other h.1 o

pub always_one_of : {X : Type 0} (P : X → Type 0) (first : Draw X) (others : List (Draw X)) → Always P first → AllAlways P others → Always P (one_of first others)
always_one_of P first others f h state = always_at P (first ∷ others) (drawn (next state) (length (first ∷ others))) first (f, h) f (next state)

pub always_times : {X : Type 0} (P : X → Type 0) (n : ℕ) (draw : Draw X) → Always P draw → Always (Each P) (times n draw)
always_times P zero draw h state = tt
always_times P (suc n) draw h state = (h state, always_times P n draw h (draw state).1)

pub times-length : {X : Type 0} (n : ℕ) (draw : Draw X) (state : ℕ) → length (times n draw state).0 ≡ n
times-length zero draw state = refl
times-length (suc n) draw state = ap suc (times-length n draw (draw state).1)
