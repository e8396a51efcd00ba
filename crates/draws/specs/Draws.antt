-- Numbers drawn one after the other from a first state: a linear congruential generator.
use Rattle.std.specs.Prelude.{ℕ, ◌+◌, ◌*◌, ◌/◌, ◌%◌}

-- the state behind this one
unfoldable pub next : ℕ → ℕ
next state = (171 * state + 11213) % 53125

-- what is drawn from a new state, where this many outcomes are offered: they are numbered from 0
unfoldable pub drawn : ℕ → ℕ → ℕ
drawn state outcomes = state * outcomes / 53125
