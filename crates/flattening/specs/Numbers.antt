-- The numbers of the variables of a formula.
use Rattle.std.specs.Prelude.{ℕ, ◌+◌, List, [], ◌∷◌}
use Rattle.tree_model.specs.Valuations.{update}

-- m with further numbers: pairs of a variable and its number, of which the last counts
abbrev pub with_numbers : (ℕ → ℕ) → List (ℕ × ℕ) → ℕ → ℕ
with_numbers m [] = m
with_numbers m (pair ∷ later) = with_numbers (update m pair.0 pair.1) later

-- the number that was given to a variable
abbrev pub number_by : List (ℕ × ℕ) → ℕ → ℕ
number_by given = with_numbers (λ v. 0) given

-- each variable of the list with its place, counted from i
abbrev pub given_ranks : ℕ → List ℕ → List (ℕ × ℕ)
given_ranks i [] = []
given_ranks i (v ∷ vs) = (v, i) ∷ given_ranks (i + 1) vs

-- the number of each variable of a list: its place
abbrev pub rank_in : List ℕ → ℕ → ℕ
rank_in ranks = number_by (given_ranks 0 ranks)
