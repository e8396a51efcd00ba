-- What was lowered, and how it is put back.
use Rattle.std.specs.Prelude.{◌≡◌, ℕ, ◌≤◌, List, [], ◌∷◌, length, take, drop}
use Rattle.indexmap.specs.IndexMap.{set_value_at}
use Rattle.term_graph.specs.declared.key.Key.{Key}
use Rattle.term_graph.specs.declared.key.Lowered.{Lowered}

-- the entries with what was lowered put back, the last first
abbrev pub restored : List Lowered → List (Key × ℕ) → List (Key × ℕ)
restored [] entries = entries
restored (x ∷ xs) entries = set_value_at (restored xs entries) x.place x.leader

-- what was there at each earlier size can be put back still
pub record IsKept (entries : List (Key × ℕ)) (lowered : List Lowered) (entries' : List (Key × ℕ)) (lowered' : List Lowered) : Type 0 where
  pub keys : length entries ≤ length entries'
  pub count : length lowered ≤ length lowered'
  pub first : (n : ℕ) → n ≤ length lowered → take n lowered' ≡ take n lowered
  pub back : (k n : ℕ) → k ≤ length entries → n ≤ length lowered → restored (drop n lowered') (take k entries') ≡ restored (drop n lowered) (take k entries)
