-- Places on a ring.
use Rattle.std.specs.Prelude.{ℕ, ◌<◌, List, length, Option}
use Rattle.term_graph.specs.declared.parts.Mention.{Mention}
use Rattle.term_graph.specs.Fields.{behind, used}
use Rattle.index_lists.specs.Rings.{Way, IsInside}

-- on the ring of head, where these cells are left
pub record IsOn (next : List ℕ) (head at : ℕ) : Type 0 where
  pub inside : IsInside next
  pub within : at < length next
  pub left : List ℕ
  pub way : Way next head at left

-- the terms of the mentions that are left
abbrev pub uses_left : List (Option Mention) → List ℕ → ℕ → ℕ → List ℕ
uses_left mentions next head at = used mentions (behind (length next) next head at)
