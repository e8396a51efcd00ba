use Rattle.std.proofs.Common.{ℕ, ◌<◌}
use Rattle.std.specs.Prelude.{◌↔◌, Contains}
use Rattle.finiteness.specs.Marks.{IsLeafAt}
use Rattle.finiteness.proofs.leaves.gather_all.Given as goal

abbrev pub invariant-loop-place : goal.invariant-loop-place
invariant-loop-place l = (u : ℕ) → Contains l.found.items u ↔ ((place : ℕ) × (place < l.place) × IsLeafAt l.b l.marks place u)
