use Rattle.std.proofs.Common.{ℕ, ◌<◌}
use Rattle.flattening.specs.declared.solved.Key.TheVariants.{Win}
use Rattle.flattening.specs.Tables.{HasKey}
use Rattle.game_library.specs.Entries.{AreRight}
use Rattle.game_library.specs.Solving.{IsGrown}
use Rattle.game_library.proofs.entries.add_fewer.Given as goal

abbrev pub invariant-loop-moves : goal.invariant-loop-moves
invariant-loop-moves g l = record {
  right : AreRight g.E.Engine.gives l.file l.table;
  grown : IsGrown l.initial.table l.table;
  has : (k : ℕ) → k < l.moves → HasKey l.table (Win l.pred.place k);
}
