use Rattle.std.proofs.Common.{◌≡◌}
use Rattle.formula_reader.proofs.Rooms.{room}
use Rattle.formula_reader.proofs.StatementReading.{ReadsSymbols}
use Rattle.formula_reader.proofs.reader.Reader.symbols.Given as goal

abbrev pub invariant-more : goal.invariant-more
invariant-more l = record {
  reads : ReadsSymbols l.fn.self l.self l.fn.file.signature l.file.signature;
  preds : l.file.preds ≡ l.fn.file.preds;
  solves : l.file.solves ≡ l.fn.file.solves;
}

abbrev pub decreases-more : goal.decreases-more
decreases-more l = room l.self
