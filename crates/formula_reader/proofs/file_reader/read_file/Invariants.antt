use Rattle.formula_reader.proofs.Rooms.{room}
use Rattle.formula_reader.proofs.FileReading.{Progress}
use Rattle.formula_reader.proofs.file_reader.read_file.Given as goal

abbrev pub invariant-statements : goal.invariant-statements
invariant-statements l = record { progress : Progress l.fn.bytes l.reader l.file }

abbrev pub decreases-statements : goal.decreases-statements
decreases-statements l = room l.reader
