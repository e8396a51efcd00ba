use Rattle.written_files.proofs.OfKinds.{statements_can_be_read}
use Rattle.written_files.proofs.Statements.{file_is_written, file_is_faultless}
use Rattle.written_files.proofs.laws.written_files_read.Goals as goal

pub returns : goal.returns
returns c = record {
  words = λ ss each kinds. file_is_written ss (statements_can_be_read ss each kinds);
  faultless = λ ss each kinds. file_is_faultless ss (statements_can_be_read ss each kinds);
}
