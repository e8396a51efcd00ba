use Rattle.std.proofs.Common.{◌≡◌, ◌-◌, ◌++◌, string_bytes}
use Rattle.written_files.specs.Files.{file_text}
use Rattle.generator.specs.Generated.{generated}
use Rattle.generator.proofs.Questions.{rest}
use Rattle.generator.proofs.file.generate.Given as goal

abbrev pub invariant-loop : goal.invariant-loop
invariant-loop l = string_bytes l.text ++ rest (l.fn.questions - l.counter) l.draws ≡ file_text (generated l.fn.questions)
