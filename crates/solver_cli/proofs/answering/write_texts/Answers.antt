use Rattle.std.proofs.Common.{inl, inr}
use Rattle.solver_cli.proofs.answering.write_texts.Goals as goal

pub returns-in-Generated-clause-fewer : goal.returns-in-Generated-clause-fewer
returns-in-Generated-clause-fewer g c is = rw c.in-Generated.is (c.write_counts.ensures.fewer is)

pub returns-in-File-clause-fewer : goal.returns-in-File-clause-fewer
returns-in-File-clause-fewer g c is = elim c.in-File.is [
  | inl file ↦ rw file.1 (c.write_answers.ensures.fewer is)
  | inr game ↦ rw game.1 (c.write_answers.ensures.fewer is)
]
