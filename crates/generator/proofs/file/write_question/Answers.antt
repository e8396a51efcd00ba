use Rattle.std.proofs.Common.{codes, refl}
use Rattle.std.proofs.lemmas.Result.{on_ok_weaker}
use Rattle.formula_printer.specs.Texts.{text_of}
use Rattle.written_files.specs.Files.{line_end}
use Rattle.generator.specs.Generated.{drawn_formula, question_text}
use Rattle.generator.proofs.Parts.{wrote_made}
use Rattle.generator.proofs.file.write_question.Goals as goal

pub returns : goal.returns
returns c =
    on_ok_weaker c.push-2.result (λ e. wrote_made text_of question_text (λ f. f) (drawn_formula 3) (codes "solve ") line_end _ _ _ _ _ _ (λ f. refl)
    c.in_ok-push.ensures c.in_ok-write_formula.ensures e) c.push-2.ensures
