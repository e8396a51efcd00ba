use borrow.Author.Count.{below_more}
use Rattle.std.proofs.Common.{◌≢◌, sym, ◌∙◌}
use Rattle.formula_printer.specs.Writing.{text_at}
use Rattle.formula_printer.proofs.Places.{named_at}
use Rattle.formula_printer.proofs.Checked.{apart_texts}
use Rattle.formula_printer.proofs.checks.is_new.Goals as goal

pub loop-j-preserved : goal.loop-j-preserved
loop-j-preserved c =
    below_more (λ j. text_at c.args.names.now j ≢ text_at c.args.names.now c.args.i) c.loop-j.j c.loop-j.invariant
    (λ same. apart_texts c.get.result.now c.get-in-loop-j.result.now (rw (c.as_str.ensures, c.as_str-in-loop-j.ensures) at (sym c.eq.ensures ∙ c.if-eq.false))
    (sym (named_at c.args.names.now c.loop-j.j c.get.result.now c.get.ensures) ∙ same ∙ named_at c.args.names.now c.args.i c.get-in-loop-j.result.now c.get-in-loop-j.ensures))
