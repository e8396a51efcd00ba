use Rattle.std.proofs.Common.{arith}
use Rattle.formula_printer.proofs.Checked.{whole_text}
use Rattle.formula_printer.proofs.checks.whole_kind.Goals as goal

pub returns : goal.returns
returns c =
    whole_text c.args.text.now c.in-Ok-Some.token.from c.in-Ok-Some.token.to c.in-Ok-Some.token.kind
    (rw c.as_bytes.ensures.value at (rw c.in-Ok-Some.field-0-is at c.in-Ok-Some.ensures.kind)) (omega arith) (omega arith)
