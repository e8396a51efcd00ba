use Rattle.std.proofs.Common.{◌∙◌, ◌<◌, sym, ap, arith}
use Rattle.std.specs.Char.{is_ascii_digit}
use Rattle.std.specs.List.{prefix_len}
use Rattle.formula_tokens.proofs.Begins.{further_begins, no_further_begins}
use Rattle.formula_tokens.proofs.tokens.further_front.Goals as goal

pub returns-then-len-eq0 : goal.returns-then-len-eq0
returns-then-len-eq0 c = sym (no_further_begins c.args.bytes.now c.requires
    (ap (λ bs. prefix_len (λ b. is_ascii_digit b) bs) (sym c.after.ensures) ∙ sym c.digits_len-len.ensures.value ∙ c.if-len-eq0.true))

pub returns-else-len-eq0 : goal.returns-else-len-eq0
returns-else-len-eq0 c =
    let some : 0 < c.digits_len-len.result = omega arith in
    sym (further_begins c.args.bytes.now c.digits_len-len.result c.requires
    (c.digits_len-len.ensures.value ∙ ap (λ bs. prefix_len (λ b. is_ascii_digit b) bs) c.after.ensures) some)
