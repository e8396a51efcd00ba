use Rattle.std.proofs.Common.{sym, ◌∙◌, ap, Some}
use Rattle.formula_ast.specs.declared.token.TokenKind.TheVariants as k
use Rattle.formula_tokens.proofs.Begins.{number_begins}
use Rattle.formula_tokens.proofs.tokens.number_front.Goals as goal

pub returns : goal.returns
returns c = ap (λ n. Some (k.Number, n)) c.digits_len.ensures.value ∙ sym (number_begins c.args.bytes.now c.requires)
