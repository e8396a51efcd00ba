use Rattle.std.proofs.Common.{sym, ◌∙◌, ap, Some}
use Rattle.formula_ast.specs.declared.token.TokenKind.TheVariants as k
use Rattle.formula_tokens.proofs.Begins.{variable_begins}
use Rattle.formula_tokens.proofs.tokens.variable_front.Goals as goal

pub returns : goal.returns
returns c = ap (λ n. Some (k.Variable, n)) c.word_len.ensures.value ∙ sym (variable_begins c.args.bytes.now c.requires)
