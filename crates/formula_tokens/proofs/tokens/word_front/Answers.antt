use Rattle.std.proofs.Common.{◌≡◌, ◌∙◌, sym, ap, Some, unwrap_or, take, rules}
use Rattle.formula_ast.specs.declared.token.TokenKind.TheVariants as k
use Rattle.formula_ast.specs.Tokens.{kind_in, reserved}
use Rattle.formula_tokens.proofs.Begins.{word_begins}
use Rattle.formula_tokens.proofs.tokens.word_front.Goals as goal

pub returns : goal.returns
returns c =
    let kind : c.word_kind.result ≡ unwrap_or (kind_in reserved (take c.word_len-len.result c.args.bytes.now)) k.Name = search rules in
    ap (λ kind. Some (kind, c.word_len-len.result)) kind
    ∙ sym (word_begins c.args.bytes.now c.requires c.word_len-len.result c.word_len-len.ensures.value)
