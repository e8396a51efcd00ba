use Rattle.std.proofs.Common.{◌+◌, ◌∙◌, length, ap, arith, length-drop}
use Rattle.formula_ast.specs.Tokens.{tokens_at}
use Rattle.formula_tokens.proofs.Ascii.{token_ascii}
use Rattle.formula_tokens.proofs.Places.{text_kind, no_longer_text, no_text}
use Rattle.formula_tokens.proofs.Streams.{reaches, at_end, at_token, at_bad, tail_plain}
use Rattle.formula_tokens.proofs.tokens.next_token.Goals as goal

pub returns-then-start-bytes-clause-begins : goal.returns-then-start-bytes-clause-begins
returns-then-start-bytes-clause-begins c =
    reaches c.args.bytes.now c.after.result.now c.args.from c.blank_len.result c.after.ensures c.blank_len.ensures.passes
    ∙ ap (λ at. tokens_at c.args.bytes.now at) c.if-start-bytes.true ∙ at_end c.args.bytes.now

pub returns-in-Some-clause-begins : goal.returns-in-Some-clause-begins
returns-in-Some-clause-begins c =
    reaches c.args.bytes.now c.after.result.now c.args.from c.blank_len.result c.after.ensures c.blank_len.ensures.passes
    ∙ at_token c.args.bytes.now c.after-2.result.now _ c.in-Some.kind c.in-Some.len c.after-2.ensures
    (tail_plain c.args.bytes.now c.after.result.now c.after-2.result.now c.args.from c.blank_len.result c.after.ensures c.after-2.ensures c.requires
    c.blank_len.ensures.within c.if-start-bytes.false c.blank_len.ensures.stops)
    c.in-Some.ensures.value c.in-Some.ensures.within.0 c.in-Some.ensures.within.1

pub returns-in-None-clause-begins : goal.returns-in-None-clause-begins
returns-in-None-clause-begins c =
    reaches c.args.bytes.now c.after.result.now c.args.from c.blank_len.result c.after.ensures c.blank_len.ensures.passes
    ∙ at_bad c.args.bytes.now c.after-2.result.now _ c.after-2.ensures
    (tail_plain c.args.bytes.now c.after.result.now c.after-2.result.now c.args.from c.blank_len.result c.after.ensures c.after-2.ensures c.requires
    c.blank_len.ensures.within c.if-start-bytes.false c.blank_len.ensures.stops)
    c.in-None.ensures.value
    (omega (
      arith,
      ap (λ x. length x) c.after-2.ensures,
      length-drop (c.args.from + c.blank_len.result) c.args.bytes.now,
      c.if-start-bytes.false,
      c.blank_len.ensures.within,
      ap (λ x. length x) c.after.ensures,
      length-drop c.args.from c.args.bytes.now,
    ))

pub returns-in-Some-clause-kind : goal.returns-in-Some-clause-kind
returns-in-Some-clause-kind c = text_kind c.args.bytes.now c.after-2.result.now _ c.after-2.ensures c.in-Some.kind c.in-Some.len c.in-Some.ensures.value

pub returns-in-Some-clause-ascii : goal.returns-in-Some-clause-ascii
returns-in-Some-clause-ascii c =
    token_ascii _ c.in-Some.kind
    (text_kind c.args.bytes.now c.after-2.result.now _ c.after-2.ensures c.in-Some.kind c.in-Some.len c.in-Some.ensures.value)

pub returns-in-Some-clause-longest : goal.returns-in-Some-clause-longest
returns-in-Some-clause-longest c = no_longer_text c.args.bytes.now c.after-2.result.now _ c.after-2.ensures c.in-Some.kind c.in-Some.len c.in-Some.ensures.value

pub returns-in-None-clause-no_token : goal.returns-in-None-clause-no_token
returns-in-None-clause-no_token c = no_text c.args.bytes.now c.after-2.result.now _ c.after-2.ensures c.in-None.ensures.value
