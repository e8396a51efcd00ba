use Rattle.std.proofs.Common.{◌≡◌, ◌∙◌, ℕ, sym, rules}
use Rattle.std.specs.Option.{option_map}
use Rattle.formula_ast.specs.declared.token.TokenKind.{TokenKind}
use Rattle.formula_tokens.proofs.Begins.{mark_of_three, mark_of_two, mark_of_one}
use Rattle.formula_tokens.proofs.tokens.mark_front.Goals as goal

pub returns-in-Some : goal.returns-in-Some
returns-in-Some c =
    mark_of_three c.args.bytes.now _ _ _ c.requires c.byte_at-first.ensures c.byte_at-second.ensures c.byte_at.ensures
    c.in-Some.kind (sym c.triple_mark.ensures ∙ c.in-Some.is)

pub returns-in-Some-double_mark : goal.returns-in-Some-double_mark
returns-in-Some-double_mark c =
    mark_of_two c.args.bytes.now _ _ _ c.requires c.byte_at-first.ensures c.byte_at-second.ensures c.byte_at.ensures
    c.in-Some-double_mark.kind (sym c.triple_mark.ensures ∙ c.in_default.is) (sym c.double_mark.ensures ∙ c.in-Some-double_mark.is)

pub returns-in_default-double_mark : goal.returns-in_default-double_mark
returns-in_default-double_mark c =
    let mapped : c.map.result ≡ option_map {T = TokenKind} {U = TokenKind × ℕ} (λ kind. (kind, 1)) c.single_mark.result = search rules in
    mapped ∙ mark_of_one c.args.bytes.now _ _ _ c.requires c.byte_at-first.ensures c.byte_at-second.ensures c.byte_at.ensures
    c.single_mark.result (sym c.triple_mark.ensures ∙ c.in_default.is) (sym c.double_mark.ensures ∙ c.in_default-double_mark.is)
    (sym c.single_mark.ensures)
