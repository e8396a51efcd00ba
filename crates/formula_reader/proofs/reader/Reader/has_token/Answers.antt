use Rattle.std.proofs.Common.{Some, subst}
use Rattle.std.specs.Prelude.{Ok}
use Rattle.formula_ast.specs.Tokens.{tokens_at}
use Rattle.formula_reader.specs.Input.{IsNext}
use Rattle.formula_reader.proofs.reader.Reader.has_token.Goals as goal

pub returns-in-Ok-Some : goal.returns-in-Ok-Some
returns-in-Ok-Some c =
    let token = c.in-Ok-Some.field-0-0 in
    let next : IsNext c.self.inside.bytes.now c.self.inside.at (Ok (Some token)) =
    subst (λ found. IsNext c.self.inside.bytes.now c.self.inside.at (Ok found)) (rw c.in-Ok-Some.is at c.in-Ok-Some.field-0-is) (rw c.in-Ok-Some.is at c.self.invariant.1) in
    (token, tokens_at c.self.inside.bytes.now token.to, rw (← c.self.view_is) next.0)
