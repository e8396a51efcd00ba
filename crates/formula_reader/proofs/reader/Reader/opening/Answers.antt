use Rattle.std.proofs.Common.{sym, refl}
use Rattle.formula_ast.specs.declared.token.TokenKind.TheVariants as k
use Rattle.formula_grammar.specs.Machine as m
use Rattle.formula_reader.specs.Input.{place_of}
use Rattle.formula_reader.proofs.Steps.{refused_here, blocked, refused_as}
use Rattle.formula_reader.proofs.AtomReading.{paren_answers}
use Rattle.formula_reader.proofs.reader.Reader.opening.Goals as goal

pub returns-then-sees : goal.returns-then-sees
returns-then-sees c = λ σ.
    let opens = c.open.ensures in
    paren_answers σ c.args.self.now c.open.new.self c.args.place c.open.result (sym c.if-sees.ensures) opens.takes opens.keeps opens.joints opens.inner opens.depth opens.stops

pub returns-else-sees : goal.returns-else-sees
returns-else-sees c = λ σ s.
    let paren = m.opening_paren (place_of c.args.self.now c.args.place) in
    refused_as _ _ c.fault.ensures (refused_here σ c.args.self.now paren refl (blocked k.LeftParen c.args.self.now paren (sym c.if-sees.ensures) (λ t no. rw no refl)) s)
