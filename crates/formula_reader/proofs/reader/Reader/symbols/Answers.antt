use Rattle.std.proofs.Common.{◌∷◌, [], refl, sym, ◌∙◌, arith}
use Rattle.formula_ast.specs.declared.token.TokenKind.TheVariants as k
use Rattle.formula_grammar.specs.Machine as m
use Rattle.formula_grammar.specs.Grammar.{files}
use Rattle.formula_reader.proofs.Steps.{took_plain, stopped_plain, refusal, answers_as, refuses_before}
use Rattle.formula_reader.proofs.Rooms.{less, kept}
use Rattle.formula_reader.proofs.StatementReading.{symbols_begin, symbols_more, symbols_past, symbols_read}
use Rattle.formula_reader.proofs.reader.Reader.symbols.Goals as goal

pub returns-in_err-declaration : goal.returns-in_err-declaration
returns-in_err-declaration c =
    let took = c.in_ok-take.ensures in
    refusal _ _ c.args.file.now.signature c.args.self.now _ _ _ c.from_residual-in_err-declaration.ensures.1
    (took_plain k.Symbol c.requires took.takes c.args.file.now.signature (m.statements files) (m.declaration ∷ m.declarations ∷ m.plain k.Stop ∷ m.statements files ∷ []) refl took.joints)
    (λ s. c.in_err-declaration.ensures (m.declarations ∷ m.plain k.Stop ∷ m.statements files ∷ s))

pub more-init : goal.more-init
more-init c = record { reads = symbols_begin c.requires c.in_ok-take.ensures.takes c.in_ok-take.ensures.joints c.in_ok-declaration.ensures; preds = refl; solves = refl }

pub returns-in_err-take-2 : goal.returns-in_err-take-2
returns-in_err-take-2 c =
    refusal _ _ c.args.file.now.signature c.args.self.now _ _ _ c.from_residual-in_err-take-2.ensures.1 c.more.invariant.reads.faults
    (λ s. stopped_plain k.Comma c.more.self (sym c.more-test.ensures) c.more.file.signature _ c.in_err-take-2.ensures.stops m.declarations (m.declaration ∷ m.declarations ∷ []) refl
    (m.plain k.Stop ∷ m.statements files ∷ s))

pub returns-in_err-declaration-2 : goal.returns-in_err-declaration-2
returns-in_err-declaration-2 c =
    let took = c.in_ok-take-2.ensures in
    refusal _ _ c.args.file.now.signature c.args.self.now _ _ _ c.from_residual-in_err-declaration-2.ensures.1
    (λ s. c.more.invariant.reads.faults s
    ∙ took_plain k.Comma (sym c.more-test.ensures) took.takes c.more.file.signature m.declarations (m.declaration ∷ m.declarations ∷ []) refl took.joints (m.plain k.Stop ∷ m.statements files ∷ s))
    (λ s. c.in_err-declaration-2.ensures (m.declarations ∷ m.plain k.Stop ∷ m.statements files ∷ s))

pub more-smaller : goal.more-smaller
more-smaller c =
    let further = less c.in_ok-take-2.ensures.takes in
    let on = c.in_ok-declaration-2.ensures.on in
    let behind = kept c.take-in-more.new.self c.declaration-in-more.new.self c.in_ok-declaration-2.ensures.bytes (omega (arith, on)) in
    omega (arith, further, behind)

pub more-preserved : goal.more-preserved
more-preserved c = record {
  reads = symbols_more c.more.invariant.reads (sym c.more-test.ensures) c.in_ok-take-2.ensures.takes c.in_ok-take-2.ensures.joints c.in_ok-declaration-2.ensures;
  preds = c.more.invariant.preds;
  solves = c.more.invariant.solves;
}

pub returns : goal.returns
returns c =
    let σ = c.more.file.signature in
    answers_as _ _ _ _ c.expect.result
    (λ u stop. symbols_read c.args.file.now c.more.file c.more.invariant.reads (sym c.more-test.ensures) stop c.more.invariant.preds c.more.invariant.solves)
    (λ e refuses s. refuses_before e (symbols_past c.more.invariant.reads (sym c.more-test.ensures) s) (refuses (m.statements files ∷ s))) (c.expect.ensures σ)
