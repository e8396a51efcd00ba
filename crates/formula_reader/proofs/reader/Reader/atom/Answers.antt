use Rattle.std.proofs.Common.{refl, sym}
use Rattle.formula_grammar.specs.Machine as m
use Rattle.formula_reader.specs.Input.{place_of}
use Rattle.formula_reader.proofs.Steps.{refused_here, refused_as}
use Rattle.formula_reader.proofs.AtomReading.{unary_blocked}
use Rattle.formula_reader.proofs.reader.Reader.atom.Goals as goal

pub returns-else-sees-7 : goal.returns-else-sees-7
returns-else-sees-7 c = λ s.
    let old = c.args.self.now in
    let place = place_of old c.args.place in
    refused_as _ _ c.fault.ensures
    (refused_here c.args.signature.now old (m.operand 5 place) refl
    (unary_blocked old place c.requires.no_tilde c.requires.no_exists c.requires.no_forall c.requires.no_parenthesis (sym c.if-sees.ensures) (sym c.if-sees-2.ensures)
    (sym c.if-sees-3.ensures) (sym c.if-sees-4.ensures) (sym c.if-sees-5.ensures) (sym c.if-sees-6.ensures) (sym c.if-sees-7.ensures)) s)
