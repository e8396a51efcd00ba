use Rattle.std.proofs.Common.{◌∷◌, [], refl, ap, ◌∙◌}
use Rattle.formula_ast.specs.declared.token.TokenKind.TheVariants as k
use Rattle.formula_grammar.specs.Machine as m
use Rattle.formula_reader.specs.Input.{text_ahead, environment, place_of}
use Rattle.formula_reader.proofs.Steps.{stopped_in, failed, refusal}
use Rattle.formula_reader.proofs.TermReading.{variable_read}
use Rattle.formula_reader.proofs.AtomReading.{variable_begins, compared_read}
use Rattle.formula_reader.proofs.reader.Reader.variable_atom.Goals as goal

pub returns-in_err-variable : goal.returns-in_err-variable
returns-in_err-variable c =
    let old = c.args.self.now in
    let E = environment c.args.signature.now old.joints in
    let place = place_of old c.args.place in
    failed _ _ _ c.args.self.now _ _ c.from_residual.ensures.1
    (stopped_in k.Variable old c.requires.starts _ _ (c.in_err-variable.ensures.stops E) (m.operand 5 place) (m.stands (text_ahead old) place) (m.comparison place ∷ []) refl refl)

pub returns-in_err-comparer : goal.returns-in_err-comparer
returns-in_err-comparer c =
    let old = c.args.self.now in
    let read = c.in_ok-variable.ensures in
    refusal _ _ _ c.args.self.now _ _ _ c.from_residual-in_err-comparer.ensures.1
    (variable_begins c.args.signature.now c.args.place old c.variable.new.self c.requires.starts (read.takes (environment c.args.signature.now old.joints)) refl read.joints
    (ap (λ scope. scope.bound) read.scope))
    c.in_err-comparer.ensures

pub returns : goal.returns
returns c =
    let old = c.args.self.now in
    let read = c.in_ok-variable.ensures in
    let takes = read.takes (environment c.args.signature.now old.joints) in
    record {
      faults = λ s. variable_begins c.args.signature.now c.args.place old c.variable.new.self c.requires.starts takes refl read.joints (ap (λ scope. scope.bound) read.scope) s
          ∙ c.in_ok-comparer.ensures.faults s;
      read = compared_read (variable_read c.requires.starts takes read.scope read.number) c.in_ok-comparer.ensures.read c.compared.ensures;
    }
