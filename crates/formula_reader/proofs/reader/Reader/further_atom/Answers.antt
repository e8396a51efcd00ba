use Rattle.std.proofs.Common.{◌∷◌, [], refl, sym, ap, ◌∙◌}
use Rattle.formula_ast.specs.declared.token.TokenKind.TheVariants as k
use Rattle.formula_grammar.specs.Written.{further}
use Rattle.formula_grammar.specs.Words.{word}
use Rattle.formula_grammar.specs.Machine as m
use Rattle.formula_grammar.specs.Checks.{check}
use Rattle.formula_reader.specs.Input.{text_ahead, environment, place_of}
use Rattle.formula_reader.specs.Faults.{fault_of}
use Rattle.formula_reader.proofs.Steps.{stopped_in, failed, refusal}
use Rattle.formula_reader.proofs.Reading.{kept_place, same_place}
use Rattle.formula_reader.proofs.TermReading.{head_taken, headed_read, index_fits}
use Rattle.formula_reader.proofs.AtomReading.{compared_read}
use Rattle.formula_reader.proofs.reader.Reader.further_atom.Goals as goal

pub returns-in_err-take : goal.returns-in_err-take
returns-in_err-take c =
    let old = c.args.self.now in
    let place = place_of old c.args.place in
    failed _ _ _ c.args.self.now _ _ c.from_residual.ensures.1
    (stopped_in k.Further old c.requires.starts _ _ c.in_err-take.ensures.stops (m.operand 5 place) (m.heads (further (text_ahead old)))
    (m.arguments (further (text_ahead old)) place ∷ m.comparison place ∷ []) refl
    (c.heads.ensures old.joints ∙ ap (λ f. check (environment c.args.signature.now old.joints) (m.heads (further f))) c.text.ensures))

pub headed-requires : goal.headed-requires
headed-requires c = record {
  depth = c.requires.depth;
  small = index_fits c.args.signature.now c.args.self.now.joints _ _ (c.heads.ensures c.args.self.now.joints) c.in_ok-take.ensures.takes.right;
}

pub returns-in_err-left : goal.returns-in_err-left
returns-in_err-left c =
    let old = c.args.self.now in
    let σ = c.args.signature.now in
    let h = further c.text.result.now in
    let took = c.in_ok-take.ensures in
    let place = place_of old c.args.place in
    refusal _ _ _ c.args.self.now _ _ _ c.from_residual-in_err-left.ensures.1
    (λ s. head_taken k.Further h σ c.requires.starts took.takes (ap (λ f. word k.Further f) (sym c.text.ensures)) took.keeps (m.operand 5 place) place (m.comparison place ∷ []) refl
    (c.heads.ensures old.joints) took.joints s
    ∙ ap (λ p. fault_of σ c.take.new.self (m.arguments h p ∷ m.comparison place ∷ s)) (sym (kept_place c.args.place took.keeps)))
    (λ s. c.in_err-left.ensures (m.comparison place ∷ s))

pub returns-in_err-comparer : goal.returns-in_err-comparer
returns-in_err-comparer c =
    let old = c.args.self.now in
    let σ = c.args.signature.now in
    let h = further c.text.result.now in
    let took = c.in_ok-take.ensures in
    let left = c.in_ok-left.ensures in
    let place = place_of old c.args.place in
    refusal _ _ _ c.args.self.now _ _ _ c.from_residual-in_err-comparer.ensures.1
    (λ s. head_taken k.Further h σ c.requires.starts took.takes (ap (λ f. word k.Further f) (sym c.text.ensures)) took.keeps (m.operand 5 place) place (m.comparison place ∷ []) refl
    (c.heads.ensures old.joints) took.joints s
    ∙ ap (λ p. fault_of σ c.take.new.self (m.arguments h p ∷ m.comparison place ∷ s)) (sym (kept_place c.args.place took.keeps))
    ∙ left.faults (m.comparison place ∷ s)
    ∙ ap (λ p. fault_of σ c.headed.new.self (m.comparison p ∷ s))
    (sym (same_place old c.headed.new.self c.args.place (ap (λ scope. scope.bound) left.read.scope ∙ ap (λ scope. scope.bound) took.keeps.scope))))
    c.in_err-comparer.ensures

pub returns : goal.returns
returns c =
    let old = c.args.self.now in
    let σ = c.args.signature.now in
    let h = further c.text.result.now in
    let took = c.in_ok-take.ensures in
    let left = c.in_ok-left.ensures in
    let place = place_of old c.args.place in
    record {
      faults = λ s. head_taken k.Further h σ c.requires.starts took.takes (ap (λ f. word k.Further f) (sym c.text.ensures)) took.keeps (m.operand 5 place) place (m.comparison place ∷ [])
          refl (c.heads.ensures old.joints) took.joints s
          ∙ ap (λ p. fault_of σ c.take.new.self (m.arguments h p ∷ m.comparison place ∷ s)) (sym (kept_place c.args.place took.keeps))
          ∙ left.faults (m.comparison place ∷ s)
          ∙ ap (λ p. fault_of σ c.headed.new.self (m.comparison p ∷ s))
          (sym (same_place old c.headed.new.self c.args.place (ap (λ scope. scope.bound) left.read.scope ∙ ap (λ scope. scope.bound) took.keeps.scope)))
          ∙ c.in_ok-comparer.ensures.faults s;
      read = compared_read (headed_read k.Further h σ c.requires.starts took.takes (ap (λ f. word k.Further f) (sym c.text.ensures)) took.keeps left.read) c.in_ok-comparer.ensures.read
          c.compared.ensures;
    }
