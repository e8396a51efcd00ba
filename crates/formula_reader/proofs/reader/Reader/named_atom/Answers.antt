use Rattle.std.proofs.Common.{◌∷◌, [], refl, sym, ap, ◌∙◌, arith}
use Rattle.formula_ast.proofs.Ties.{call_form}
use Rattle.formula_ast.specs.Forms as form
use Rattle.formula_ast.specs.Terms.{list_of}
use Rattle.formula_ast.specs.declared.term.Term.TheVariants as rust
use Rattle.formula_ast.specs.declared.token.TokenKind.TheVariants as k
use Rattle.formula_grammar.specs.Written.{named}
use Rattle.formula_grammar.specs.Words.{word}
use Rattle.formula_grammar.specs.Machine as m
use Rattle.formula_grammar.specs.Checks.{check}
use Rattle.formula_reader.specs.Input.{words_left, text_ahead, environment, place_of}
use Rattle.formula_reader.specs.Faults.{fault_of}
use Rattle.formula_reader.proofs.Steps.{words_taken, stopped_in, skipped_in, failed, refusal}
use Rattle.formula_reader.proofs.Reading.{complains, same_place}
use Rattle.formula_reader.proofs.TermReading.{made_headed, headed_read}
use Rattle.formula_reader.proofs.AtomReading.{name_begins, compares_behind, comparison_behind, compared_read, tail_blocked, call_read}
use Rattle.formula_reader.proofs.reader.Reader.named_atom.Goals as goal

pub returns-in_err-take : goal.returns-in_err-take
returns-in_err-take c =
    let old = c.args.self.now in
    let place = place_of old c.args.place in
    failed _ _ _ c.args.self.now _ _ c.from_residual.ensures.1
    (stopped_in k.Name old c.requires.starts _ _ c.in_err-take.ensures.stops (m.operand 5 place) (m.begins_atom (text_ahead old))
    (m.arguments (named (text_ahead old)) place ∷ m.name_tail (text_ahead old) place ∷ []) refl
    (c.begins_atom.ensures old.joints ∙ ap (λ f. check (environment c.args.signature.now old.joints) (m.begins_atom f)) c.text-name.ensures))

pub returns-in_err-arguments : goal.returns-in_err-arguments
returns-in_err-arguments c =
    let old = c.args.self.now in
    let took = c.in_ok-take.ensures in
    refusal _ _ _ c.args.self.now _ _ _ c.from_residual-in_err-arguments.ensures.1
    (name_begins c.args.signature.now c.args.place old c.take.new.self c.text-name.result.now c.requires.starts c.text-name.ensures took.takes (c.begins_atom.ensures old.joints) took.joints took.keeps)
    (λ s. c.in_err-arguments.ensures (m.name_tail c.text-name.result.now (place_of old c.args.place) ∷ s))

pub returns-in_err-comparer : goal.returns-in_err-comparer
returns-in_err-comparer c =
    let old = c.args.self.now in
    let σ = c.args.signature.now in
    let name = c.text-name.result.now in
    let took = c.in_ok-take.ensures in
    let left = c.in_ok-arguments.ensures in
    let place = place_of old c.args.place in
    let said = complains c.arguments.new.self c.complain.new.self c.compares.result c.complain.ensures in
    refusal _ _ _ c.args.self.now _ _ _ c.from_residual-in_err-comparer.ensures.1
    (λ s. name_begins σ c.args.place old c.take.new.self name c.requires.starts c.text-name.ensures took.takes (c.begins_atom.ensures old.joints) took.joints took.keeps s
    ∙ left.faults (m.name_tail name place ∷ s)
    ∙ compares_behind σ c.arguments.new.self c.complain.new.self name place (sym c.if-sees_comparison.ensures) c.complain.ensures (c.compares.ensures c.arguments.new.self.joints) s
    ∙ ap (λ p. fault_of σ c.complain.new.self (m.comparison p ∷ s))
    (sym (same_place old c.complain.new.self c.args.place
    (ap (λ scope. scope.bound) said.keeps.scope ∙ ap (λ scope. scope.bound) left.read.scope ∙ ap (λ scope. scope.bound) took.keeps.scope))))
    c.in_err-comparer.ensures

pub returns-in_ok-comparer : goal.returns-in_ok-comparer
returns-in_ok-comparer c =
    let old = c.args.self.now in
    let σ = c.args.signature.now in
    let name = c.text-name.result.now in
    let took = c.in_ok-take.ensures in
    let left = c.in_ok-arguments.ensures in
    let place = place_of old c.args.place in
    let said = complains c.arguments.new.self c.complain.new.self c.compares.result c.complain.ensures in
    record {
      faults = λ s. name_begins σ c.args.place old c.take.new.self name c.requires.starts c.text-name.ensures took.takes (c.begins_atom.ensures old.joints) took.joints took.keeps s
          ∙ left.faults (m.name_tail name place ∷ s)
          ∙ compares_behind σ c.arguments.new.self c.complain.new.self name place (sym c.if-sees_comparison.ensures) c.complain.ensures (c.compares.ensures c.arguments.new.self.joints) s
          ∙ ap (λ p. fault_of σ c.complain.new.self (m.comparison p ∷ s))
          (sym (same_place old c.complain.new.self c.args.place
          (ap (λ scope. scope.bound) said.keeps.scope ∙ ap (λ scope. scope.bound) left.read.scope ∙ ap (λ scope. scope.bound) took.keeps.scope)))
          ∙ c.in_ok-comparer.ensures.faults s;
      read = compared_read
          (headed_read k.Name (named name) σ c.requires.starts took.takes (ap (λ f. word k.Name f) (sym c.text-name.ensures)) took.keeps
          (made_headed (named name) left.read (ap (λ f. rust.App f c.in_ok-arguments.arguments) c.symbol_of.ensures)))
          (comparison_behind said.text said.keeps said.bytes said.on c.in_ok-comparer.ensures.read) c.compared.ensures;
    }

pub returns-else-sees_comparison : goal.returns-else-sees_comparison
returns-else-sees_comparison c =
    let old = c.args.self.now in
    let σ = c.args.signature.now in
    let name = c.text-name.result.now in
    let took = c.in_ok-take.ensures in
    let left = c.in_ok-arguments.ensures in
    let place = place_of old c.args.place in
    let said = complains c.arguments.new.self c.complain-else-sees_comparison.new.self c.stands_alone.result c.complain-else-sees_comparison.ensures in
    record {
      faults = λ s. name_begins σ c.args.place old c.take.new.self name c.requires.starts c.text-name.ensures took.takes (c.begins_atom.ensures old.joints) took.joints took.keeps s
          ∙ left.faults (m.name_tail name place ∷ s)
          ∙ skipped_in σ c.arguments.new.self c.complain-else-sees_comparison.new.self (m.name_tail name place) (m.stands_alone name) refl
          (tail_blocked c.arguments.new.self name place (sym c.if-sees_comparison.ensures)) refl c.complain-else-sees_comparison.ensures (c.stands_alone.ensures c.arguments.new.self.joints) s;
      read = call_read name (words_taken k.Name c.requires.starts took.takes ∙ ap (λ f. word k.Name f ∷ words_left c.take.new.self) (sym c.text-name.ensures)) took.keeps took.takes.bytes (omega (arith, took.takes.on)) left.read said
          (call_form c.place_in.result c.in_ok-arguments.arguments ∙ ap (λ n. form.call n (list_of c.in_ok-arguments.arguments)) c.place_in.ensures);
    }
