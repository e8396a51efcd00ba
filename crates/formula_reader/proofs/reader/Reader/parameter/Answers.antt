use Rattle.std.proofs.Common.{◌≡◌, ◌∷◌, ◌++◌, [], false, List, length, None, refl, sym, ap, subst, ◌∙◌}
use Rattle.formula_ast.specs.declared.token.TokenKind.TheVariants as k
use Rattle.formula_grammar.specs.Machine as m
use Rattle.std.specs.Prelude.{if◌then◌else◌}
use Rattle.formula_grammar.specs.Written.{Text}
use Rattle.formula_grammar.specs.Checks.{check, sooner, is_among}
use Rattle.formula_grammar.specs.Meaning.{first_occurrences}
use Rattle.formula_reader.specs.Input.{Input, Scope, text_ahead, environment}
use Rattle.formula_reader.specs.Faults.{RefusesAt}
use Rattle.formula_reader.proofs.Steps.{stopped_in, failed_with, taken_on}
use Rattle.formula_reader.proofs.Declaring.{new_parameter}
use Rattle.formula_reader.proofs.StatementReading.{parameter_read}
use Rattle.formula_reader.proofs.reader.Reader.parameter.Goals as goal

pub returns-in_err-take : goal.returns-in_err-take
returns-in_err-take c = λ σ.
    let old = c.args.self.now in
    let E = environment σ old.joints in
    let wrong = c.has_parameter.ensures E old.scope.bound (c.depth-before.ensures ∙ ap (λ (i : Input). length i.scope.bound) c.self.view_is)
    (c.is_bound-twice.ensures ∙ ap (λ (i : Input). is_among c.text-name.result.now i.scope.bound) c.self.view_is)
    ∙ ap (λ f. check E (m.has_parameter f old.scope.bound)) c.text-name.ensures in
    failed_with _ (λ e. (p : Text) → RefusesAt (m.parameter p old.scope.bound) σ old e) _ _ c.from_residual.ensures.1
    (λ p. stopped_in k.Variable old (sym c.if-not-sees.ensures) σ _ c.in_err-take.ensures.stops (m.parameter p old.scope.bound) (m.has_parameter (text_ahead old) old.scope.bound)
    (m.more_parameters p (old.scope.bound ++ text_ahead old ∷ []) ∷ []) refl wrong)

-- a name that is not there stands behind the others
new_behind : (names texts : List Text) (x : Text) → names ≡ texts → is_among x texts ≡ false → first_occurrences names (x ∷ []) ≡ names ++ x ∷ []
new_behind names texts x same absent = ap (λ b. if b then names else names ++ x ∷ []) (ap (is_among x) same ∙ absent)

pub returns : goal.returns
returns c = λ σ.
    let old = c.args.self.now in
    let E = environment σ old.joints in
    let name = c.text-name.result.now in
    let took = c.in_ok-take.ensures in
    let wrong = c.has_parameter.ensures E old.scope.bound (c.depth-before.ensures ∙ ap (λ (i : Input). length i.scope.bound) c.self.view_is)
    (c.is_bound-twice.ensures ∙ ap (λ (i : Input). is_among name i.scope.bound) c.self.view_is) ∙ ap (λ f. check E (m.has_parameter f old.scope.bound)) c.text-name.ensures in
    let absent = new_parameter E old.pending (text_ahead old) old.scope.bound (subst (λ w. sooner old.pending w ≡ None) wrong took.takes.right) in
    parameter_read (sym c.if-not-sees.ensures)
    (taken_on took.takes _ (ap (λ (i : Input). i.bytes) c.self-2.view_is) (ap (λ (i : Input). i.at) c.self-2.view_is) (ap (λ (i : Input). i.pending) c.self-2.view_is)) wrong
    (ap (λ (i : Input). i.joints) c.self-2.view_is ∙ took.joints)
    (c.in_ok-bind.ensures.bound ∙ ap (λ (i : Input). record { names = first_occurrences i.scope.names (name ∷ []); bound = i.scope.bound ++ name ∷ [] }) c.self-2.view_is
    ∙ ap (λ (scope : Scope). record { names = first_occurrences scope.names (name ∷ []); bound = scope.bound ++ name ∷ [] }) took.keeps.scope
    ∙ ap (λ f. record { names = first_occurrences old.scope.names (f ∷ []); bound = old.scope.bound ++ f ∷ [] }) c.text-name.ensures
    ∙ ap (λ names. record { names = names; bound = old.scope.bound ++ text_ahead old ∷ [] }) (new_behind old.scope.names old.scope.bound (text_ahead old) c.requires absent))
