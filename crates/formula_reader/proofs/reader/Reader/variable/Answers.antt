use Rattle.std.proofs.Common.{ap, subst, ◌∙◌}
use Rattle.std.specs.Prelude.{Result, Ok, Err, OnOk}
use Rattle.formula_grammar.specs.Machine as m
use Rattle.formula_grammar.specs.Checks.{check, is_among}
use Rattle.formula_reader.specs.declared.error.ReadError.{ReadError}
use Rattle.formula_reader.specs.Input.{Input, text_ahead, place_of}
use Rattle.formula_reader.specs.Faults.{Takes, Stops}
use Rattle.formula_reader.proofs.Steps.{exits, taken_on, stands_is}
use Rattle.formula_reader.proofs.reader.Reader.variable.Goals as goal

pub returns-in_err-take-clause-stops : goal.returns-in_err-take-clause-stops
returns-in_err-take-clause-stops c = λ E.
    let old = c.args.self.now in
    let bound = c.is_bound-bound.ensures ∙ ap (λ (i : Input). is_among c.text-name.result.now i.scope.bound) c.self.view_is in
    let wrong = stands_is old c.args.place c.text-name.result.now c.is_bound-bound.result c.stands.result c.stands.ensures bound c.text-name.ensures E in
    exits (λ e. Stops (check E (m.stands (text_ahead old) (place_of old c.args.place))) old e) _ _ c.from_residual.ensures.1
    (subst (λ w. Stops w old c.in_err-take.field-0.0) wrong c.in_err-take.ensures.stops)

-- what does not depend on an answer holds of each
on_ok : {T : Type 0} (r : Result T ReadError) (P : Type 0) → P → OnOk r P
on_ok (Ok value) P holds = holds
on_ok (Err e) P holds = tt

pub returns-clause-takes : goal.returns-clause-takes
returns-clause-takes c = λ E.
    let old = c.args.self.now in
    let bound = c.is_bound-bound.ensures ∙ ap (λ (i : Input). is_among c.text-name.result.now i.scope.bound) c.self.view_is in
    let wrong = stands_is old c.args.place c.text-name.result.now c.is_bound-bound.result c.stands.result c.stands.ensures bound c.text-name.ensures E in
    on_ok c.number.result _
    (taken_on (subst (λ w. Takes w old c.take.new.self) wrong c.in_ok-take.ensures.takes) _ (ap (λ (i : Input). i.bytes) c.self-2.view_is) (ap (λ (i : Input). i.at) c.self-2.view_is)
    (ap (λ (i : Input). i.pending) c.self-2.view_is))
