use Rattle.std.proofs.Common.{◌≡◌, [], sym, ap, subst, ◌∙◌, arith}
use Rattle.formula_grammar.specs.Machine as m
use Rattle.formula_grammar.specs.Checks.{check}
use Rattle.formula_reader.specs.Input.{Input, environment}
use Rattle.formula_reader.specs.Faults.{Takes, Stops}
use Rattle.formula_reader.proofs.Steps.{exits, taken_on, may_rise}
use Rattle.formula_reader.proofs.reader.Reader.count.Goals as goal

pub returns-in_err-take-clause-stops : goal.returns-in_err-take-clause-stops
returns-in_err-take-clause-stops c = λ σ.
    let old = c.args.self.now in
    let wrong = c.joins-wrong.ensures σ ∙ ap (λ (i : Input). check (environment σ i.joints) m.joins) c.self.view_is in
    exits (λ e. Stops (check (environment σ old.joints) m.joins) old e) _ _ c.from_residual.ensures.1
    (subst (λ w. Stops w old c.in_err-take.field-0.0) wrong c.in_err-take.ensures.stops)

pub returns-clause-takes : goal.returns-clause-takes
returns-clause-takes c = λ σ.
    let old = c.args.self.now in
    let wrong = c.joins-wrong.ensures σ ∙ ap (λ (i : Input). check (environment σ i.joints) m.joins) c.self.view_is in
    taken_on (subst (λ w. Takes w old c.take.new.self) wrong c.in_ok-take.ensures.takes) _ (ap (λ (i : Input). i.bytes) c.self-2.view_is) (ap (λ (i : Input). i.at) c.self-2.view_is)
    (ap (λ (i : Input). i.pending) c.self-2.view_is)

pub invariant_of-self : goal.invariant_of-self
invariant_of-self c =
    let same : c.self-2.inside.joints ≡ c.self.inside.joints =
    ap (λ (i : Input). i.joints) c.self-2.view_is ∙ c.in_ok-take.ensures.joints ∙ sym (ap (λ (i : Input). i.joints) c.self.view_is) in
    let rise = may_rise _ _ c.self.inside.joints 1000 (c.joins-wrong.ensures []) c.in_ok-take.ensures.takes.right in
    (omega (arith, rise, same), c.self-2.invariant.1)
