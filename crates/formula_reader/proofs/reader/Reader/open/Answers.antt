use Rattle.std.proofs.Common.{[], suc, ap, subst, ◌∙◌, add-one}
use Rattle.formula_grammar.specs.Machine as m
use Rattle.formula_grammar.specs.Checks.{check, start}
use Rattle.formula_reader.specs.Faults.{Takes, Stops}
use Rattle.formula_reader.proofs.Steps.{exits, within}
use Rattle.formula_reader.proofs.reader.Reader.open.Goals as goal

pub returns-in_err-take-clause-stops : goal.returns-in_err-take-clause-stops
returns-in_err-take-clause-stops c = λ E.
    exits (λ e. Stops (check E (m.opens (suc c.args.place.depth))) c.args.self.now e) _ _ c.from_residual.ensures.1
    (subst (λ w. Stops w c.args.self.now c.in_err-take.field-0.0) (c.nests.ensures E ∙ ap (λ d. check E (m.opens d)) (add-one c.args.place.depth)) c.in_err-take.ensures.stops)

pub returns-clause-takes : goal.returns-clause-takes
returns-clause-takes c = λ E. subst (λ w. Takes w c.args.self.now c.take.new.self) (c.nests.ensures E ∙ ap (λ d. check E (m.opens d)) (add-one c.args.place.depth)) c.in_ok-take.ensures.takes

pub returns-clause-depth : goal.returns-clause-depth
returns-clause-depth c = within _ _ _ 200 (c.nests.ensures (start [])) c.in_ok-take.ensures.takes.right
