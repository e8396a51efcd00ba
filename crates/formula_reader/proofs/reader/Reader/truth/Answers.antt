use Rattle.formula_ast.proofs.Ties.{always_form, never_form}
use Rattle.formula_reader.proofs.Steps.{failed}
use Rattle.formula_reader.proofs.AtomReading.{truth_read, truth_stopped}
use Rattle.formula_reader.proofs.reader.Reader.truth.Goals as goal

pub returns-in_err-take : goal.returns-in_err-take
returns-in_err-take c = λ σ p.
    failed _ _ _ c.args.self.now _ _ c.from_residual.ensures.1
    (truth_stopped c.args.value c.args.kind c.requires.kind σ p c.args.self.now c.requires.starts _ c.in_err-take.ensures.stops)

pub returns-then-value : goal.returns-then-value
returns-then-value c = λ σ p.
    let took = c.in_ok-take.ensures in
    truth_read c.args.value c.args.kind c.requires.kind σ p c.args.self.now c.requires.starts took.takes took.keeps took.joints (rw c.if-value.true always_form)

pub returns-else-value : goal.returns-else-value
returns-else-value c = λ σ p.
    let took = c.in_ok-take.ensures in
    truth_read c.args.value c.args.kind c.requires.kind σ p c.args.self.now c.requires.starts took.takes took.keeps took.joints (rw c.if-value.false never_form)
