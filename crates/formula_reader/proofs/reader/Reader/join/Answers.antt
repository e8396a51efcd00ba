use Rattle.std.proofs.Common.{sym}
use Rattle.formula_reader.specs.Kinds.{joint_of}
use Rattle.formula_reader.proofs.Steps.{failed}
use Rattle.formula_reader.proofs.FormulaReading.{chain_read, chain_stopped, nest_answers, plain_read, plain_stopped}
use Rattle.formula_reader.proofs.reader.Reader.join.Goals as goal

pub returns-in_err-count : goal.returns-in_err-count
returns-in_err-count c = λ σ.
    failed _ _ _ c.args.self.now _ _ c.from_residual.ensures.1
    (chain_stopped (joint_of c.args.joint) c.args.place σ c.args.self.now (sym c.if-chains.ensures) c.requires.starts _ (c.in_err-count.ensures.stops σ))

pub returns-then-chains : goal.returns-then-chains
returns-then-chains c = λ σ.
    let counted = c.in_ok-count.ensures in
    chain_read (joint_of c.args.joint) c.args.place σ c.args.self.now c.count.new.self (sym c.if-chains.ensures) c.requires.starts (counted.takes σ) counted.joints counted.keeps
    c.requires.depth

pub returns-then-nests : goal.returns-then-nests
returns-then-nests c = λ σ.
    let opens = c.open.ensures in
    nest_answers (joint_of c.args.joint) c.args.place σ c.args.self.now c.open.new.self c.open.result (sym c.if-nests.ensures) c.requires.starts opens.takes opens.keeps opens.joints opens.inner
    opens.depth opens.stops

pub returns-in_err-take : goal.returns-in_err-take
returns-in_err-take c = λ σ.
    failed _ _ _ c.args.self.now _ _ c.from_residual-in_err-take.ensures.1
    (plain_stopped (joint_of c.args.joint) c.args.place σ c.args.self.now (sym c.if-chains.ensures) (sym c.if-nests.ensures) c.requires.starts _ c.in_err-take.ensures.stops)

pub returns : goal.returns
returns c = λ σ.
    let took = c.in_ok-take.ensures in
    plain_read (joint_of c.args.joint) c.args.place σ c.args.self.now c.take.new.self (sym c.if-chains.ensures) (sym c.if-nests.ensures) c.requires.starts took.takes took.joints took.keeps
    c.requires.depth
