use Rattle.std.proofs.Common.{length, sym, subst}
use Rattle.formula_ast.specs.Forms.{Form}
use Rattle.formula_ast.specs.WellFormed.{FormOver}
use Rattle.decision.specs.Decided.{IsSolution}
use Rattle.decision.proofs.deciding.denied.Goals as goal

pub solution-requires-clause-over : goal.solution-requires-clause-over
solution-requires-clause-over g c = (
  length c.args.s.now.names,
  subst (λ (h : Form). FormOver c.args.file.now.signature c.args.file.now.signature (length c.args.s.now.names) h) (sym c.in_ok-negation.ensures) c.requires.statement.formula,
)

pub returns-clause-solution : goal.returns-clause-solution
returns-clause-solution g c =
    subst (λ (h : Form). IsSolution g.E.Engine.gives c.args.file.now c.args.ranks.now h c.in_ok-cubes.cubes) c.in_ok-negation.ensures c.in_ok-cubes.ensures.solution
