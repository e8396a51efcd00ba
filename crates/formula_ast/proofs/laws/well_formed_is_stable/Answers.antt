use Rattle.formula_ast.proofs.WellFormed.{form_stable, named_stable, file_stable, front_over, empty_formed}
use Rattle.formula_ast.proofs.laws.well_formed_is_stable.Goals as goal

pub returns : goal.returns
returns c = record {
  formulas = form_stable;
  statements = λ σ s. named_stable σ σ s.names s.body;
  files = file_stable;
  front = front_over;
  empty = empty_formed;
}
