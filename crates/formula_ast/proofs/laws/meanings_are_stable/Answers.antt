use Rattle.formula_ast.proofs.Stable.{Holds_stable, Wins_stable, ReadsAs_stable, meaning_stable}
use Rattle.formula_ast.specs.Satisfaction.{meaning_of}
use Rattle.formula_ast.proofs.laws.meanings_are_stable.Goals as goal

pub returns : goal.returns
returns c = record {
  satisfaction = λ σ preds f e. Holds_stable σ (meaning_of σ preds) f e;
  winning = λ σ preds p k t. Wins_stable σ (meaning_of σ preds p) k t;
  predicates = meaning_stable;
  reading = ReadsAs_stable;
}
