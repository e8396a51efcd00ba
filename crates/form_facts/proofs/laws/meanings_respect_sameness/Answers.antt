use Rattle.formula_ast.specs.Satisfaction.{meaning_of}
use Rattle.form_facts.proofs.laws.meanings_respect_sameness.Goals as goal
use Rattle.form_facts.proofs.Sameness.{holds_alike, meaning_respects, wins_alike}
use Rattle.form_facts.proofs.Bodies.{predicate_is_its_body}

pub returns : goal.returns
returns c = record {
  satisfaction = λ σ preds f d e. holds_alike (meaning_of σ preds) f d e;
  predicates = λ σ. meaning_respects;
  winning = λ σ. wins_alike;
  bodies = predicate_is_its_body;
}
