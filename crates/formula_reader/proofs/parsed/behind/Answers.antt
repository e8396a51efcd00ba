use Rattle.std.proofs.Common.{◌∙◌, ap, sym}
use Rattle.std.proofs.lemmas.List.{nil_from_length}
use Rattle.std.specs.Iterator.Adapters.{rev_source}
use Rattle.std.specs.Slice.Iter.{iter_rest}
use Rattle.formula_ast.specs.Forms.{form_of}
use Rattle.formula_grammar.specs.Meaning.{behind, quantifier_form}
use Rattle.formula_reader.specs.Kinds.{quantifier_of}
use Rattle.formula_reader.proofs.Forming.{behind_step}
use Rattle.formula_reader.proofs.parsed.behind.Goals as goal

pub loop-variable-init : goal.loop-variable-init
loop-variable-init c =
    let q = quantifier_form (quantifier_of c.args.quantifier) in
    record {
      next = tt;
      finite = tt;
      form = ap (λ i. behind q (iter_rest (rev_source i)) (form_of c.args.inner)) c.into_iter-variable-iterator.ensures.into_iter_gives
          ∙ ap (λ i. behind q (iter_rest i) (form_of c.args.inner)) c.rev-variable-items.ensures.source
          ∙ ap (λ l. behind q l (form_of c.args.inner)) c.iter.ensures.rest;
    }

pub loop-variable-preserved : goal.loop-variable-preserved
loop-variable-preserved c = record {
  next = tt;
  finite = tt;
  form = behind_step (quantifier_form (quantifier_of c.args.quantifier)) _ _ _ _ _ _ c.in-Some.ensures.steps c.in_ok-formula.ensures.formula c.loop-variable.invariant.form;
}

pub returns-clause-formula : goal.returns-clause-formula
returns-clause-formula c =
    sym (ap (λ l. behind (quantifier_form (quantifier_of c.args.quantifier)) l (form_of c.loop-variable.formula)) (nil_from_length _ c.in-None.ensures.steps.0))
    ∙ c.loop-variable.invariant.form
