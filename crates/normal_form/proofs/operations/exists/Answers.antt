use Rattle.std.proofs.lemmas.Result.{IfOk-weaker}
use Rattle.step_facts.specs.Lists.{IsExists}
use Rattle.list_facts.proofs.Symbols.{lists_have_symbols}
use Rattle.normal_form.proofs.Quantified.{opened_reduced, opened_list_means}
use Rattle.normal_form.proofs.operations.exists.Goals as goal

pub returns-clause-reduced : goal.returns-clause-reduced
returns-clause-reduced c =
    let cubes = c.args.a.now in
    let quantified = c.args.quantified in
    IfOk-weaker c.exists_by.result (IsExists quantified cubes) _ (λ out is σ n f over. opened_reduced σ n quantified cubes out c.requires f over is) c.exists_by.ensures.exactly

pub returns-clause-symbols : goal.returns-clause-symbols
returns-clause-symbols c =
    let cubes = c.args.a.now in
    let quantified = c.args.quantified in
    IfOk-weaker c.exists_by.result (IsExists quantified cubes) _ (λ out is. lists_have_symbols.some quantified cubes out is) c.exists_by.ensures.exactly

pub returns-clause-means : goal.returns-clause-means
returns-clause-means c =
    let cubes = c.args.a.now in
    let quantified = c.args.quantified in
    IfOk-weaker c.exists_by.result (IsExists quantified cubes) _ (λ out is σ n e f over. opened_list_means σ n quantified cubes out e c.requires f over is) c.exists_by.ensures.exactly
