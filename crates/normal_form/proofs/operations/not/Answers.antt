use Rattle.std.proofs.lemmas.Result.{IfOk-weaker}
use Rattle.step_facts.specs.Lists.{IsNot}
use Rattle.list_facts.proofs.Lists.{not_means, not_reduced}
use Rattle.list_facts.proofs.Symbols.{lists_have_symbols}
use Rattle.normal_form.proofs.operations.not.Goals as goal

pub returns-clause-reduced : goal.returns-clause-reduced
returns-clause-reduced c =
    let free = c.args.free in
    let cubes = c.args.a.now in
    IfOk-weaker c.not_by.result (IsNot free cubes) _ (λ out is σ f.
    let are = not_reduced σ free cubes out (record { over = c.requires; fit = f }) is in (are.reduced, are.distinct)) c.not_by.ensures.exactly

pub returns-clause-symbols : goal.returns-clause-symbols
returns-clause-symbols c =
    IfOk-weaker c.not_by.result (IsNot c.args.free c.args.a.now) _ (λ out is. lists_have_symbols.none c.args.free c.args.a.now out is) c.not_by.ensures.exactly

pub returns-clause-means : goal.returns-clause-means
returns-clause-means c =
    let free = c.args.free in
    let cubes = c.args.a.now in
    IfOk-weaker c.not_by.result (IsNot free cubes) _ (λ out is σ e f reduced. not_means σ free cubes out e (record { over = c.requires; fit = f }) reduced is) c.not_by.ensures.exactly
