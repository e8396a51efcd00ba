use Rattle.std.proofs.lemmas.Result.{IfOk-weaker}
use Rattle.step_facts.specs.Lists.{IsAnd}
use Rattle.list_facts.proofs.Lists.{and_means, and_reduced}
use Rattle.list_facts.proofs.Symbols.{lists_have_symbols}
use Rattle.normal_form.proofs.operations.and.Goals as goal

pub returns-clause-reduced : goal.returns-clause-reduced
returns-clause-reduced c =
    let left = c.args.a.now in
    let right = c.args.b.now in
    let (n, a, b) = c.requires in
    IfOk-weaker c.and_by.result (IsAnd left right) _ (λ out is σ f g.
    let are = and_reduced σ n left right out (record { over = a; fit = f }) (record { over = b; fit = g }) is in (are.reduced, are.distinct)) c.and_by.ensures.exactly

pub returns-clause-symbols : goal.returns-clause-symbols
returns-clause-symbols c =
    let left = c.args.a.now in
    let right = c.args.b.now in
    IfOk-weaker c.and_by.result (IsAnd left right) _ (λ out is. lists_have_symbols.both left right out is) c.and_by.ensures.exactly

pub returns-clause-means : goal.returns-clause-means
returns-clause-means c =
    let left = c.args.a.now in
    let right = c.args.b.now in
    let (n, a, b) = c.requires in
    IfOk-weaker c.and_by.result (IsAnd left right) _ (λ out is σ e f g. and_means σ n left right out e (record { over = a; fit = f }) (record { over = b; fit = g }) is) c.and_by.ensures.exactly
