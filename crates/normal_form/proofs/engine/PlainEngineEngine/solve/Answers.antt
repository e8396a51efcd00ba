use Rattle.std.proofs.lemmas.Result.{IfOk-weaker}
use Rattle.flat_form.specs.Normals.{norm_of}
use Rattle.step_facts.specs.Lists.{IsPlain}
use Rattle.list_facts.proofs.Plain.{plain_means_all}
use Rattle.list_facts.proofs.Symbols.{lists_have_symbols}
use Rattle.normal_form.proofs.Continuing.{plain_distinct}
use Rattle.normal_form.proofs.engine.PlainEngineEngine.solve.Goals as goal

pub returns-clause-reduced : goal.returns-clause-reduced
returns-clause-reduced c =
    let n = norm_of c.args.n.now in
    IfOk-weaker c.plain.result (IsPlain c.args.free n) _ (λ out is σ fits. (plain_means_all.reduced σ c.args.free n out c.requires fits is).reduced) c.plain.ensures.exactly

pub returns-clause-distinct : goal.returns-clause-distinct
returns-clause-distinct c =
    let n = norm_of c.args.n.now in
    IfOk-weaker c.plain.result (IsPlain c.args.free n) _ (λ out is. plain_distinct c.args.free n out is) c.plain.ensures.exactly

pub returns-clause-symbols : goal.returns-clause-symbols
returns-clause-symbols c =
    let n = norm_of c.args.n.now in
    IfOk-weaker c.plain.result (IsPlain c.args.free n) _ (λ out is σ fits. lists_have_symbols.plain c.args.free n out is) c.plain.ensures.exactly

pub returns-clause-meaning : goal.returns-clause-meaning
returns-clause-meaning c =
    let n = norm_of c.args.n.now in
    IfOk-weaker c.plain.result (IsPlain c.args.free n) _ (λ out is σ e fits. plain_means_all.means σ c.args.free n out e c.requires fits is) c.plain.ensures.exactly
