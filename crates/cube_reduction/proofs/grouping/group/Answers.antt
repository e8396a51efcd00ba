use Rattle.std.proofs.Common.{◌≡◌, ◌+◌, [], refl, arith}
use Rattle.flat_facts.proofs.Follows.{added_over}
use Rattle.flat_facts.proofs.Shapes.{solved_form_solved}
use Rattle.cube_reduction.proofs.GroupedCube.{order_here, lent_low, lent_distinct, lent_order, lent_within, grouped_lent}
use Rattle.cube_reduction.proofs.grouping.group.Goals as goal

pub split-requires-clause-solved : goal.split-requires-clause-solved
split-requires-clause-solved c = solved_form_solved c.args.raw.basic c.args.form.now c.requires.solved

pub split-requires-clause-over : goal.split-requires-clause-over
split-requires-clause-over c = added_over (c.args.raw.free + c.args.raw.outer) [] c.args.raw.basic c.args.form.now c.requires.over.basic c.requires.solved

pub others-requires-clause-among : goal.others-requires-clause-among
others-requires-clause-among c =
    let scope_is : c.in-Some.scope ≡ c.args.raw.free + c.args.raw.outer = omega (arith, c.in-Some.ensures) in
    lent_low c.args.raw c.args.form.now _ _ _ [] c.as_slice-determined.result.now c.in-Some.scope c.in_ok-outers.ensures scope_is c.as_slice-determined.ensures

pub new-requires-clause-distinct : goal.new-requires-clause-distinct
new-requires-clause-distinct c =
    let scope_is : c.in-Some.scope ≡ c.args.raw.free + c.args.raw.outer = omega (arith, c.in-Some.ensures) in
    let e = order_here _ _ _ _ _ _ c.as_slice.ensures c.in_ok-copy_onto.ensures c.in_ok-order.ensures c.as_slice-determined.ensures in
    lent_distinct c.args.raw c.args.form.now _ _ _ _ c.as_slice-determined.result.now c.in-Some.scope c.in_ok-outers.ensures scope_is c.as_slice-determined.ensures
    c.in_ok-kept.ensures.ascending c.in_ok-kept.ensures.is _ e

pub new-requires-clause-within : goal.new-requires-clause-within
new-requires-clause-within c =
    let scope_is : c.in-Some.scope ≡ c.args.raw.free + c.args.raw.outer = omega (arith, c.in-Some.ensures) in
    let e = order_here _ _ _ _ _ _ c.as_slice.ensures c.in_ok-copy_onto.ensures c.in_ok-order.ensures c.as_slice-determined.ensures in
    lent_within c.args.raw c.args.form.now _ _ _ _ c.as_slice-determined.result.now c.in-Some.scope c.in_ok-outers.ensures scope_is c.as_slice-determined.ensures
    c.in_ok-kept.ensures.ascending c.in_ok-kept.ensures.is _ e

pub regrouped-requires-clause-over : goal.regrouped-requires-clause-over
regrouped-requires-clause-over c = added_over (c.args.raw.free + c.args.raw.outer) [] c.args.raw.basic c.args.form.now c.requires.over.basic c.requires.solved

pub regrouped-requires-clause-distinct : goal.regrouped-requires-clause-distinct
regrouped-requires-clause-distinct c =
    let scope_is : c.in-Some.scope ≡ c.args.raw.free + c.args.raw.outer = omega (arith, c.in-Some.ensures) in
    let e = order_here _ _ _ _ _ _ c.as_slice-2.ensures c.in_ok-copy_onto.ensures c.in_ok-order.ensures c.as_slice-determined.ensures in
    lent_distinct c.args.raw c.args.form.now _ _ _ _ c.as_slice-determined.result.now c.in-Some.scope c.in_ok-outers.ensures scope_is c.as_slice-determined.ensures
    c.in_ok-kept.ensures.ascending c.in_ok-kept.ensures.is _ e

pub regrouped-requires-clause-order : goal.regrouped-requires-clause-order
regrouped-requires-clause-order c =
    let scope_is : c.in-Some.scope ≡ c.args.raw.free + c.args.raw.outer = omega (arith, c.in-Some.ensures) in
    let e = order_here _ _ _ _ _ _ c.as_slice-2.ensures c.in_ok-copy_onto.ensures c.in_ok-order.ensures c.as_slice-determined.ensures in
    lent_order c.args.raw c.args.form.now _ _ _ _ c.as_slice-determined.result.now c.in-Some.scope c.in_ok-outers.ensures scope_is c.as_slice-determined.ensures
    c.in_ok-kept.ensures.ascending c.in_ok-kept.ensures.is _ e

pub returns : goal.returns
returns c =
    let scope_is : c.in-Some.scope ≡ c.args.raw.free + c.args.raw.outer = omega (arith, c.in-Some.ensures) in
    let e = order_here _ _ _ _ _ _ c.as_slice.ensures c.in_ok-copy_onto.ensures c.in_ok-order.ensures c.as_slice-determined.ensures in
    let again = order_here _ _ _ _ _ _ c.as_slice-2.ensures c.in_ok-copy_onto.ensures c.in_ok-order.ensures c.as_slice-determined.ensures in
    grouped_lent c.args.raw c.args.form.now _ _ _ _ c.as_slice-determined.result.now c.in-Some.scope c.in_ok-outers.ensures scope_is c.as_slice-determined.ensures
    c.in_ok-kept.ensures.ascending c.in_ok-kept.ensures.is c.requires.over.basic c.requires.solved c.in_ok-mid.mid c.in_ok-idle.idle _ _ _ _ _ _ e again c.len.ensures refl
    c.as_slice-3.ensures c.in_ok-numbers.ensures c.in_ok-mid.ensures c.in_ok-idle.ensures
