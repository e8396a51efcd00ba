use Rattle.std.specs.Prelude.{◌⊎◌, Contains}
use Rattle.std.proofs.Common.{ℕ, ◌≡◌, ◌+◌, ◌<◌, refl, subst, arith}
use Rattle.flat_form.specs.Orders.{new_number, IsRenumbering}
use Rattle.flat_form.specs.Solved.{variable_of}
use Rattle.cube_reduction.proofs.Regrouped.{order_within, regrouped_lent}
use Rattle.cube_reduction.proofs.grouping.regrouped.Goals as goal

pub number_all-requires-clause-within : goal.number_all-requires-clause-within
number_all-requires-clause-within c =
    order_within c.args.order.now c.args.raw.free c.args.raw.outer c.in-Some.scope c.requires.order (omega (arith, c.in-Some.ensures))

pub returns : goal.returns
returns c =
    let raw = c.args.raw in
    let order = c.args.order.now in
    let form = c.args.form.now in
    let scope_is : c.in-Some.scope ≡ raw.free + raw.outer = omega (arith, c.in-Some.ensures) in
    let is = subst (λ (z : ℕ). IsRenumbering (new_number raw.free z order) (λ atom. (variable_of atom < raw.free) ⊎ Contains order (variable_of atom)) form c.in_ok-all.all) scope_is c.in_ok-all.ensures in
    regrouped_lent raw form order c.args.kept c.args.more c.requires.over c.requires.order c.in_ok-all.all is c.in-Some-checked_add.m _ _ c.in_ok-basic.basic c.in_ok-moved.moved _
    c.in_ok-parts.parts _ (omega (arith, c.in-Some-checked_add.ensures)) c.as_slice.ensures c.as_slice-2.ensures refl c.requires.numbers c.in_ok-basic.ensures
    c.in_ok-moved.ensures c.in_ok-parts.ensures
