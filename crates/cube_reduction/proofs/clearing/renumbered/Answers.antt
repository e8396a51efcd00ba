use Rattle.std.proofs.Common.{ℕ, ◌≡◌, List, ◌++◌, map, length, ap, ◌∙◌}
use Rattle.std.proofs.lemmas.Result.{IfOk-weaker}
use Rattle.flat_form.specs.declared.cube.Part.{Part}
use Rattle.flat_form.specs.Orders.{new_number, renumbered_part}
use Rattle.cube_reduction.specs.Numbers.{number_in, moved_into}
use Rattle.cube_reduction.proofs.RenumberedParts.{nothing_before}
use Rattle.cube_reduction.proofs.clearing.renumbered.Goals as goal

pub returns : goal.returns
returns c =
    let order = c.args.order.now in
    let idle = c.args.idle.now in
    let parts = c.args.parts in
    let numbers = c.in_ok-numbers.numbers in
    let all : c.as_slice.result.now ≡ order ++ idle =
    c.as_slice.ensures ∙ c.in_ok-copy_onto-2.ensures ∙ ap (λ (z : List ℕ). z ++ idle) (c.in_ok-copy_onto.ensures ∙ ap (λ (z : List ℕ). z ++ order) c.new-all.ensures) in
    let same : number_in numbers.table.items numbers.behind ≡ new_number c.args.free c.args.scope (order ++ idle) =
    c.in_ok-numbers.ensures ∙ ap (λ (z : List ℕ). new_number c.args.free c.args.scope z) all in
    IfOk-weaker c.of_parts-2.result
    (λ (new : List Part). new ≡ map (moved_into (number_in numbers.table.items numbers.behind) (length idle) c.new-2.result) parts)
    (λ (new : List Part). new ≡ map (renumbered_part (new_number c.args.free c.args.scope (order ++ idle)) (length idle)) parts)
    (λ new e. e ∙ nothing_before (number_in numbers.table.items numbers.behind) (new_number c.args.free c.args.scope (order ++ idle)) (length idle) c.new-2.result parts c.new-2.ensures same)
    c.of_parts-2.ensures
