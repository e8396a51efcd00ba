use Rattle.std.proofs.Common.{ℕ, ◌≡◌, ◌+◌, ◌<◌, ◌≤◌, List, [], ◌++◌, map, length, sym, ap, ◌∙◌, subst, arith}
use Rattle.std.specs.Prelude.{All}
use Rattle.lists.specs.Distinct.{IsDistinct}
use Rattle.flat_form.specs.declared.cube.Part.{Part}
use Rattle.flat_form.specs.Numbering.{BasicOver, PartOver}
use Rattle.flat_form.specs.Orders.{new_number, renumbered_part}
use Rattle.flat_form.specs.Solved.{Ascends}
use Rattle.flat_form.specs.Steps.{Settles, Finishes, IsCleared}
use Rattle.numbering.specs.Inner.{IsReached}
use Rattle.cube_reduction.proofs.IsOrdered.{all_distinct, all_within, basic_over, basic_solved}
use Rattle.cube_reduction.proofs.IsCleared.{parts_over, settled_parts, second_ascends, second_over, second_reached, is_cleared}
use Rattle.cube_reduction.proofs.clearing.cleared.Goals as goal

pub renumbered-requires-clause-distinct : goal.renumbered-requires-clause-distinct
renumbered-requires-clause-distinct c =
    let g = c.requires.grouped in
    subst (λ (z : List ℕ). IsDistinct (z ++ c.args.idle.now)) (sym c.as_slice.ensures)
    (all_distinct g.0 c.args.mid.now c.args.idle.now g.1 g.2 c.args.ordered.order c.args.ordered.basic c.requires.ordered)

pub renumbered-requires-clause-within : goal.renumbered-requires-clause-within
renumbered-requires-clause-within c =
    let mid = c.args.mid.now in
    let g = c.requires.grouped in
    subst (λ (z : List ℕ). All (λ v. (mid.free ≤ v) × (v < c.args.scope)) (z ++ c.args.idle.now)) (sym c.as_slice.ensures)
    (subst (λ (z : ℕ). All (λ v. (mid.free ≤ v) × (v < z)) (c.args.ordered.order ++ c.args.idle.now)) (sym c.requires.scope)
    (all_within g.0 mid c.args.idle.now g.1 g.2 c.args.ordered.order c.args.ordered.basic c.requires.ordered))

pub all_settled-requires-clause-direct : goal.all_settled-requires-clause-direct
all_settled-requires-clause-direct c =
    let g = c.requires.grouped in
    (basic_solved g.0 c.args.mid.now c.args.idle.now g.1 g.2 c.args.ordered.order c.args.ordered.basic c.requires.ordered).direct

pub all_settled-requires-clause-base : goal.all_settled-requires-clause-base
all_settled-requires-clause-base c =
    let mid = c.args.mid.now in
    let idle = c.args.idle.now in
    let g = c.requires.grouped in
    let order = c.args.ordered.order in
    let basic = c.args.ordered.basic in
    let count : c.in-Some.count ≡ mid.free + length order = omega (arith, c.in-Some.ensures.1, c.len.ensures) in
    subst (λ (z : ℕ). BasicOver z basic) (sym count) (basic_over g.0 mid idle g.1 g.2 order basic c.requires.ordered)

pub all_settled-requires-clause-parts : goal.all_settled-requires-clause-parts
all_settled-requires-clause-parts c =
    let mid = c.args.mid.now in
    let idle = c.args.idle.now in
    let first = c.args.first.now in
    let g = c.requires.grouped in
    let order = c.args.ordered.order in
    let basic = c.args.ordered.basic in
    let busy = c.in_ok-busy.busy in
    let count : c.in-Some.count ≡ mid.free + length order = omega (arith, c.in-Some.ensures.1, c.len.ensures) in
    let moved : c.as_slice-2.result.now ≡ map (renumbered_part (new_number mid.free (mid.free + mid.outer) (order ++ idle)) (length idle)) busy =
    c.as_slice-2.ensures ∙ c.in_ok-moved.ensures
    ∙ ap (λ (z : List ℕ). map (renumbered_part (new_number mid.free c.args.scope (z ++ idle)) (length idle)) busy) c.as_slice.ensures
    ∙ ap (λ (z : ℕ). map (renumbered_part (new_number mid.free z (order ++ idle)) (length idle)) busy) c.requires.scope in
    parts_over g.0 mid idle g.1 g.2 first c.requires.settled order basic c.requires.ordered busy c.in_ok-busy.ensures c.in-Some.count c.as_slice-2.result.now count moved

pub finish-requires-clause-ascend : goal.finish-requires-clause-ascend
finish-requires-clause-ascend c =
    let mid = c.args.mid.now in
    let idle = c.args.idle.now in
    let first = c.args.first.now in
    let g = c.requires.grouped in
    let order = c.args.ordered.order in
    let basic = c.args.ordered.basic in
    let busy = c.in_ok-busy.busy in
    let count : c.in-Some.count ≡ mid.free + length order = omega (arith, c.in-Some.ensures.1, c.len.ensures) in
    let moved : c.as_slice-2.result.now ≡ map (renumbered_part (new_number mid.free (mid.free + mid.outer) (order ++ idle)) (length idle)) busy =
    c.as_slice-2.ensures ∙ c.in_ok-moved.ensures
    ∙ ap (λ (z : List ℕ). map (renumbered_part (new_number mid.free c.args.scope (z ++ idle)) (length idle)) busy) c.as_slice.ensures
    ∙ ap (λ (z : ℕ). map (renumbered_part (new_number mid.free z (order ++ idle)) (length idle)) busy) c.requires.scope in
    let second : Settles (mid.free + length order) basic (map (renumbered_part (new_number mid.free (mid.free + mid.outer) (order ++ idle)) (length idle)) busy) c.in_ok-second.second =
    settled_parts g.0 mid idle g.1 g.2 first c.requires.settled order basic c.requires.ordered busy c.in_ok-busy.ensures c.in-Some.count c.as_slice-2.result.now
    c.in_ok-second.second count moved c.in_ok-second.ensures in
    subst (λ (z : List Part). All (λ (part : Part). Ascends part.basic) z) (sym c.as_slice-3.ensures)
    (second_ascends g.0 mid idle g.1 g.2 first c.requires.settled order basic c.requires.ordered busy c.in_ok-busy.ensures c.in_ok-second.second second)

pub finish-requires-clause-over : goal.finish-requires-clause-over
finish-requires-clause-over c =
    let mid = c.args.mid.now in
    let idle = c.args.idle.now in
    let first = c.args.first.now in
    let g = c.requires.grouped in
    let order = c.args.ordered.order in
    let basic = c.args.ordered.basic in
    let busy = c.in_ok-busy.busy in
    let count : c.in-Some.count ≡ mid.free + length order = omega (arith, c.in-Some.ensures.1, c.len.ensures) in
    let moved : c.as_slice-2.result.now ≡ map (renumbered_part (new_number mid.free (mid.free + mid.outer) (order ++ idle)) (length idle)) busy =
    c.as_slice-2.ensures ∙ c.in_ok-moved.ensures
    ∙ ap (λ (z : List ℕ). map (renumbered_part (new_number mid.free c.args.scope (z ++ idle)) (length idle)) busy) c.as_slice.ensures
    ∙ ap (λ (z : ℕ). map (renumbered_part (new_number mid.free z (order ++ idle)) (length idle)) busy) c.requires.scope in
    let second : Settles (mid.free + length order) basic (map (renumbered_part (new_number mid.free (mid.free + mid.outer) (order ++ idle)) (length idle)) busy) c.in_ok-second.second =
    settled_parts g.0 mid idle g.1 g.2 first c.requires.settled order basic c.requires.ordered busy c.in_ok-busy.ensures c.in-Some.count c.as_slice-2.result.now
    c.in_ok-second.second count moved c.in_ok-second.ensures in
    subst (λ (z : List Part). All (PartOver c.in-Some.count) z) (sym c.as_slice-3.ensures)
    (subst (λ (z : ℕ). All (PartOver z) c.in_ok-second.second) (sym count)
    (second_over g.0 mid idle g.1 g.2 first c.requires.settled order basic c.requires.ordered busy c.in_ok-busy.ensures c.in_ok-second.second second))

pub returns : goal.returns
returns c =
    let mid = c.args.mid.now in
    let idle = c.args.idle.now in
    let first = c.args.first.now in
    let g = c.requires.grouped in
    let order = c.args.ordered.order in
    let basic = c.args.ordered.basic in
    let busy = c.in_ok-busy.busy in
    let count : c.in-Some.count ≡ mid.free + length order = omega (arith, c.in-Some.ensures.1, c.len.ensures) in
    let moved : c.as_slice-2.result.now ≡ map (renumbered_part (new_number mid.free (mid.free + mid.outer) (order ++ idle)) (length idle)) busy =
    c.as_slice-2.ensures ∙ c.in_ok-moved.ensures
    ∙ ap (λ (z : List ℕ). map (renumbered_part (new_number mid.free c.args.scope (z ++ idle)) (length idle)) busy) c.as_slice.ensures
    ∙ ap (λ (z : ℕ). map (renumbered_part (new_number mid.free z (order ++ idle)) (length idle)) busy) c.requires.scope in
    let second : Settles (mid.free + length order) basic (map (renumbered_part (new_number mid.free (mid.free + mid.outer) (order ++ idle)) (length idle)) busy) c.in_ok-second.second =
    settled_parts g.0 mid idle g.1 g.2 first c.requires.settled order basic c.requires.ordered busy c.in_ok-busy.ensures c.in-Some.count c.as_slice-2.result.now
    c.in_ok-second.second count moved c.in_ok-second.ensures in
    let reached : All (λ (part : Part). IsReached (mid.free + length order) part.basic) c.in_ok-second.second =
    second_reached g.0 mid idle g.1 g.2 first c.requires.settled order basic c.requires.ordered busy c.in_ok-busy.ensures c.in_ok-second.second second in
    let finishes : All (λ (part : Part). IsReached c.in-Some.count part.basic) c.in_ok-second.second → Finishes c.in-Some.count [] c.in_ok-second.second c.in_ok-parts.parts =
    subst (λ (z : List Part). All (λ (part : Part). IsReached c.in-Some.count part.basic) z → Finishes c.in-Some.count [] z c.in_ok-parts.parts) c.as_slice-3.ensures c.in_ok-parts.ensures in
    let done : Finishes (mid.free + length order) [] c.in_ok-second.second c.in_ok-parts.parts =
    subst (λ (z : ℕ). All (λ (part : Part). IsReached z part.basic) c.in_ok-second.second → Finishes z [] c.in_ok-second.second c.in_ok-parts.parts) count finishes reached in
    subst (λ (z : ℕ). IsCleared mid idle first (record { free = mid.free; outer = z; basic = basic; parts = c.in_ok-parts.parts })) (sym c.len-2.ensures)
    (is_cleared g.0 mid idle g.1 g.2 first c.requires.settled order basic c.requires.ordered busy c.in_ok-busy.ensures c.in_ok-second.second second c.in_ok-parts.parts done)
