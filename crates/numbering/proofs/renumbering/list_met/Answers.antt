use Rattle.std.proofs.Common.{ℕ, ◌<◌, ◌≤◌, ◌≡◌, ◌+◌, length, slice_index, subst, arith}
use Rattle.numbering.specs.Listing.{IsListedTo}
use Rattle.flat_form.specs.Orders.{new_number}
use Rattle.numbering.proofs.Numbers.{number_of_item}
use Rattle.numbering.proofs.Listed.{list_more}
use Rattle.numbering.proofs.renumbering.list_met.Goals as goal

pub loop-i-preserved : goal.loop-i-preserved
loop-i-preserved c =
    let first = c.args.first in
    let order = c.args.order.now in
    let numbers = c.args.numbers.now in
    let count = length numbers in
    let i = c.loop-i.i in
    let u = slice_index order i in
    let w : i < length order = omega arith in
    let range : (first ≤ slice_index order i) × (slice_index order i < count) = c.requires.within i 0 w in
    let number : new_number first count order (slice_index order i) ≡ first + i = number_of_item first count order i c.requires.distinct w range.0 range.1 in
    let same : first + i + 1 ≡ first + (i + 1) = omega arith in
    subst (λ (z : ℕ). IsListedTo first count order z c.args.atoms.now c.list_at.new.list) same
    (list_more first count order c.args.atoms.now c.requires.ascending c.requires.over (λ (v : ℕ). slice_index numbers v) (first + i) u c.requires.numbers.each c.loop-i.invariant
    number (omega arith) c.in_ok-list_at.ensures)
