use Rattle.std.proofs.Common.{ℕ, length, slice_index, subst, arith, ◌≡◌}
use Rattle.numbering.specs.Listing.{IsListedTo}
use Rattle.numbering.proofs.Numbers.{number_first}
use Rattle.numbering.proofs.Listed.{list_more}
use Rattle.numbering.proofs.renumbering.list_first.Goals as goal

pub loop-u-preserved : goal.loop-u-preserved
loop-u-preserved c = λ order are.
    let first = c.args.first in
    let numbers = c.args.numbers.now in
    let u = c.loop-u.u in
    list_more first (length numbers) order c.args.atoms.now c.requires.ascending c.requires.over (λ (v : ℕ). slice_index numbers v) u u are.each (c.loop-u.invariant order are)
    (number_first first (length numbers) order u (omega arith)) (omega arith) c.in_ok-list_at.ensures

pub returns : goal.returns
returns c = λ order are.
    let end : c.loop-u.u ≡ c.args.first = omega arith in
    subst (λ (z : ℕ). IsListedTo c.args.first (length c.args.numbers.now) order z c.args.atoms.now c.loop-u.list) end (c.loop-u.invariant order are)
