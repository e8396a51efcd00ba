use Rattle.std.proofs.Common.{length, ℕ, ◌<◌, ◌≤◌, ◌≡◌, ◌+◌, subst, arith}
use Rattle.std.proofs.lemmas.List.Elements.{All-contains}
use Rattle.numbering.specs.Listing.{IsListedTo}
use Rattle.numbering.proofs.Listed.{all_listed, lent_again}
use Rattle.numbering.proofs.renumbering.number_all.Goals as goal

pub list_met-requires-clause-listed : goal.list_met-requires-clause-listed
list_met-requires-clause-listed c =
    lent_again c.args.first c.args.count c.args.order.now c.in_ok-numbers.numbers.items c.as_slice.result.now c.as_slice-3.result.now c.args.atoms.now c.in_ok-list.list
    c.as_slice.ensures.value c.as_slice-3.ensures.value c.in_ok-numbers.ensures c.in_ok-list.ensures

pub returns : goal.returns
returns c =
    let first = c.args.first in
    let count = c.args.count in
    let order = c.args.order.now in
    let atoms = c.args.atoms.now in
    let size : length c.as_slice-3.result.now ≡ count = omega (arith, c.as_slice-3.ensures.len, c.in_ok-numbers.ensures.size) in
    all_listed first count order atoms c.requires.ascending c.requires.over c.list_met.new.list
    (λ v i. All-contains (λ (z : ℕ). (first ≤ z) × (z < count)) order v c.requires.within i)
    (subst (λ (z : ℕ). IsListedTo first z order (first + length order) atoms c.list_met.new.list) size c.in_ok-list_met.ensures)
