use Rattle.std.proofs.Common.{ℕ, slice_index}
use Rattle.std.proofs.lemmas.Result.{on_ok_weaker}
use Rattle.numbering.specs.Listing.{without}
use Rattle.numbering.proofs.Listed.{listed_at}
use Rattle.numbering.proofs.renumbering.list_at.Goals as goal

pub returns-in_ok-item-in-Some : goal.returns-in_ok-item-in-Some
returns-in_ok-item-in-Some c =
    on_ok_weaker c.push.result
    (λ e. listed_at (λ (v : ℕ). slice_index c.args.numbers.now v) c.args.atoms.now c.args.u c.args.list.now c.push.new.self c.in-Some.atom.now c.in_ok-item-in-Some.item c.in-Some.ensures
    c.in_ok-item-in-Some.ensures e) c.push.ensures.ok

pub returns-in-None : goal.returns-in-None
returns-in-None c = without c.in-None.ensures
