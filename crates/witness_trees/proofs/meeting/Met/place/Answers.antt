use Rattle.std.proofs.Common.{◌<◌, length, ap, sym, ◌∙◌, arith}
use Rattle.witness_trees.specs.Meeting.{Meeting}
use Rattle.witness_trees.proofs.Entering.{found}
use Rattle.witness_trees.proofs.Occurring.{any_default}
use Rattle.witness_trees.proofs.meeting.Met.place.Goals as goal

pub returns-then-index-v : goal.returns-then-index-v
returns-then-index-v c =
    let order = c.self.inside.order.items in
    let places = c.self.inside.places.items in
    let place = c.index-place.result.now in
    let within : c.args.v < length places = omega (arith, c.requires.within, ap (λ (m : Meeting). m.count) c.self.view_is) in
    let low : place < length order = omega (arith, c.if-place-len.false, c.len.ensures) in
    rw (← c.self.view_is) (found order places c.args.v c.self.invariant place (c.index-place.ensures ∙ any_default places c.args.v place 0 within) low
    (any_default order place 0 c.index.result.now low ∙ sym c.index.ensures ∙ c.if-index-v.true))
