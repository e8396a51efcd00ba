use Rattle.std.proofs.Common.{◌<◌, length, arith, ◌∙◌, Some}
use Rattle.std.proofs.lemmas.List.{length-set}
use Rattle.reachability.proofs.Placing.{places_more, left_low}
use Rattle.reachability.proofs.places.places_of.Goals as goal

pub loop-i-preserved : goal.loop-i-preserved
loop-i-preserved c =
    let places = c.loop-i.places.items in
    let v = c.variable-v.result in
    let within : v < length places =
    omega (arith, left_low c.args.count c.loop-i.i v c.args.atoms.now c.get.result.now c.requires.over c.get.ensures c.variable-v.ensures, c.loop-i.invariant.size) in
    record {
      size = length-set places v (Some c.loop-i.i) ∙ c.loop-i.invariant.size;
      places = places_more c.loop-i.i c.args.atoms.now places c.get.result.now v within c.get.ensures c.variable-v.ensures c.loop-i.invariant.places;
    }
