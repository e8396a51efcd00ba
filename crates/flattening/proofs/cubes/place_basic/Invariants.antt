use Rattle.std.proofs.Common.{◌≡◌, take, map}
use Rattle.flat_form.specs.Parts.{renumbered}
use Rattle.flattening.specs.Flattening.{placed}
use Rattle.flattening.proofs.cubes.place_basic.Given as goal

abbrev pub invariant-loop-atom : goal.invariant-loop-atom
invariant-loop-atom l = l.made ≡ map (renumbered (placed l.args l.scope)) (take l.atom-index l.basic)
