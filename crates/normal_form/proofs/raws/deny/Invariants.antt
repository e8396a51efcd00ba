use Rattle.std.proofs.Common.{◌≡◌, ◌∷◌, map, take}
use Rattle.cube_facts.proofs.Raws.{beside, basic_fails}
use Rattle.normal_form.proofs.raws.deny.Given as goal

abbrev pub invariant-loop-part : goal.invariant-loop-part
invariant-loop-part l = l.raws ≡ basic_fails l.cube ∷ map (beside l.cube) (take l.part-index l.cube.parts)
