use Rattle.working_rules.proofs.Planted.{Plants}
use Rattle.working_rules.proofs.planting.+plant.Given as goal

abbrev pub invariant-plant_parts-loop-i : goal.invariant-plant_parts-loop-i
invariant-plant_parts-loop-i l = Plants l.fn.slots.items l.parts l.slots.items l.i
