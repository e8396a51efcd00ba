use Rattle.working_rules.proofs.Slots.{planted_tree, planted_root}
use Rattle.working_rules.proofs.arena.Arena.plant.Goals as goal

pub invariant_of-result : goal.invariant_of-result
invariant_of-result c = planted_tree c.new-slots.result.items c.plant.new.slots.items _ c.new-slots.ensures.items c.in_ok-plant.ensures

pub returns : goal.returns
returns c = planted_root c.new-slots.result.items c.plant.new.slots.items _ c.new-slots.ensures.items c.in_ok-plant.ensures
