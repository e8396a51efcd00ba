use Rattle.std.proofs.Common.{refl, arith}
use Rattle.working_rules.proofs.Planted.{plants_first, plants_more, plants_all, planted}
use Rattle.working_rules.proofs.planting.+plant.Goals as goal

pub plant-returns : goal.plant-returns
plant-returns t c =
    planted c.args.n.now c.args.slots.now.items c.push.new.self.items c.plant_parts.new.slots.items _ c.index_mut.result.now c.len-2.result c.len-at.result
    (omega (arith, c.len-at.ensures)) refl c.in_ok-copy.ensures c.len.ensures refl c.in_ok-push.ensures.items c.in_ok-plant_parts.ensures
    c.index_mut.ensures.value (omega (arith, c.len-2.ensures))

pub plant_parts-loop-i-init : goal.plant_parts-loop-i-init
plant_parts-loop-i-init t c = plants_first c.args.slots.now.items c.args.parts.now

pub plant_parts-loop-i-preserved : goal.plant_parts-loop-i-preserved
plant_parts-loop-i-preserved t c =
    plants_more c.args.slots.now.items c.args.parts.now c.loop-i.slots.items c.plant.new.slots.items c.loop-i.i c.get.result.now c.get.ensures
    c.in_ok-plant.ensures c.loop-i.invariant

pub plant_parts-returns : goal.plant_parts-returns
plant_parts-returns t c =
    plants_all c.args.slots.now.items c.args.parts.now c.loop-i.slots.items c.loop-i.i (omega (arith, c.len-i-end.ensures, c.loop-i-test.false))
    c.loop-i.invariant
