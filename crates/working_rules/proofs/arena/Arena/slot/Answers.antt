use Rattle.std.proofs.Common.{length, ◌≡◌, arith}
use Rattle.node_facts.specs.Branches.{size}
use Rattle.working_rules.proofs.Slots.{tree_long, tree_slot}
use Rattle.working_rules.proofs.arena.Arena.slot.Goals as goal

pub index-requires : goal.index-requires
index-requires c =
    let long : length c.self.inside.slots.items ≡ size c.args.self.now = tree_long c.self.inside.slots.items c.args.self.now c.self.view_is c.self.invariant in
    omega (arith, long)

pub returns : goal.returns
returns c = tree_slot c.self.inside.slots.items c.args.self.now c.args.i c.index.result.now c.self.view_is c.self.invariant c.requires c.index.ensures
