use Rattle.std.proofs.Common.{length, ◌≡◌, arith}
use Rattle.node_facts.specs.Branches.{size}
use Rattle.working_rules.proofs.Slots.{tree_long}
use Rattle.working_rules.proofs.arena.Arena.len.Goals as goal

pub returns : goal.returns
returns c =
    let long : length c.self.inside.slots.items ≡ size c.args.self.now = tree_long c.self.inside.slots.items c.args.self.now c.self.view_is c.self.invariant in
    omega (arith, long)
