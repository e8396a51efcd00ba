use Rattle.std.proofs.Common.{length, ◌≡◌, arith}
use Rattle.node_facts.specs.Branches.{size}
use Rattle.working_rules.proofs.Listing.{put_root, put_tree}
use Rattle.working_rules.proofs.Slots.{tree_long}
use Rattle.working_rules.proofs.arena.Arena.put_list.Goals as goal

pub index_mut-requires : goal.index_mut-requires
index_mut-requires c =
    let long : length c.self.inside.slots.items ≡ size c.args.self.now = tree_long c.self.inside.slots.items c.args.self.now c.self.view_is c.self.invariant in
    omega (arith, long)

pub invariant_of-self : goal.invariant_of-self
invariant_of-self c =
    put_tree c.args.list c.args.i c.self.inside.slots.items c.args.self.now c.index_mut.result.now c.self.view_is c.self.invariant c.requires
    c.index_mut.ensures.value

pub returns : goal.returns
returns c =
    put_root c.args.list c.args.i c.self.inside.slots.items c.args.self.now c.index_mut.result.now c.self.view_is c.self.invariant c.requires
    c.index_mut.ensures.value
