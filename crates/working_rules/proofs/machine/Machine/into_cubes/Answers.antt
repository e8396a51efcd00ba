use Rattle.working_rules.proofs.MachineFacts.{some_list_left, cubes_nested, cubes_mean}
use Rattle.working_rules.proofs.machine.Machine.into_cubes.Goals as goal

pub unreachable-requires : goal.unreachable-requires
unreachable-requires c =
    some_list_left c.self.inside.free c.self.inside.turns c.self.inside.arena c.self.inside.store c.args.self c.into_list.result c.self.view_is c.self.invariant
    c.requires c.into_list.ensures c.in-None.is

pub returns-clause-nested : goal.returns-clause-nested
returns-clause-nested c =
    cubes_nested c.self.inside.free c.self.inside.turns c.self.inside.arena c.self.inside.store c.args.self c.into_list.result c.in-Some.list c.self.view_is
    c.self.invariant c.into_list.ensures c.in-Some.is

pub returns-clause-means : goal.returns-clause-means
returns-clause-means c =
    cubes_mean c.self.inside.free c.self.inside.turns c.self.inside.arena c.self.inside.store c.args.self c.into_list.result c.in-Some.list c.self.view_is
    c.self.invariant c.into_list.ensures c.in-Some.is
