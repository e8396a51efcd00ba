use Rattle.flat_form.specs.Normals.{norm_of}
use Rattle.working_rules.proofs.MachineFacts.{machine_new, unturned_means}
use Rattle.working_rules.proofs.machine.Machine.new.Goals as goal

pub invariant_of-result : goal.invariant_of-result
invariant_of-result c =
    machine_new c.args.free (norm_of c.args.n.now) c.in_ok-arena.arena c.in_ok-store.store c.in_ok-arena.ensures c.requires.over c.requires.parts c.in_ok-store.ensures

pub returns-clause-means : goal.returns-clause-means
returns-clause-means c = unturned_means c.args.free (norm_of c.args.n.now) c.in_ok-arena.arena c.in_ok-arena.ensures
