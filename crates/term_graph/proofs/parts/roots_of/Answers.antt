use Rattle.std.proofs.Common.{arith, get_or}
use Rattle.term_graph.specs.Fields.{bindings_of}
use Rattle.term_graph.proofs.Forests.{root_is}
use Rattle.term_graph.proofs.Interning.{roots_step}
use Rattle.term_graph.proofs.parts.roots_of.Goals as goal

pub loop-i-preserved : goal.loop-i-preserved
loop-i-preserved c =
    roots_step (bindings_of c.args.slots.now.items) c.args.args.now c.loop-i.i (omega arith) c.loop-i.keys.items c.push.new.self.items c.root_of-root.result c.loop-i.invariant c.in_ok-push.ensures.ok
    (root_is (bindings_of c.args.slots.now.items) c.requires.forest (get_or c.args.args.now c.loop-i.i 0) c.root_of-root.result c.root_of-root.ensures.leads)
