use Rattle.std.proofs.Common.{◌∙◌, sym, get_or, arith}
use Rattle.term_graph.specs.Fields.{bindings_of}
use Rattle.term_graph.proofs.Forests.{root_is}
use Rattle.term_graph.proofs.Using.{first_found, first_absent, first_later}
use Rattle.term_graph.proofs.parts.first_place.Goals as goal

pub returns-then-root-class : goal.returns-then-root-class
returns-then-root-class c =
    first_found (bindings_of c.args.slots.now.items) c.args.args.now c.args.class c.loop-i.i (omega arith) c.loop-i.invariant
    (sym (root_is (bindings_of c.args.slots.now.items) c.requires.forest (get_or c.args.args.now c.loop-i.i 0) c.root_of-root.result c.root_of-root.ensures.leads) ∙ c.if-root-class.true)

pub loop-i-preserved : goal.loop-i-preserved
loop-i-preserved c =
    first_later (bindings_of c.args.slots.now.items) c.args.args.now c.args.class c.loop-i.i c.loop-i.invariant
    (λ e. c.if-root-class.false (root_is (bindings_of c.args.slots.now.items) c.requires.forest (get_or c.args.args.now c.loop-i.i 0) c.root_of-root.result c.root_of-root.ensures.leads ∙ e))

pub returns : goal.returns
returns c = first_absent (bindings_of c.args.slots.now.items) c.args.args.now c.args.class c.loop-i.i (omega arith) c.loop-i.invariant
