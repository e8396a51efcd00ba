use Rattle.std.proofs.Common.{◌≡◌, ◌-◌, ◌<◌, ◌≤◌, length, get_or, sym, arith, rules, append_assoc}
use Rattle.std.proofs.lemmas.Result.{IfOk-equal}
use Rattle.formula_printer.proofs.Assigned.{root_place, node_text, root_text, got_below}
use Rattle.formula_printer.proofs.assignment.write_equation.Goals as goal

pub get-requires : goal.get-requires
get-requires c =
    let beyond : length c.nodes-nodes.result.now ≤ c.args.i = omega arith in
    let past : length c.args.a.now.nodes ≤ c.args.i = rw c.nodes-nodes.ensures.nodes at beyond in
    rw (c.roots.ensures.roots, c.nodes-nodes.ensures.nodes) (root_place c.args.a.now c.args.i past c.requires.place)

pub write_variable-requires-else-i-nodes : goal.write_variable-requires-else-i-nodes
write_variable-requires-else-i-nodes c =
    let beyond : length c.nodes-nodes.result.now ≤ c.args.i = omega arith in
    let past : length c.args.a.now.nodes ≤ c.args.i = rw c.nodes-nodes.ensures.nodes at beyond in
    got_below (length c.args.names.now) c.args.a.now.roots (c.args.i - length c.args.a.now.nodes) c.get.result.now (root_place c.args.a.now c.args.i past c.requires.place) c.requires.roots
    (rw (c.roots.ensures.roots, c.nodes-nodes.ensures.nodes) at c.get.ensures)

pub returns-then-i-nodes : goal.returns-then-i-nodes
returns-then-i-nodes c =
    let same : get_or c.args.a.now.nodes c.args.i c.index-nodes-i.result ≡ c.index-nodes-i.result = rw c.nodes-nodes.ensures.nodes at (sym c.index-nodes-i.is) in
    let within : c.args.i < length c.args.a.now.nodes = rw c.nodes-nodes.ensures.nodes at c.if-i-nodes.true in
    rw (node_text c.args.sig.now c.args.names.now c.args.a.now c.args.i c.index-nodes-i.result within same) (search (rules, IfOk-equal, append_assoc))

pub returns-else-i-nodes : goal.returns-else-i-nodes
returns-else-i-nodes c =
    let beyond : length c.nodes-nodes.result.now ≤ c.args.i = omega arith in
    let past : length c.args.a.now.nodes ≤ c.args.i = rw c.nodes-nodes.ensures.nodes at beyond in
    rw (root_text c.args.sig.now c.args.names.now c.args.a.now c.args.i c.get.result.now past c.requires.place (rw (c.roots.ensures.roots, c.nodes-nodes.ensures.nodes) at c.get.ensures))
    (search (rules, IfOk-equal, append_assoc))
