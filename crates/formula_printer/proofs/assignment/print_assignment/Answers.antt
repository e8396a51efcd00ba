use Rattle.std.proofs.Common.{◌≡◌, ◌<◌, ◌≤◌, length, take, sym, ◌∙◌, arith}
use Rattle.std.specs.Prelude.{codes, string_bytes}
use Rattle.std.specs.List.{join_by}
use Rattle.formula_printer.specs.Assignments.{assignment_names, equations_of}
use Rattle.formula_printer.specs.Texts.{names_text, text_of}
use Rattle.formula_printer.specs.Writing.{written}
use Rattle.formula_printer.proofs.Assigned.{below_more, node_words, equations_count, assignment_text}
use Rattle.formula_printer.proofs.Closing.{all_count, some_nodes, written_out, assignment_reads}
use Rattle.formula_printer.proofs.assignment.print_assignment.Goals as goal

pub write_names-requires : goal.write_names-requires
write_names-requires c =
    let all_is : c.in_ok-all.all ≡ assignment_names c.args.names.now c.args.a.now = rw c.nodes-nodes.ensures.nodes at c.in_ok-all.ensures in
    rw (all_is, c.nodes-nodes.ensures.nodes) (omega (arith, all_count c.args.names.now c.args.a.now))

pub write_equations-requires-clause-all : goal.write_equations-requires-clause-all
write_equations-requires-clause-all c =
    let all_is : c.in_ok-all.all ≡ assignment_names c.args.names.now c.args.a.now = rw c.nodes-nodes.ensures.nodes at c.in_ok-all.ensures in
    rw all_is (omega (arith, c.requires.roots, equations_count c.args.a.now, all_count c.args.names.now c.args.a.now))

pub write_equations-requires-clause-nodes : goal.write_equations-requires-clause-nodes
write_equations-requires-clause-nodes c =
    let all_is : c.in_ok-all.all ≡ assignment_names c.args.names.now c.args.a.now = rw c.nodes-nodes.ensures.nodes at c.in_ok-all.ensures in
    let few : length c.args.a.now.nodes ≤ length (assignment_names c.args.names.now c.args.a.now) = omega (arith, all_count c.args.names.now c.args.a.now) in
    rw all_is
    (node_words c.args.sig.now (length (assignment_names c.args.names.now c.args.a.now)) c.args.a.now.nodes few c.requires.fits c.nodes-nodes.ensures.in_range.children)

pub write_equations-requires-clause-roots : goal.write_equations-requires-clause-roots
write_equations-requires-clause-roots c =
    let all_is : c.in_ok-all.all ≡ assignment_names c.args.names.now c.args.a.now = rw c.nodes-nodes.ensures.nodes at c.in_ok-all.ensures in
    let few : length c.args.a.now.nodes ≤ length (assignment_names c.args.names.now c.args.a.now) = omega (arith, all_count c.args.names.now c.args.a.now) in
    rw all_is
    (below_more (length c.args.a.now.nodes) (length (assignment_names c.args.names.now c.args.a.now)) c.args.a.now.roots few c.nodes-nodes.ensures.in_range.roots_within)

pub returns-clause-text : goal.returns-clause-text
returns-clause-text c =
    let all_is : c.in_ok-all.all ≡ assignment_names c.args.names.now c.args.a.now = rw c.nodes-nodes.ensures.nodes at c.in_ok-all.ensures in
    let rooted : 0 < length c.args.a.now.roots = omega (arith, c.requires.roots, c.requires.some) in
    let some : 0 < length c.args.a.now.nodes = some_nodes c.args.a.now c.nodes-nodes.ensures.in_range rooted in
    let few : length c.args.a.now.nodes ≤ length (assignment_names c.args.names.now c.args.a.now) = omega (arith, all_count c.args.names.now c.args.a.now) in
    let whole =
    written_out (codes "exists") (names_text (take (length c.nodes-nodes.result.now) c.in_ok-all.all)) (codes ": (")
    (join_by (λ f. text_of (written c.args.sig.now c.in_ok-all.all f)) (codes " & ") (equations_of c.args.a.now)) (codes ")")
    c.new-text.ensures.bytes c.in_ok-write_text.ensures c.in_ok-write_names.ensures c.in_ok-write_text-2.ensures c.in_ok-write_equations.ensures
    c.in_ok-write_text-3.ensures in
    rw (all_is, c.nodes-nodes.ensures.nodes) at whole
    ∙ sym (assignment_text c.args.sig.now (assignment_names c.args.names.now c.args.a.now) c.args.a.now some rooted few)

pub returns-clause-reads : goal.returns-clause-reads
returns-clause-reads c =
    assignment_reads c.args.sig.now c.args.names.now (string_bytes c.write_text-3.new.out) c.args.a.now c.requires.names c.len.ensures.distinct c.requires.roots c.requires.fits
    c.nodes-nodes.ensures.in_range (returns-clause-text c)
