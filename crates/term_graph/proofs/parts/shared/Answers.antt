use Rattle.std.proofs.Common.{length, map, sym, subst}
use Rattle.std.proofs.lemmas.List.{length-map}
use Rattle.term_graph.specs.Contents.{root, IsLeader}
use Rattle.term_graph.specs.Fields.{bindings_of}
use Rattle.term_graph.proofs.Making.{roots_are, all_within, key_found}
use Rattle.term_graph.proofs.parts.shared.Goals as goal

pub returns : goal.returns
returns c =
    let p = c.args.parts.now in
    let g = c.requires.good in
    subst (IsLeader (bindings_of c.args.parts.now.slots.items) c.args.parts.now.terms.items c.args.symbol (map (root (bindings_of c.args.parts.now.slots.items)) c.args.args.now))
    (key_found c.args.parts.now.table.entries c.args.symbol (map (root (bindings_of c.args.parts.now.slots.items)) c.args.args.now) c.in_ok-key.key c.find_key-found.result c.in_ok-key.ensures.0 c.in_ok-key.ensures.1 c.find_key-found.ensures)
    (g.shared.leaders c.args.symbol (map (root (bindings_of c.args.parts.now.slots.items)) c.args.args.now)
    (roots_are (bindings_of c.args.parts.now.slots.items) g.ringed.forest c.args.args.now (all_within (length c.args.parts.now.slots.items) (length (bindings_of c.args.parts.now.slots.items)) c.args.args.now (sym (length-map c.args.parts.now.slots.items (λ s. s.binding))) c.requires.within)))
