use Rattle.std.proofs.Common.{◌<◌, ◌≤◌, length, map, sym, subst}
use Rattle.std.proofs.lemmas.List.{length-map}
use Rattle.std.specs.List.{AllByRecursion}
use Rattle.term_graph.specs.Classes.{class_at}
use Rattle.term_graph.specs.Contents.{root}
use Rattle.term_graph.specs.Fields.{fields, bindings_of, heads_of}
use Rattle.term_graph.proofs.Interning.{AreIn}
use Rattle.term_graph.proofs.Making.{roots_in, room_in, roots_are, all_within}
use Rattle.term_graph.proofs.parts.share.Goals as goal

pub intern-requires-clause-heads : goal.intern-requires-clause-heads
intern-requires-clause-heads c =
    let slots = c.args.parts.now.slots.items in
    subst (AreIn (length c.args.parts.now.slots.items) (heads_of c.args.parts.now.slots.items) (length c.args.parts.now.rings)) (sym c.in_ok-key.ensures.1)
    (roots_in (fields c.args.parts.now) c.requires.good (map (root (bindings_of c.args.parts.now.slots.items)) c.args.args.now)
    (roots_are (bindings_of c.args.parts.now.slots.items) c.requires.good.ringed.forest c.args.args.now (all_within (length c.args.parts.now.slots.items) (length (bindings_of c.args.parts.now.slots.items)) c.args.args.now (sym (length-map c.args.parts.now.slots.items (λ s. s.binding))) c.requires.within)))

pub intern-requires-clause-classes : goal.intern-requires-clause-classes
intern-requires-clause-classes c =
    subst (AllByRecursion (λ a. (a < length c.args.parts.now.classes.items) × ((class_at c.args.parts.now.classes.items a).weight ≤ length c.args.parts.now.rings))) (sym c.in_ok-key.ensures.1)
    (room_in (fields c.args.parts.now) c.requires.good (map (root (bindings_of c.args.parts.now.slots.items)) c.args.args.now)
    (roots_are (bindings_of c.args.parts.now.slots.items) c.requires.good.ringed.forest c.args.args.now (all_within (length c.args.parts.now.slots.items) (length (bindings_of c.args.parts.now.slots.items)) c.args.args.now (sym (length-map c.args.parts.now.slots.items (λ s. s.binding))) c.requires.within)))
