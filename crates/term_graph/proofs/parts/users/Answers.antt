use Rattle.std.proofs.Common.{◌++◌, ◌∙◌, ap, sym, get_or, None}
use Rattle.std.proofs.lemmas.List.{length-map}
use Rattle.term_graph.specs.Fields.{fields, bindings_of, heads_of, owners_of, mentions_of, chosen}
use Rattle.term_graph.proofs.Forming.{args_within, cell_within}
use Rattle.term_graph.proofs.Using.{users_walked}
use Rattle.term_graph.proofs.Walking.{walk_goes, walk_falls, mention_is}
use Rattle.term_graph.proofs.parts.users.Goals as goal

pub push_user-requires-clause-mention : goal.push_user-requires-clause-mention
push_user-requires-clause-mention c =
    let l = cell_within (fields c.args.parts.now) c.requires.good c.walk.at c.walk.invariant.within in
    λ m e. (c.requires.good.mentioned.right c.walk.at m (sym (mention_is c.args.parts.now.cells.items c.walk.at c.index-cell.result.now l c.index-cell.ensures) ∙ e)).0

pub push_user-requires-clause-args : goal.push_user-requires-clause-args
push_user-requires-clause-args c = args_within (fields c.args.parts.now) c.requires.good

pub walk-smaller : goal.walk-smaller
walk-smaller c =
    walk_falls c.args.parts.now.rings c.head_at-head.result c.requires.good.ringed.inside
    (λ i. chosen (bindings_of c.args.parts.now.slots.items) c.args.parts.now.terms.items c.args.class (get_or (mentions_of c.args.parts.now.cells.items) i None))
    c.walk.at c.next-at-in-walk.result c.walk.users c.walk-test.true c.next-at-in-walk.ensures c.walk.invariant

pub walk-preserved : goal.walk-preserved
walk-preserved c =
    let l = cell_within (fields c.args.parts.now) c.requires.good c.walk.at c.walk.invariant.within in
    walk_goes c.args.parts.now.rings c.head_at-head.result c.requires.good.ringed.inside
    (λ i. chosen (bindings_of c.args.parts.now.slots.items) c.args.parts.now.terms.items c.args.class (get_or (mentions_of c.args.parts.now.cells.items) i None))
    c.walk.at c.next-at-in-walk.result c.walk.users c.push_user.new.users c.walk-test.true c.next-at-in-walk.ensures
    (c.in_ok-push_user.ensures ∙ ap (λ o. c.walk.users ++ chosen (bindings_of c.args.parts.now.slots.items) c.args.parts.now.terms.items c.args.class o) (mention_is c.args.parts.now.cells.items c.walk.at c.index-cell.result.now l c.index-cell.ensures))
    c.walk.invariant

pub returns : goal.returns
returns c =
    let f = fields c.args.parts.now in
    let g = c.requires.good in
    users_walked (bindings_of c.args.parts.now.slots.items) (heads_of c.args.parts.now.slots.items) (owners_of c.args.parts.now.cells.items) c.args.parts.now.rings (mentions_of c.args.parts.now.cells.items) c.args.parts.now.terms.items
    c.requires.good.ringed c.requires.good.mentioned c.args.class (rw length-map c.requires.class_in) c.requires.open c.head_at-head.result c.walk.at c.walk.users c.head_at-head.ensures c.walk-test.false c.walk.invariant
