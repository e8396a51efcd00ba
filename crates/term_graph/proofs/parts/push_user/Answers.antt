use Rattle.std.proofs.Common.{◌<◌, ◌∙◌, ap, sym, subst, length, nat_eq}
use Rattle.std.specs.Prelude.{All}
use Rattle.std.specs.List.{position_or_len}
use Rattle.term_graph.specs.Contents.{root}
use Rattle.term_graph.specs.Fields.{bindings_of}
use Rattle.term_graph.proofs.Making.{term_is}
use Rattle.term_graph.proofs.Using.{chosen_yes, chosen_no}
use Rattle.term_graph.proofs.parts.push_user.Goals as goal

pub first_place-first-requires-clause-within : goal.first_place-first-requires-clause-within
first_place-first-requires-clause-within c =
    let tl = c.requires.mention c.in-Some.mention c.in-Some.is in
    subst (All (λ x. x < length c.args.slots.now.items)) (sym (c.as_slice.ensures ∙ ap (λ z. z.args) (term_is c.args.terms.now.items c.in-Some.mention.term c.index.result.now tl c.index.ensures))) (c.requires.args c.in-Some.mention.term tl)

pub returns-in_ok-push-in-Some : goal.returns-in_ok-push-in-Some
returns-in_ok-push-in-Some c =
    let tl = c.requires.mention c.in-Some.mention c.in-Some.is in
    chosen_yes (bindings_of c.args.slots.now.items) c.args.terms.now.items c.args.class c.args.cell.mention c.in-Some.mention c.first_place-first.result c.args.users.now c.push.new.self c.in-Some.is
    (c.first_place-first.ensures ∙ ap (position_or_len (λ x. nat_eq (root (bindings_of c.args.slots.now.items) x) c.args.class)) (c.as_slice.ensures ∙ ap (λ z. z.args) (term_is c.args.terms.now.items c.in-Some.mention.term c.index.result.now tl c.index.ensures)))
    c.if-mention-first.true c.in_ok-push-in-Some.ensures.ok

pub returns-else-mention-first : goal.returns-else-mention-first
returns-else-mention-first c =
    let tl = c.requires.mention c.in-Some.mention c.in-Some.is in
    chosen_no (bindings_of c.args.slots.now.items) c.args.terms.now.items c.args.class c.args.cell.mention c.in-Some.mention c.first_place-first.result c.args.users.now c.in-Some.is
    (c.first_place-first.ensures ∙ ap (position_or_len (λ x. nat_eq (root (bindings_of c.args.slots.now.items) x) c.args.class)) (c.as_slice.ensures ∙ ap (λ z. z.args) (term_is c.args.terms.now.items c.in-Some.mention.term c.index.result.now tl c.index.ensures)))
    c.if-mention-first.false
