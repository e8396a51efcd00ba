use Rattle.std.proofs.Common.{◌≡◌, length, sym, ap, ◌∙◌, subst}
use Rattle.std.specs.Map.{keys_of}
use Rattle.term_graph.specs.Contents.{Grows, back_to}
use Rattle.term_graph.proofs.Growing.{grows_none}
use Rattle.settled_facts.specs.Settled.{name}
use Rattle.settled_facts.proofs.Terms.{shaped_of}
use Rattle.finiteness.specs.declared.walks.Walked.{Walked}
use Rattle.finiteness.specs.Walked.{AreMet, IsWalked}
use Rattle.finiteness.proofs.Reached.{all_within, met_none, met_marks, met_firm}
use Rattle.finiteness.proofs.spreading.spread.Goals as goal

pub returns-in_err-path-clause-grows : goal.returns-in_err-path-clause-grows
returns-in_err-path-clause-grows c = grows_none c.args.graph.now

pub returns-in-Round-clause-grows : goal.returns-in-Round-clause-grows
returns-in-Round-clause-grows c = grows_none c.args.graph.now

pub mark_leaves-requires : goal.mark_leaves-requires
mark_leaves-requires c =
    let graph = c.args.graph.now.contents in
    let met : AreMet graph (name graph c.args.v) (keys_of c.in-Ended.visits.entries) =
    subst (λ z. AreMet graph z (keys_of c.in-Ended.visits.entries)) c.deref-start.ensures.root
    (subst (λ (z : Walked). IsWalked graph c.deref-start.result z) c.in-Ended.is c.in_ok-path.ensures) in
    all_within (length graph.bindings) (keys_of c.in-Ended.visits.entries) met.within

pub returns-in-Ok-clause-none : goal.returns-in-Ok-clause-none
returns-in-Ok-clause-none c =
    let graph = c.args.graph.now.contents in
    let met : AreMet graph (name graph c.args.v) (keys_of c.in-Ended.visits.entries) =
    subst (λ z. AreMet graph z (keys_of c.in-Ended.visits.entries)) c.deref-start.ensures.root
    (subst (λ (z : Walked). IsWalked graph c.deref-start.result z) c.in-Ended.is c.in_ok-path.ensures) in
    met_none graph (shaped_of graph c.well_formed-2.ensures) c.args.v (keys_of c.in-Ended.visits.entries) met

pub returns-in-Ok-clause-marks : goal.returns-in-Ok-clause-marks
returns-in-Ok-clause-marks c =
    let graph = c.args.graph.now.contents in
    let met : AreMet graph (name graph c.args.v) (keys_of c.in-Ended.visits.entries) =
    subst (λ z. AreMet graph z (keys_of c.in-Ended.visits.entries)) c.deref-start.ensures.root
    (subst (λ (z : Walked). IsWalked graph c.deref-start.result z) c.in-Ended.is c.in_ok-path.ensures) in
    met_marks graph (shaped_of graph c.well_formed-2.ensures) c.args.v (keys_of c.in-Ended.visits.entries) met
    c.mark_leaves.new.graph.contents c.in-Ok.ensures.marks

pub returns-in-Ok-clause-firm : goal.returns-in-Ok-clause-firm
returns-in-Ok-clause-firm c =
    let graph = c.args.graph.now.contents in
    let met : AreMet graph (name graph c.args.v) (keys_of c.in-Ended.visits.entries) =
    subst (λ z. AreMet graph z (keys_of c.in-Ended.visits.entries)) c.deref-start.ensures.root
    (subst (λ (z : Walked). IsWalked graph c.deref-start.result z) c.in-Ended.is c.in_ok-path.ensures) in
    met_firm graph (shaped_of graph c.well_formed-2.ensures) c.args.v (keys_of c.in-Ended.visits.entries) met
    c.mark_leaves.new.graph.contents (shaped_of c.mark_leaves.new.graph.contents c.well_formed-in-Ok.ensures) c.in-Ok.ensures.rest.0 c.in-Ok.ensures.marks

pub returns-clause-grows : goal.returns-clause-grows
returns-clause-grows c =
    let taken : c.undo_to.new.self ≡ c.args.graph.now =
    c.undo_to.ensures ∙ ap (λ n. back_to n c.mark_leaves.new.graph) c.mark-before.ensures ∙ c.mark_leaves.ensures.grows.1 in
    subst (Grows c.args.graph.now) (sym taken) (grows_none c.args.graph.now)
