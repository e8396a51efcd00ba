use Rattle.std.proofs.Common.{ℕ, List, ◌≡◌, ◌++◌, ◌∷◌, [], None, length, refl, sym, ap, ◌∙◌, subst, arith}
use Rattle.std.specs.Option.{IsSome, is_some}
use Rattle.flat_facts.specs.Spread.{IsLeastRound}
use Rattle.settled_facts.specs.Forms.{equations_of}
use Rattle.settled_facts.proofs.Terms.{shaped_of}
use Rattle.finiteness.specs.declared.walks.Turn.{Turn}
use Rattle.finiteness.specs.Stages.{stage_of}
use Rattle.finiteness.proofs.Exploring.{arguments_of, walking_begins, top_begun, top_within, walking_round, walking_on, walking_back, walking_ends, lighter_on, lighter_back}
use Rattle.finiteness.proofs.Staging.{unmet}
use Rattle.finiteness.proofs.walks.walk_from.Goals as goal

pub turns-init : goal.turns-init
turns-init c =
    walking_begins c.args.graph.now.contents c.args.start c.requires.within c.new-visits.result.entries c.begin.new.visits.entries c.new-visits.ensures.empty c.in_ok-begin.ensures.begun
    c.in_ok-begin.ensures.once c.new-walk.result.items c.new-walk.ensures.items

pub onward-requires : goal.onward-requires
onward-requires c =
    top_within c.args.graph.now.contents (shaped_of c.args.graph.now.contents c.well_formed-2.ensures) c.args.start c.turns.visits.entries c.turns.walk.items c.turns.top c.turns.invariant

pub returns-then-is_some : goal.returns-then-is_some
returns-then-is_some c = λ v named.
    let graph = c.args.graph.now.contents in
    let turn : Turn = record { class = c.turns.top.class; argument = c.in-Some.next.argument } in
    let met : IsSome (stage_of c.turns.visits.entries c.in-Some.next.class) = ap is_some (sym c.stage_at.ensures) ∙ sym c.is_some.ensures ∙ c.if-is_some.true in
    let same : c.in_ok-path-in-Some.field-0 ≡ arguments_of (c.turns.walk.items ++ turn ∷ []) =
    c.in_ok-path-in-Some.ensures ∙ ap arguments_of (c.as_slice.ensures.value ∙ c.in_ok-push-in-Some.ensures.items) in
    subst (λ (z : List ℕ). IsLeastRound (equations_of graph) v z) (sym same)
    (walking_round graph (shaped_of graph c.well_formed-2.ensures) c.args.start c.turns.visits.entries c.turns.walk.items c.turns.top c.turns.invariant c.in-Some.next c.in-Some.ensures
    met v named)

pub turns-smaller-in-Some : goal.turns-smaller-in-Some
turns-smaller-in-Some c =
    let graph = c.args.graph.now.contents in
    lighter_on graph (shaped_of graph c.well_formed-2.ensures) c.args.start c.turns.visits.entries c.turns.walk.items c.turns.top c.turns.invariant c.in-Some.next c.in-Some.ensures
    c.begin-in-Some.new.visits.entries c.in_ok-begin-in-Some.ensures.begun c.in_ok-begin-in-Some.ensures.once c.push.new.self.items c.in_ok-push-in-Some.ensures.items

pub turns-preserved-in-Some : goal.turns-preserved-in-Some
turns-preserved-in-Some c =
    let graph = c.args.graph.now.contents in
    let new : stage_of c.turns.visits.entries c.in-Some.next.class ≡ None =
    unmet (stage_of c.turns.visits.entries c.in-Some.next.class) (ap is_some (sym c.stage_at.ensures) ∙ sym c.is_some.ensures ∙ c.if-is_some.false) in
    walking_on graph (shaped_of graph c.well_formed-2.ensures) c.args.start c.turns.visits.entries c.turns.walk.items c.turns.top c.turns.invariant c.in-Some.next c.in-Some.ensures
    new c.begin-in-Some.new.visits.entries c.in_ok-begin-in-Some.ensures.begun c.in_ok-begin-in-Some.ensures.once c.push.new.self.items c.in_ok-push-in-Some.ensures.items

pub finish-requires : goal.finish-requires
finish-requires c =
    let graph = c.args.graph.now.contents in
    top_begun graph (shaped_of graph c.well_formed-2.ensures) c.args.start c.turns.visits.entries c.turns.walk.items c.turns.top c.turns.invariant

pub turns-smaller : goal.turns-smaller
turns-smaller c =
    let graph = c.args.graph.now.contents in
    lighter_back graph (shaped_of graph c.well_formed-2.ensures) c.args.start c.turns.visits.entries c.turns.walk.items c.turns.top c.turns.invariant c.in-None.ensures
    c.finish.new.visits.entries c.finish.ensures c.pop.new.self.items c.in-Some-pop.turn c.in-Some-pop.ensures.items

pub turns-preserved : goal.turns-preserved
turns-preserved c =
    let graph = c.args.graph.now.contents in
    walking_back graph (shaped_of graph c.well_formed-2.ensures) c.args.start c.turns.visits.entries c.turns.walk.items c.turns.top c.turns.invariant c.in-None.ensures
    c.finish.new.visits.entries c.finish.ensures c.pop.new.self.items c.in-Some-pop.turn c.in-Some-pop.ensures.items

no_turns : (walk : List Turn) → length walk ≡ 0 → walk ≡ []
no_turns [] e = refl
no_turns (t ∷ walk) e = absurd (omega (arith, e))

pub returns-in-None-pop : goal.returns-in-None-pop
returns-in-None-pop c =
    let graph = c.args.graph.now.contents in
    walking_ends graph (shaped_of graph c.well_formed-2.ensures) c.args.start c.turns.visits.entries c.turns.walk.items c.turns.top c.turns.invariant c.in-None.ensures
    c.finish.new.visits.entries c.finish.ensures (no_turns c.turns.walk.items (omega (arith, c.in-None-pop.ensures.cases.0)))
