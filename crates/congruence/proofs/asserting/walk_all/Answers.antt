use Rattle.std.proofs.Common.{ℕ}
use Rattle.std.specs.Prelude.{slice_index, ◌↔◌, ◌⊎◌}
use Rattle.flat_facts.specs.Spread.{IsLeaf, IsLeastRound}
use Rattle.term_graph.proofs.Growing.{grows_none, grows_through}
use Rattle.settled_facts.specs.Settled.{name, IsMarked, Firm}
use Rattle.settled_facts.specs.Forms.{equations_of}
use Rattle.settled_facts.proofs.Terms.{shaped_of}
use Rattle.congruence.proofs.Asserts.{walked_none, walked_on, round_at, when_done, when_loop}
use Rattle.congruence.proofs.asserting.walk_all.Goals as goal

pub loop-s-init : goal.loop-s-init
loop-s-init c = record { grows = grows_none c.args.graph.now; walked = walked_none c.args.graph.now.contents }

pub returns-in-Loop-clause-walked : goal.returns-in-Loop-clause-walked
returns-in-Loop-clause-walked c =
    let old = c.loop-s.graph.contents in
    let s = slice_index c.args.starts.now c.loop-s.s-index in
    round_at c.args.graph.now.contents old c.args.starts.now c.loop-s.s-index c.loop-s-test.true (shaped_of old c.well_formed-in-loop-s.ensures) c.loop-s.invariant.walked
    c.in-Loop.field-0 (when_loop c.in_ok-spread.field-0 c.in-Loop.field-0 (IsLeastRound (equations_of old) s) c.in-Loop.is c.in_ok-spread.ensures.loops)

pub loop-s-preserved : goal.loop-s-preserved
loop-s-preserved c =
    let old = c.loop-s.graph.contents in
    let new = c.spread.new.graph.contents in
    let s = slice_index c.args.starts.now c.loop-s.s-index in
    record {
      grows = grows_through c.args.graph.now c.loop-s.graph c.spread.new.graph c.loop-s.invariant.grows c.in_ok-spread.ensures.grows;
      walked = walked_on c.args.graph.now.contents old c.args.starts.now c.loop-s.s-index c.loop-s-test.true (shaped_of old c.well_formed-in-loop-s.ensures) c.loop-s.invariant.walked
          new c.in_ok-spread.ensures.rest.0
          (when_done c.in_ok-spread.field-0 (Firm new (name new s)) c.in-Done.is c.in_ok-spread.ensures.firm)
          (when_done c.in_ok-spread.field-0 ((u : ℕ) → IsMarked new u ↔ (IsMarked old u ⊎ IsLeaf (equations_of old) s u)) c.in-Done.is c.in_ok-spread.ensures.marks);
    }
