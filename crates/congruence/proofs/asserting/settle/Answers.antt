use Rattle.std.proofs.Common.{ℕ, List, subst}
use Rattle.std.specs.Prelude.{MatchBool}
use Rattle.term_graph.proofs.Growing.{grows_through}
use Rattle.settled_facts.proofs.Terms.{shaped_of}
use Rattle.congruence.specs.Agenda.{idle}
use Rattle.congruence.specs.Begun.{IsBegun, RefutesAtom}
use Rattle.congruence.specs.Asserted.{AreWalked, ComeRound, IsAsserted}
use Rattle.congruence.proofs.Enters.{held_by}
use Rattle.congruence.proofs.Asserts.{starts_low, turned_to, asserted, refutes}
use Rattle.congruence.proofs.asserting.settle.Goals as goal

pub walk_all-requires : goal.walk_all-requires
walk_all-requires c =
    let old = c.args.graph.now.contents in
    let mid = c.enter.new.graph.contents in
    let owners = c.args.owners.now.items in
    let more = c.enter.new.owners.items in
    let starts = c.enter.new.starts in
    let atom = c.args.atom.now in
    starts_low old mid owners more starts atom
    (held_by (IsBegun old mid owners more idle starts atom) (RefutesAtom old owners atom) c.in_ok-enter.field-0 c.if-not-branch.false c.in_ok-enter.ensures.entered)
    c.as_slice.result.now c.as_slice.ensures

pub returns-in_err-ended-clause-grows : goal.returns-in_err-ended-clause-grows
returns-in_err-ended-clause-grows c = grows_through c.args.graph.now c.enter.new.graph c.walk_all.new.graph c.in_ok-enter.ensures.grows c.in_err-ended.ensures.grows

pub returns-clause-grows : goal.returns-clause-grows
returns-clause-grows c = grows_through c.args.graph.now c.enter.new.graph c.walk_all.new.graph c.in_ok-enter.ensures.grows c.in_ok-ended.ensures.grows

pub returns-clause-settled : goal.returns-clause-settled
returns-clause-settled c =
    let old = c.args.graph.now.contents in
    let mid = c.enter.new.graph.contents in
    let new = c.walk_all.new.graph.contents in
    let owners = c.args.owners.now.items in
    let more = c.enter.new.owners.items in
    let starts = c.enter.new.starts in
    let atom = c.args.atom.now in
    let begun = held_by (IsBegun old mid owners more idle starts atom) (RefutesAtom old owners atom) c.in_ok-enter.field-0 c.if-not-branch.false c.in_ok-enter.ensures.entered in
    let walked = subst (λ (z : List ℕ). MatchBool c.in_ok-ended.ended (AreWalked mid new z) (ComeRound mid z)) c.as_slice.ensures c.in_ok-ended.ensures.walked in
    turned_to (AreWalked mid new starts) (ComeRound mid starts) (IsAsserted old new owners more atom) (RefutesAtom old owners atom) c.in_ok-ended.ended
    (λ walks. asserted old mid new owners more starts atom (shaped_of old c.well_formed-2.ensures) (shaped_of mid c.well_formed-3.ensures) (shaped_of new c.well_formed-4.ensures) begun walks c.in_ok-enter.ensures.longer)
    (λ round. refutes old mid owners more starts atom begun round) walked
