use Rattle.std.proofs.Common.{ℕ, List, subst}
use Rattle.congruence.specs.Agenda.{idle}
use Rattle.congruence.specs.Turns.{LeadsOn, Refutes}
use Rattle.congruence.specs.Begun.{IsBegun, RefutesAtom}
use Rattle.term_graph.proofs.Growing.{grows_through}
use Rattle.congruence.proofs.Enters.{begun_closed, begun_refutes, held_by, failed_by}
use Rattle.congruence.proofs.entering.enter.Goals as goal

pub returns-in_err-close-clause-grows : goal.returns-in_err-close-clause-grows
returns-in_err-close-clause-grows c = grows_through c.args.graph.now c.begin.new.graph c.close.new.graph c.in_ok-begin.ensures.grows c.in_err-close.ensures.grows

pub returns-then-not-branch-2-clause-grows : goal.returns-then-not-branch-2-clause-grows
returns-then-not-branch-2-clause-grows c = grows_through c.args.graph.now c.begin.new.graph c.close.new.graph c.in_ok-begin.ensures.grows c.in_ok-close.ensures.grows

pub returns-then-not-branch-2-clause-entered : goal.returns-then-not-branch-2-clause-entered
returns-then-not-branch-2-clause-entered c = begun_refutes c.args.graph.now.contents c.begin.new.graph.contents c.args.owners.now.items c.begin.new.owners.items c.begin.new.waiting c.begin.new.starts c.args.atom.now (held_by (IsBegun c.args.graph.now.contents c.begin.new.graph.contents c.args.owners.now.items c.begin.new.owners.items c.begin.new.waiting c.begin.new.starts c.args.atom.now) (RefutesAtom c.args.graph.now.contents c.args.owners.now.items c.args.atom.now) c.in_ok-begin.field-0 c.if-not-branch.false c.in_ok-begin.ensures.begun) (subst (λ (z : List ℕ). Refutes z c.begin.new.graph.contents c.begin.new.waiting) c.as_slice.ensures.value (failed_by (LeadsOn c.as_slice.result.now c.begin.new.graph.contents c.close.new.graph.contents c.begin.new.waiting idle c.begin.new.starts c.close.new.starts) (Refutes c.as_slice.result.now c.begin.new.graph.contents c.begin.new.waiting) c.in_ok-close.field-0 c.if-not-branch-2.true c.in_ok-close.ensures.closed))

pub returns-clause-grows : goal.returns-clause-grows
returns-clause-grows c = grows_through c.args.graph.now c.begin.new.graph c.close.new.graph c.in_ok-begin.ensures.grows c.in_ok-close.ensures.grows

pub returns-clause-entered : goal.returns-clause-entered
returns-clause-entered c = begun_closed c.args.graph.now.contents c.begin.new.graph.contents c.close.new.graph.contents c.args.owners.now.items c.begin.new.owners.items c.begin.new.waiting c.begin.new.starts c.close.new.starts c.args.atom.now c.well_formed-3.ensures (held_by (IsBegun c.args.graph.now.contents c.begin.new.graph.contents c.args.owners.now.items c.begin.new.owners.items c.begin.new.waiting c.begin.new.starts c.args.atom.now) (RefutesAtom c.args.graph.now.contents c.args.owners.now.items c.args.atom.now) c.in_ok-begin.field-0 c.if-not-branch.false c.in_ok-begin.ensures.begun) (subst (λ (z : List ℕ). LeadsOn z c.begin.new.graph.contents c.close.new.graph.contents c.begin.new.waiting idle c.begin.new.starts c.close.new.starts) c.as_slice.ensures.value (held_by (LeadsOn c.as_slice.result.now c.begin.new.graph.contents c.close.new.graph.contents c.begin.new.waiting idle c.begin.new.starts c.close.new.starts) (Refutes c.as_slice.result.now c.begin.new.graph.contents c.begin.new.waiting) c.in_ok-close.field-0 c.if-not-branch-2.false c.in_ok-close.ensures.closed))
