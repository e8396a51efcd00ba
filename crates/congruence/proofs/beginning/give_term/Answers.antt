use Rattle.term_graph.proofs.Growing.{grows_on, grows_none}
use Rattle.std.proofs.Common.{ℕ, List, map, inl, inr, ap, arith}
use Rattle.std.specs.Prelude.{slice_index}
use Rattle.term_graph.specs.declared.bound.Bound.TheVariants.{Term}
use Rattle.term_graph.specs.Contents.{BoundAt, with_binding}
use Rattle.settled_facts.specs.Settled.{name}
use Rattle.congruence.proofs.Begins.{gave_owner, gave_term, grows_interned, interned_by}
use Rattle.congruence.proofs.beginning.give_term.Goals as goal

pub returns-in_err-t-clause-grows : goal.returns-in_err-t-clause-grows
returns-in_err-t-clause-grows c = grows_on c.args.graph.now c.args.graph.now c.intern_term.new.self (grows_none c.args.graph.now) (inl c.in_err-t.ensures.err)

pub returns-in_err-equate-clause-grows : goal.returns-in_err-equate-clause-grows
returns-in_err-equate-clause-grows c = grows_interned c.args.graph.now c.intern_term.new.self c.args.symbol (map (name c.args.graph.now.contents) c.args.args.now) c.in_ok-t.t (interned_by c.args.graph.now c.intern_term.new.self c.args.symbol c.as_slice.result.now c.args.args.now c.in_ok-t.t c.as_slice.ensures c.in_ok-t.ensures.ok)

pub returns-then-t-len-clause-grows : goal.returns-then-t-len-clause-grows
returns-then-t-len-clause-grows c = grows_interned c.args.graph.now c.intern_term.new.self c.args.symbol (map (name c.args.graph.now.contents) c.args.args.now) c.in_ok-t.t (interned_by c.args.graph.now c.intern_term.new.self c.args.symbol c.as_slice.result.now c.args.args.now c.in_ok-t.t c.as_slice.ensures c.in_ok-t.ensures.ok)

pub returns-in_err-push-clause-grows : goal.returns-in_err-push-clause-grows
returns-in_err-push-clause-grows c = grows_interned c.args.graph.now c.intern_term.new.self c.args.symbol (map (name c.args.graph.now.contents) c.args.args.now) c.in_ok-t.t (interned_by c.args.graph.now c.intern_term.new.self c.args.symbol c.as_slice.result.now c.args.args.now c.in_ok-t.t c.as_slice.ensures c.in_ok-t.ensures.ok)

pub returns-in_err-watch-clause-grows : goal.returns-in_err-watch-clause-grows
returns-in_err-watch-clause-grows c = grows_interned c.args.graph.now c.intern_term.new.self c.args.symbol (map (name c.args.graph.now.contents) c.args.args.now) c.in_ok-t.t (interned_by c.args.graph.now c.intern_term.new.self c.args.symbol c.as_slice.result.now c.args.args.now c.in_ok-t.t c.as_slice.ensures c.in_ok-t.ensures.ok)

pub returns-in_err-bind-clause-grows : goal.returns-in_err-bind-clause-grows
returns-in_err-bind-clause-grows c = grows_on c.args.graph.now c.intern_term.new.self c.bind.new.self (grows_interned c.args.graph.now c.intern_term.new.self c.args.symbol (map (name c.args.graph.now.contents) c.args.args.now) c.in_ok-t.t (interned_by c.args.graph.now c.intern_term.new.self c.args.symbol c.as_slice.result.now c.args.args.now c.in_ok-t.t c.as_slice.ensures c.in_ok-t.ensures.ok)) (inl c.in_err-bind.ensures.err)

pub returns-clause-grows : goal.returns-clause-grows
returns-clause-grows c = grows_on c.args.graph.now c.intern_term.new.self c.bind.new.self (grows_interned c.args.graph.now c.intern_term.new.self c.args.symbol (map (name c.args.graph.now.contents) c.args.args.now) c.in_ok-t.t (interned_by c.args.graph.now c.intern_term.new.self c.args.symbol c.as_slice.result.now c.args.args.now c.in_ok-t.t c.as_slice.ensures c.in_ok-t.ensures.ok))
    (inr (BoundAt c.deref-root.result, with_binding c.deref-root.result (Term c.in_ok-t.t) c.intern_term.new.self.contents, c.in_ok-bind.ensures.ok))

pub returns-then-t-len-clause-begun : goal.returns-then-t-len-clause-begun
returns-then-t-len-clause-begun c =
    gave_owner c.args.graph.now c.intern_term.new.self c.args.owners.now.items c.args.waiting.now c.equate.new.self c.args.starts.now c.args.u c.in_ok-t.t c.deref-root.result (slice_index c.as_slice-then-t-len.result.now c.in_ok-t.t) c.args.symbol c.args.args.now
    c.well_formed-2.ensures c.requires.owners c.requires.over.0 (omega (arith, c.if-t-len.true, c.len.ensures, c.requires.owners.counted)) (interned_by c.args.graph.now c.intern_term.new.self c.args.symbol c.as_slice.result.now c.args.args.now c.in_ok-t.t c.as_slice.ensures c.in_ok-t.ensures.ok) c.deref-root.ensures.root
    (ap (λ (z : List ℕ). slice_index z c.in_ok-t.t) c.as_slice-then-t-len.ensures.value) c.requires.idle.0 c.requires.idle.1 c.in_ok-equate.ensures.ok

pub returns-clause-begun : goal.returns-clause-begun
returns-clause-begun c =
    gave_term c.args.graph.now c.intern_term.new.self c.bind.new.self c.args.owners.now.items c.push.new.self.items c.args.waiting.now c.args.starts.now c.watch.new.starts c.args.u c.in_ok-t.t c.deref-root.result c.args.symbol c.args.args.now
    c.well_formed-2.ensures c.requires.owners c.requires.over.0 c.requires.over.1 c.requires.free (omega (arith, c.if-t-len.false, c.len.ensures, c.requires.owners.counted)) (interned_by c.args.graph.now c.intern_term.new.self c.args.symbol c.as_slice.result.now c.args.args.now c.in_ok-t.t c.as_slice.ensures c.in_ok-t.ensures.ok) c.deref-root.ensures.root
    c.in_ok-push.ensures.items c.requires.idle.1 c.in_ok-watch.ensures c.in_ok-bind.ensures.ok c.requires.idle.0
