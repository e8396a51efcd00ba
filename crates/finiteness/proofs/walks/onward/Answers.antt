use Rattle.std.proofs.Common.{ℕ, List, ◌≡◌, ◌<◌, length, refl, sym, ap, ◌∙◌, arith}
use Rattle.std.specs.Prelude.{slice_index}
use Rattle.term_graph.specs.Contents.{term_at}
use Rattle.settled_facts.specs.Settled.{name}
use Rattle.finiteness.proofs.Nexts.{done_next, done_whole, next_is}
use Rattle.finiteness.proofs.walks.onward.Goals as goal

pub returns-then-not-is_done : goal.returns-then-not-is_done
returns-then-not-is_done c =
    let graph = c.args.graph.now.contents in
    let args : List ℕ = (term_at graph.terms c.in-Term.term).args in
    let here : c.deref-class.result ≡ name graph (slice_index args c.loop-argument.argument) =
    c.deref-class.ensures.root ∙ ap (name graph) (c.get.ensures ∙ ap (λ (z : List ℕ). slice_index z c.loop-argument.argument) c.args-args.ensures) in
    let inside : c.loop-argument.argument < length args = omega (arith, ap (λ (z : List ℕ). length z) c.args-args.ensures) in
    next_is graph c.args.visits.now.entries c.args.at.class c.in-Term.term (c.well_formed-2.ensures.bound_terms c.args.at.class c.in-Term.term (sym c.in-Term.ensures)) (sym c.in-Term.ensures)
    c.args.at (record { class = c.deref-class.result; argument = c.loop-argument.argument }) refl (omega arith) inside here c.loop-argument.invariant c.if-not-is_done.ensures

pub loop-argument-preserved : goal.loop-argument-preserved
loop-argument-preserved c =
    let graph = c.args.graph.now.contents in
    let args : List ℕ = (term_at graph.terms c.in-Term.term).args in
    let here : c.deref-class.result ≡ name graph (slice_index args c.loop-argument.argument) =
    c.deref-class.ensures.root ∙ ap (name graph) (c.get.ensures ∙ ap (λ (z : List ℕ). slice_index z c.loop-argument.argument) c.args-args.ensures) in
    let inside : c.loop-argument.argument < length args = omega (arith, ap (λ (z : List ℕ). length z) c.args-args.ensures) in
    done_next graph c.args.visits.now.entries c.args.at.class c.in-Term.term (c.well_formed-2.ensures.bound_terms c.args.at.class c.in-Term.term (sym c.in-Term.ensures)) (sym c.in-Term.ensures)
    c.args.at.argument c.loop-argument.argument c.deref-class.result inside here c.if-not-is_done.ensures c.loop-argument.invariant

pub returns : goal.returns
returns c =
    let graph = c.args.graph.now.contents in
    done_whole graph c.args.visits.now.entries c.args.at.class c.in-Term.term (c.well_formed-2.ensures.bound_terms c.args.at.class c.in-Term.term (sym c.in-Term.ensures)) (sym c.in-Term.ensures)
    c.args.at.argument c.loop-argument.argument (omega (arith, ap (λ (z : List ℕ). length z) c.args-args.ensures)) c.loop-argument.invariant
