use Rattle.std.proofs.Common.{ℕ, List, ◌<◌, ◌+◌, length, take, sym, ap, ◌∙◌, subst, arith}
use Rattle.std.specs.Map.{keys_of}
use Rattle.std.proofs.lemmas.List.{length-map}
use Rattle.std.proofs.lemmas.List.Elements.{All-get_or}
use Rattle.term_graph.specs.Contents.{History, binding_of, Grows}
use Rattle.term_graph.proofs.Growing.{grows_none}
use Rattle.settled_facts.specs.Settled.{IsFree}
use Rattle.finiteness.specs.declared.visits.Stage.{Stage}
use Rattle.finiteness.proofs.Reached.{AreMarked, none_marked, Marks, marks_by, marks_grow, marked_bound, marked_free}
use Rattle.finiteness.proofs.spreading.mark_leaves.Goals as goal
use Rattle.finiteness.proofs.spreading.mark_leaves.Goals.{then-is_free+in_ok-mark_finite, else-is_free}

pub loop-place-init : goal.loop-place-init
loop-place-init c = (none_marked c.args.graph.now.contents, grows_none c.args.graph.now)

pub loop-place-preserved : goal.loop-place-preserved
loop-place-preserved c =
    let first = c.args.graph.now in
    let now = c.loop-place.graph in
    let xs : List ℕ = keys_of c.args.visits.now.entries in
    let i = c.loop-place.place in
    let x = c.class_at-class.result in
    let are : AreMarked first.contents now.contents (take i xs) = c.loop-place.invariant.0 in
    let inside : i < length xs = omega (arith, c.len-place-end.ensures.len, length-map c.args.visits.now.entries (λ (e : ℕ × Stage). e.0)) in
    let there : x < length first.contents.bindings =
    subst (λ z. z < length first.contents.bindings) (sym c.class_at-class.ensures) (All-get_or (λ z. z < length first.contents.bindings) xs i 0 inside c.requires) in
    let was : IsFree now.contents x → IsFree first.contents x = λ e. ap (λ bs. binding_of bs x) (sym are.more.bindings) ∙ e in
    elim c.if-is_free.branch [
      | then-is_free+in_ok-mark_finite w ↦
          let marks : Marks x now w.mark_finite.new.self = marks_by x now w.mark_finite.new.self w.in_ok-mark_finite.ensures.ok in
          subst (λ (z : History). AreMarked first.contents z.contents (take (i + 1) xs) × Grows first z) (sym w.graph-is) (
            marked_free first.contents xs i x inside c.class_at-class.ensures now w.mark_finite.new.self (omega (arith, there, are.sizes, c.well_formed-2.ensures.sizes))
                (was w.if-is_free.ensures) marks are,
            marks_grow x first now w.mark_finite.new.self marks c.loop-place.invariant.1,
          )
      | else-is_free w ↦
          let bound : ¬ IsFree first.contents x = λ e. w.if-is_free.ensures (ap (λ bs. binding_of bs x) are.more.bindings ∙ e) in
          subst (λ (z : History). AreMarked first.contents z.contents (take (i + 1) xs) × Grows first z) (sym w.graph-is)
          (marked_bound first.contents xs i x inside c.class_at-class.ensures now.contents bound are, c.loop-place.invariant.1)
    ]
