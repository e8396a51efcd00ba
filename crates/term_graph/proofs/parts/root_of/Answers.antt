use Rattle.std.proofs.Common.{◌≡◌, ◌∙◌, ℕ, ap, sym, refl, length}
use Rattle.std.specs.Prelude.{Some, None}
use Rattle.std.proofs.lemmas.List.{length-map}
use Rattle.term_graph.specs.declared.bound.Bound.{Bound}
use Rattle.term_graph.specs.declared.bound.Bound.TheVariants.{Free, Variable, Term}
use Rattle.term_graph.specs.Contents.{target, target_of, stays, goes}
use Rattle.term_graph.specs.Fields.{bindings_of}
use Rattle.term_graph.proofs.Forests.{remaining-falls}
use Rattle.term_graph.proofs.parts.root_of.Goals as goal

pub loop-next-smaller : goal.loop-next-smaller
loop-next-smaller c =
    let b = bindings_of c.args.slots.now.items in
    let e : target_of b c.loop-next.at ≡ Some c.in-Variable.next = ap target (sym c.in-Variable.ensures) in
    remaining-falls b (length b) c.loop-next.at c.in-Variable.next e (c.requires.forest.ends c.loop-next.at)

pub loop-next-preserved : goal.loop-next-preserved
loop-next-preserved c =
    let b = bindings_of c.args.slots.now.items in
    let e : target_of b c.loop-next.at ≡ Some c.in-Variable.next = ap target (sym c.in-Variable.ensures) in
    record {
      within = rw length-map at (c.requires.forest.within c.loop-next.at c.in-Variable.next e);
      along = λ r x. c.loop-next.invariant.along r (goes e x);
    }

no_target : (t : Bound) → ((x : ℕ) → t ≡ Variable x → ⊥) → target t ≡ None
no_target Free h = refl
no_target (Variable x) h = absurd (h x refl)
no_target (Term x) h = refl

pub returns : goal.returns
returns c =
    let b = bindings_of c.args.slots.now.items in
    let e : target_of b c.loop-next.at ≡ None = ap target (sym c.binding_at.ensures) ∙ no_target c.binding_at.result c.in_default.not-Variable in
    record {
      within = c.loop-next.invariant.within;
      leads = c.loop-next.invariant.along c.loop-next.at (stays e);
    }
