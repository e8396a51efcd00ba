use Rattle.std.proofs.Common.{◌≡◌, ℕ, List, length, subst, sym, ◌∙◌, Some}
use Rattle.std.specs.Prelude.{slice_get}
use Rattle.std.proofs.lemmas.List.Elements.{All-contains}
use Rattle.flat_form.specs.declared.atom.Flat.{Flat}
use Rattle.flat_form.specs.Numbering.{PartOver}
use Rattle.cube_reduction.proofs.Lasting.{Lasts, lasts_first, lasts_more, lasts_all, is_implied, next_at, nothing_left, nothing_in}
use Rattle.cube_reduction.proofs.fates.staying.Goals as goal

pub loop-part-init : goal.loop-part-init
loop-part-init c = record {
  stands = c.in_ok-place.ensures;
  whole = c.into_iter-part-iterator.ensures.into_iter_gives.0 ∙ c.into_items-part-items.ensures;
  lasts = lasts_first c.args.over.now.count c.args.over.now.base c.args.parts c.in_ok-done.done c.in_ok-done.ensures;
}

pub take_part-requires-clause-part : goal.take_part-requires-clause-part
take_part-requires-clause-part c =
    let at = next_at c.args.parts c.loop-part.yielded c.loop-part.part-iterator.rest.items c.next.new.self.rest.items c.in-Some.part c.loop-part.invariant.whole c.in-Some.ensures.steps.0 in
    All-contains (PartOver c.args.over.now.count) c.args.parts c.in-Some.part c.requires.parts (length c.loop-part.yielded, at.0, sym at.1)

pub returns-then-not-goes_on : goal.returns-then-not-goes_on
returns-then-not-goes_on c =
    let (fate, becomes, taken) = c.in_ok-goes_on.ensures.taken in
    let at = next_at c.args.parts c.loop-part.yielded c.loop-part.part-iterator.rest.items c.next.new.self.rest.items c.in-Some.part c.loop-part.invariant.whole c.in-Some.ensures.steps.0 in (
      c.in-Some.part,
      (length c.loop-part.yielded, at.0, sym at.1),
      is_implied c.args.over.now.count c.args.over.now.base c.in-Some.part c.loop-part.done c.take_part.new.done fate c.in_ok-goes_on.goes_on becomes taken c.if-not-goes_on.true,
    )

pub loop-part-preserved : goal.loop-part-preserved
loop-part-preserved c =
    let (fate, becomes, taken) = c.in_ok-goes_on.ensures.taken in
    let parts = c.args.parts in
    let yielded = c.loop-part.yielded in
    let part = c.in-Some.part in
    let at = next_at parts yielded c.loop-part.part-iterator.rest.items c.next.new.self.rest.items part c.loop-part.invariant.whole c.in-Some.ensures.steps.0 in
    let more = lasts_more c.args.over.now.count c.args.over.now.base parts (length yielded) part at.0 at.1 c.loop-part.done
    c.take_part.new.done fate c.in_ok-goes_on.goes_on becomes taken c.if-not-goes_on.false c.loop-part.invariant.lasts in
    record {
      stands = subst (λ (z : List (List Flat)). slice_get z c.in_ok-place.place ≡ Some c.args.over.now.base) (sym c.in_ok-goes_on.ensures.kept) c.loop-part.invariant.stands;
      whole = at.2;
      lasts = subst (λ (z : ℕ). Lasts c.args.over.now.count c.args.over.now.base parts z c.take_part.new.done) at.3 more;
    }

pub returns : goal.returns
returns c =
    lasts_all c.args.over.now.count c.args.over.now.base c.args.parts (length c.loop-part.yielded) c.loop-part.done
    (nothing_left c.args.parts c.loop-part.yielded c.loop-part.part-iterator.rest.items (nothing_in c.loop-part.part-iterator.rest.items (sym c.loop-part.part-iterator.rest.ok.0 ∙ c.in-None.ensures.steps.0)) c.loop-part.invariant.whole) c.loop-part.invariant.lasts
