use Rattle.std.proofs.Common.{◌∙◌}
use Rattle.flattening.proofs.Table.{stands_exactly, found_first, none_first}
use Rattle.flattening.proofs.solved.Solved.find.Goals as goal

pub returns-then-is-clause-stands : goal.returns-then-is-clause-stands
returns-then-is-clause-stands c =
    let same = c.as_slice-entry-items.ensures.value ∙ c.self.view_is in
    stands_exactly c.args.self.now _ c.args.key.now _ c.self.invariant c.self.view_is
    (found_first _ _ c.loop-entry.entry-index _ c.entry-item.result _ same c.loop-entry-test.true c.entry-item.is c.loop-entry.invariant c.is.ensures c.if-is.true)

pub returns-clause-stands : goal.returns-clause-stands
returns-clause-stands c =
    let same = c.as_slice-entry-items.ensures.value ∙ c.self.view_is in
    stands_exactly c.args.self.now _ c.args.key.now _ c.self.invariant c.self.view_is
    (none_first _ _ c.loop-entry.entry-index _ same c.loop-entry-test.false c.loop-entry.auto.entry-index-end c.loop-entry.invariant)
