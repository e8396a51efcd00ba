use Rattle.std.proofs.Common.{[], sym, ◌∙◌}
use Rattle.std.proofs.lemmas.Option.{get_or_from_slice_get}
use Rattle.decision.proofs.Names.{names_more}
use Rattle.decision.proofs.naming.names_at.Goals as goal

pub loop-rank-preserved : goal.loop-rank-preserved
loop-rank-preserved c =
    names_more c.args.names.now c.args.ranks.now c.loop-rank.rank-index c.loop-rank.found c.push.new.self c.in_ok-copy.field-0
    c.in_ok-push.ensures.ok c.loop-rank.invariant
    (c.in_ok-copy.ensures ∙ sym (get_or_from_slice_get c.args.names.now _ c.get.result.now [] c.get.ensures)) c.as_slice-rank-items.ensures c.loop-rank-test.true
