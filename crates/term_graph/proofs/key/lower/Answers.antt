use Rattle.std.proofs.Common.{◌≡◌, ◌∙◌, sym, Some, inl, inr, refl, arith}
use Rattle.term_graph.specs.Noting.{value_at}
use Rattle.term_graph.proofs.Noting.{keys_written}
use Rattle.term_graph.proofs.Restoring.{kept-lowered, value-read}
use Rattle.term_graph.proofs.key.lower.Goals as goal

pub returns-then-leader-t-clause-lowered : goal.returns-then-leader-t-clause-lowered
returns-then-leader-t-clause-lowered c =
    let es = c.args.table.now.entries in
    (c.index-leader.result.now, sym (value-read c.args.table.now.entries c.args.place) ∙ c.index-leader.ensures, inl (omega arith, refl))

pub returns-clause-kept : goal.returns-clause-kept
returns-clause-kept c =
    let e : value_at c.args.table.now.entries c.args.place ≡ Some c.index-leader.result.now = sym (value-read c.args.table.now.entries c.args.place) ∙ c.index-leader.ensures in
    rw c.in-Ok.ensures.items (kept-lowered c.args.table.now.entries c.args.lowered.now.items c.args.place c.index-leader.result.now c.args.t e)

pub returns-clause-lowered : goal.returns-clause-lowered
returns-clause-lowered c = (c.index-leader.result.now, sym (value-read c.args.table.now.entries c.args.place) ∙ c.index-leader.ensures, inr (omega arith, refl))

pub returns-clause-keys : goal.returns-clause-keys
returns-clause-keys c = λ n h. keys_written n c.args.table.now.entries c.args.place c.args.t h
