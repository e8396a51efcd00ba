use Rattle.std.proofs.Common.{sym, ◌∙◌}
use Rattle.cube_reduction.specs.Numbers.{number_in}
use Rattle.cube_reduction.proofs.Unchanged.{unchanged}
use Rattle.cube_reduction.proofs.numbers.Numbers.of_parts.Goals as goal

pub returns-then-keep_all : goal.returns-then-keep_all
returns-then-keep_all c =
    unchanged (number_in c.args.self.now.table.items c.args.self.now.behind) (c.keep_all.ensures c.if-keep_all.true) c.args.more c.args.moved.now c.args.parts c.if-more-eq0.true
    (sym c.len.ensures ∙ c.if-len-eq0.true)
