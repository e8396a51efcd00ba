use Rattle.std.proofs.Common.{arith}
use Rattle.game_library.proofs.Marked.{added}
use Rattle.game_library.proofs.marks.Marks.add.Goals as goal

pub returns-then-place-len : goal.returns-then-place-len
returns-then-place-len c =
    added c.self.inside.marks.items c.args.self.now c.args.place c.args.key c.index.result.now c.with.result c.self.view_is c.index.ensures c.with.ensures
    (omega (arith, c.if-place-len.true, c.len.ensures, c.self.inside.marks.ok.0)) c.requires
