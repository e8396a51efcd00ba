use Rattle.std.proofs.Common.{rules}
use Rattle.flat_form.proofs.Shapes.{solved_from, together_from}
use Rattle.flat_form.proofs.solved.is_solved.Goals as goal

pub returns-then-ascends : goal.returns-then-ascends
returns-then-ascends c =
    let together = rw c.as_slice.ensures at c.all_go_together.ensures in (
      λ t. solved_from c.args.b.now (c.ascends.ensures.0 (search rules)) (together.0 t),
      λ solved. together.1 (together_from c.args.b.now solved),
    )
