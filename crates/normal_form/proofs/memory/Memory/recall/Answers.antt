use Rattle.std.specs.Prelude.{Some, slice_get}
use Rattle.std.proofs.Common.{◌≡◌, List, sym, subst}
use Rattle.flat_form.specs.declared.cube.Cube.{Cube}
use Rattle.flat_form.specs.Raws.{joined}
use Rattle.normal_form.specs.Remembered.{ComesTo}
use Rattle.normal_form.proofs.Remembered.{recalled, right_at}
use Rattle.normal_form.proofs.memory.Memory.recall.Goals as goal

pub returns-then-join-right : goal.returns-then-join-right
returns-then-join-right c one other at_one at_other =
    let join = c.get-join.result.now in
    subst (λ (z : List Cube). ComesTo z (joined one other) join.outcome) c.self.view_is
    (recalled c.self.inside.cubes join c.args.left c.args.right (right_at c.self.inside.cubes c.self.inside.joins _ join c.self.invariant c.get-join.ensures)
    c.if-join-left.true c.if-join-right.true one other
    (subst (λ (z : List Cube). slice_get z c.args.left ≡ Some one) (sym c.self.view_is) at_one)
    (subst (λ (z : List Cube). slice_get z c.args.right ≡ Some other) (sym c.self.view_is) at_other))
