use Rattle.std.proofs.Common.{List, sym, subst}
use Rattle.flat_form.specs.declared.cube.Cube.{Cube}
use Rattle.normal_form.specs.declared.memory.Join.{Join}
use Rattle.normal_form.specs.Remembered.{IsRight}
use Rattle.normal_form.proofs.Remembered.{still_right, one_right_more}
use Rattle.normal_form.proofs.memory.Memory.note.Goals as goal

pub invariant_of-self : goal.invariant_of-self
invariant_of-self c = still_right c.self.inside.cubes c.self.inside.joins c.push.new.self c.self.invariant c.in_err-push.ensures.err

pub invariant_of-self-in_err-insert : goal.invariant_of-self-in_err-insert
invariant_of-self-in_err-insert c =
    let join : Join = record { left = c.args.left; right = c.args.right; outcome = c.args.outcome } in
    one_right_more c.self.inside.cubes c.self.inside.joins c.push.new.self join c.self.invariant
    (subst (λ (z : List Cube). IsRight z join) (sym c.self.view_is) c.requires) c.in_ok-push.ensures.ok

pub invariant_of-self-2 : goal.invariant_of-self-2
invariant_of-self-2 c =
    let join : Join = record { left = c.args.left; right = c.args.right; outcome = c.args.outcome } in
    one_right_more c.self.inside.cubes c.self.inside.joins c.push.new.self join c.self.invariant
    (subst (λ (z : List Cube). IsRight z join) (sym c.self.view_is) c.requires) c.in_ok-push.ensures.ok
