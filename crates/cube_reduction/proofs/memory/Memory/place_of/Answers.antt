use Rattle.cube_reduction.proofs.Remembered.{right_over, right_over_more, last_stands}
use Rattle.cube_reduction.proofs.memory.Memory.place_of.Goals as goal

pub invariant_of-self-in_err-push : goal.invariant_of-self-in_err-push
invariant_of-self-in_err-push c = right_over c.self.inside.bases c.push.new.self c.self.inside.known c.self.invariant c.in_err-push.ensures.err

pub invariant_of-self-in_err-insert : goal.invariant_of-self-in_err-insert
invariant_of-self-in_err-insert c =
    right_over_more c.self.inside.bases c.push.new.self c.in_ok-copy.field-0 c.self.inside.known c.self.invariant c.in_ok-push.ensures.ok

pub invariant_of-self-2 : goal.invariant_of-self-2
invariant_of-self-2 c = right_over_more c.self.inside.bases c.push.new.self c.in_ok-copy.field-0 c.self.inside.known c.self.invariant c.in_ok-push.ensures.ok

pub returns : goal.returns
returns c =
    last_stands c.self.inside.bases c.push.new.self c.args.base.now c.in_ok-copy.field-0 c.len-place.result c.in_ok-push.ensures.ok c.in_ok-copy.ensures c.len-place.ensures
