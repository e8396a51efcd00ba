use Rattle.normal_form.proofs.Remembered.{right_over, right_over_more, keeps_more, last_stands}
use Rattle.normal_form.proofs.memory.Memory.keep_last.Goals as goal

pub invariant_of-self : goal.invariant_of-self
invariant_of-self c = right_over c.self.inside.cubes c.push.new.self c.self.inside.joins c.self.invariant c.in_err-push.ensures.err

pub invariant_of-self-in_err-insert : goal.invariant_of-self-in_err-insert
invariant_of-self-in_err-insert c = right_over_more c.self.inside.cubes c.push.new.self c.args.cube c.self.inside.joins c.self.invariant c.in_ok-push.ensures.ok

pub returns-in_err-insert-clause-kept : goal.returns-in_err-insert-clause-kept
returns-in_err-insert-clause-kept c = keeps_more c.args.self.now c.self.inside.cubes c.push.new.self c.args.cube c.self.view_is c.in_ok-push.ensures.ok

pub invariant_of-self-2 : goal.invariant_of-self-2
invariant_of-self-2 c = right_over_more c.self.inside.cubes c.push.new.self c.args.cube c.self.inside.joins c.self.invariant c.in_ok-push.ensures.ok

pub returns-clause-kept : goal.returns-clause-kept
returns-clause-kept c = keeps_more c.args.self.now c.self.inside.cubes c.push.new.self c.args.cube c.self.view_is c.in_ok-push.ensures.ok

pub returns-clause-place : goal.returns-clause-place
returns-clause-place c = last_stands c.self.inside.cubes c.push.new.self c.args.cube c.len-place.result c.in_ok-push.ensures.ok c.len-place.ensures
