use Rattle.std.proofs.Common.{List, sym, subst}
use Rattle.flat_form.specs.declared.atom.Flat.{Flat}
use Rattle.cube_reduction.specs.declared.memory.Known.{Known}
use Rattle.cube_reduction.specs.Remembered.{IsRight}
use Rattle.cube_reduction.proofs.Remembered.{still_right, one_right_more}
use Rattle.cube_reduction.proofs.memory.Memory.note.Goals as goal

pub invariant_of-self : goal.invariant_of-self
invariant_of-self c = still_right c.self.inside.bases c.self.inside.known c.push.new.self c.self.invariant c.in_err-push.ensures.err

pub invariant_of-self-in_err-insert : goal.invariant_of-self-in_err-insert
invariant_of-self-in_err-insert c =
    let s : Known = record { base = c.args.place; count = c.args.count; part = c.args.part; fate = c.args.fate } in
    one_right_more c.self.inside.bases c.self.inside.known c.push.new.self s c.self.invariant
    (subst (λ (z : List (List Flat)). IsRight z s) (sym c.self.view_is) c.requires) c.in_ok-push.ensures.ok

pub invariant_of-self-2 : goal.invariant_of-self-2
invariant_of-self-2 c =
    let s : Known = record { base = c.args.place; count = c.args.count; part = c.args.part; fate = c.args.fate } in
    one_right_more c.self.inside.bases c.self.inside.known c.push.new.self s c.self.invariant
    (subst (λ (z : List (List Flat)). IsRight z s) (sym c.self.view_is) c.requires) c.in_ok-push.ensures.ok
