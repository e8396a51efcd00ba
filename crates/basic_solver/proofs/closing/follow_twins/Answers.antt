use Rattle.std.proofs.Common.{◌≡◌, ◌<◌, ◌+◌, length, arith, inl, inr}
use Rattle.std.specs.Prelude.{slice_index}
use Rattle.basic_solver.specs.Names.{weight, IsFollowed}
use Rattle.basic_solver.specs.Twins.{FollowTwins}
use Rattle.basic_solver.proofs.Naming.{told_step, told_weaker}
use Rattle.basic_solver.proofs.Following.{stands_at, followed_same}
use Rattle.basic_solver.proofs.Noticed.{followed_more}
use Rattle.basic_solver.proofs.closing.follow_twins.Goals as goal
use Rattle.basic_solver.proofs.closing.follow_twins.Goals.{then-follow, else-follow}

pub loop-i-preserved : goal.loop-i-preserved
loop-i-preserved c =
    let atoms = c.args.atoms.now in
    let twins = c.args.twins.now in
    let i = c.loop-i.i in
    let atom = c.get.result.now in
    let other = c.get-in-loop-i.result.now in
    let old = c.args.names.now.items in
    let mid = c.loop-i.names.items in
    let new = c.follow.new.names.items in
    record {
      naming = c.follow.ensures.naming;
      sound = λ sound. c.follow.ensures.sound atoms (stands_at atoms i atom c.get.ensures) (stands_at atoms (slice_index twins i) other c.get-in-loop-i.ensures)
          (c.loop-i.invariant.sound sound);
      told = told_step c.args.leads.now old mid new c.loop-i.changed c.follow.result c.if-follow.changed
          (FollowTwins old twins atoms i) (IsFollowed mid atom other) (FollowTwins old twins atoms (i + 1))
          c.loop-i.invariant.told c.follow.ensures.told
          (elim c.if-follow.branch [ then-follow w ↦ inl (w.if-follow.true, w.changed-is) | else-follow w ↦ inr (w.if-follow.false, w.changed-is) ])
          (λ same before here. followed_more old twins atoms i atom other c.get.ensures c.get-in-loop-i.ensures before (followed_same mid old atom other same here));
    }

pub returns-clause-told : goal.returns-clause-told
returns-clause-told c = told_weaker c.loop-i.changed (weight c.args.leads.now c.loop-i.names.items < weight c.args.leads.now c.args.names.now.items) (c.loop-i.names.items ≡ c.args.names.now.items)
    (FollowTwins c.args.names.now.items c.args.twins.now c.args.atoms.now c.loop-i.i) (FollowTwins c.args.names.now.items c.args.twins.now c.args.atoms.now (length c.args.atoms.now))
    c.loop-i.invariant.told (λ all k a b w. all k a b (omega (arith, w, c.loop-i-test.false, c.len-i-end.ensures)))
