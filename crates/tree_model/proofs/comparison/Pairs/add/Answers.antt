use Rattle.std.proofs.Common.{arith, refl, sym, ◌*◌, ◌+◌}
use Rattle.std.proofs.lemmas.Nat.{mul-add-lt}
use Rattle.tree_model.proofs.Pairing.{marked, adds_new}
use Rattle.tree_model.proofs.Marking.{one_less}
use Rattle.tree_model.proofs.comparison.Pairs.add.Goals as goal

pub invariant_of-self-2 : goal.invariant_of-self-2
invariant_of-self-2 c =
    let s = c.self.inside in
    rw c.in_ok-push.ensures.items
    (marked s.items.items s.met.items s.height s.width c.args.left c.args.right (rw (← c.self.view_is) at c.requires.left) (rw (← c.self.view_is) at c.requires.right) c.self.invariant)

pub returns : goal.returns
returns c =
    let s = c.self.inside in
    rw (← c.self.view_is)
    (adds_new _ _ (c.args.left, c.args.right) c.in_ok-push.ensures.items (one_less s.met.items (c.args.left * s.width + c.args.right) (omega (arith, mul-add-lt c.args.left s.width c.args.right s.height (rw (← c.self.view_is) at c.requires.left) (rw (← c.self.view_is) at c.requires.right), c.self.invariant.size)) (sym (rw c.if-index.false at c.index.ensures))) refl refl)
