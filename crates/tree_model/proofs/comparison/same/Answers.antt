use Rattle.std.proofs.Common.{arith, rules, refl, ◌∙◌}
use Rattle.std.proofs.lemmas.Bool.{false≢true}
use Rattle.tree_model.proofs.Pairing.{begins, one_label_here, compared, all_compared}
use Rattle.tree_model.proofs.comparison.same.Goals.{then-ne-via-then-ne, then-ne-via-else-ne+then-len}
use Rattle.tree_model.proofs.comparison.same.Goals as goal

pub loop-i-init : goal.loop-i-init
loop-i-init c =
    begins c.args.a.now c.args.b.now c.in_ok-pairs.pairs c.add.new.self c.in_ok-pairs.ensures.none
    (rw (← c.root.ensures, ← c.root-2.ensures) c.in_ok-add.ensures)
    (rw (← c.nodes-lefts.ensures.nodes) (c.in_ok-add.ensures.height_kept ∙ c.in_ok-pairs.ensures.height_is))
    (rw (← c.nodes-rights.ensures.nodes) (c.in_ok-add.ensures.width_kept ∙ c.in_ok-pairs.ensures.width_is))

pub returns-then-ne : goal.returns-then-ne
returns-then-ne c = (
  λ wrong. absurd (false≢true wrong),
  λ same.
      let one = one_label_here c.args.a.now c.args.b.now c.loop-i.pairs c.loop-i.i c.loop-i.invariant c.get-x.result c.index-lefts-x.result c.index-rights-y.result (omega arith)
      c.get-x.ensures.pair
      (omega (arith, c.loop-i.invariant.height_is)) (omega (arith, c.loop-i.invariant.width_is))
      (rw (← c.nodes-lefts.ensures.nodes) c.index-lefts-x.is) (rw (← c.nodes-rights.ensures.nodes) c.index-rights-y.is) same in
      elim c.then-ne.branch [ then-ne-via-then-ne w ↦ let h = w.if-ne.ensures in let same_symbol = one.0 in absurd (search rules) | then-ne-via-else-ne+then-len w ↦ let h = w.if-len in absurd (omega (arith, one.1)) ],
)

pub loop-i-preserved : goal.loop-i-preserved
loop-i-preserved c =
    compared c.args.a.now c.args.b.now c.loop-i.pairs c.loop-i.i c.loop-i.invariant c.get-x.result c.index-lefts-x.result c.index-rights-y.result (omega arith)
    c.get-x.ensures.pair
    (omega (arith, c.loop-i.invariant.height_is)) (omega (arith, c.loop-i.invariant.width_is))
    (rw (← c.nodes-lefts.ensures.nodes) c.index-lefts-x.is) (rw (← c.nodes-rights.ensures.nodes) c.index-rights-y.is)
    c.add_all.new.self (search rules) (omega arith) c.in_ok-add_all.ensures

pub returns : goal.returns
returns c = (λ _. all_compared c.args.a.now c.args.b.now c.loop-i.pairs c.loop-i.i (omega arith) c.loop-i.invariant, λ _. refl)
