use Rattle.std.proofs.Common.{List, ℕ, ◌<◌, length, ap, arith, subst}
use Rattle.std.specs.List.{zip}
use Rattle.std.proofs.lemmas.List.{take_all}
use Rattle.std.proofs.lemmas.Option.{get_or_from_slice_get}
use Rattle.tree_model.specs.Comparing.{Adds}
use Rattle.tree_model.proofs.Pairing.{adds_then, zip_more, zip_short}
use Rattle.tree_model.proofs.comparison.Pairs.add_all.Goals as goal

pub loop-i-preserved : goal.loop-i-preserved
loop-i-preserved c =
    let lefts = c.as_slice-left-items.ensures in
    let within : c.loop-i.i < length c.args.lefts.now = omega (arith, ap (λ (l : List ℕ). length l) lefts) in
    rw (zip_more c.args.lefts.now c.args.rights.now c.loop-i.i c.requires.equal within, get_or_from_slice_get c.args.rights.now c.loop-i.i c.get.result.now 0 c.get.ensures)
    (adds_then c.loop-i.invariant (rw lefts at c.in_ok-add.ensures))

pub returns : goal.returns
returns c =
    let all = ap (λ (l : List ℕ). length l) c.as_slice-left-items.ensures in
    subst (Adds c.args.self.now c.loop-i.self)
    (take_all c.loop-i.i (zip c.args.lefts.now c.args.rights.now) (omega (arith, all, zip_short c.args.lefts.now c.args.rights.now))) c.loop-i.invariant
