use Rattle.std.proofs.Common.{List, ◌<◌, ◌≡◌, length, get_or, arith, ap, subst, ◌∙◌}
use Rattle.flat_form.specs.declared.atom.Flat.{Flat}
use Rattle.reachability.proofs.Sorting.{left_next}
use Rattle.reachability.proofs.splitting.left_sides.Goals as goal

pub loop-atom-preserved : goal.loop-atom-preserved
loop-atom-preserved c =
    let atoms = c.args.atoms.now in
    let i = c.loop-atom.atom-index in
    let atom = c.atom-item.result in
    let within : i < length atoms = omega (arith, ap length c.as_slice-atom-items.ensures) in
    let is : atom ≡ get_or atoms i atom = subst (λ (z : List Flat). c.atom-item.result ≡ get_or z i c.atom-item.result) c.as_slice-atom-items.ensures c.atom-item.is in
    record {
      size = c.mark_left.ensures.size ∙ c.loop-atom.invariant.size;
      left = left_next atoms i atom c.loop-atom.flags.items c.mark_left.new.flags.items within is c.mark_left.ensures.left c.loop-atom.invariant.left;
    }
