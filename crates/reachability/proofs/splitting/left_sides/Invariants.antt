use Rattle.std.proofs.Common.{◌≡◌, length, take}
use Rattle.reachability.specs.Splitting.{AreLeft}
use Rattle.reachability.proofs.splitting.left_sides.Given as goal

abbrev pub invariant-loop-atom : goal.invariant-loop-atom
invariant-loop-atom l = record {
  size : length l.flags.items ≡ l.count;
  left : AreLeft (take l.atom-index l.atoms) l.flags.items;
}
