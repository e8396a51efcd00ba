use Rattle.std.proofs.Common.{◌≡◌, ◌++◌, take}
use Rattle.normal_form.proofs.raws.with_part.Given as goal

abbrev pub invariant-loop-atom : goal.invariant-loop-atom
invariant-loop-atom l = l.basic ≡ l.cube.basic ++ take l.atom-index l.part.basic
