use Rattle.std.proofs.Common.{◌≡◌, take}
use Rattle.flat_form.specs.Normals.{list_of}
use Rattle.flat_form.proofs.normal.+copy.Given as goal

abbrev pub invariant-Normals::copy-loop-item : goal.invariant-Normals::copy-loop-item
invariant-Normals::copy-loop-item l = l.items ≡ take l.item-index (list_of l.self)
