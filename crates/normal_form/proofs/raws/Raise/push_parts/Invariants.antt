use Rattle.std.proofs.Common.{◌≡◌, ◌++◌, map, take}
use Rattle.flat_form.specs.Orders.{renumbered_part}
use Rattle.flat_form.specs.Raws.{raised}
use Rattle.normal_form.proofs.raws.Raise.push_parts.Given as goal

abbrev pub invariant-loop-part : goal.invariant-loop-part
invariant-loop-part l = l.list ≡ l.fn.list ++ map (renumbered_part (raised l.self.first l.self.by) 0) (take l.part-index l.parts)
