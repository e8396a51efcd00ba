use Rattle.std.proofs.Common.{◌≡◌, map, take}
use Rattle.cube_reduction.specs.Numbers.{number_in, moved_into}
use Rattle.cube_reduction.proofs.numbers.Numbers.of_parts.Given as goal

abbrev pub invariant-loop-part : goal.invariant-loop-part
invariant-loop-part l = l.new ≡ map (moved_into (number_in l.self.table.items l.self.behind) l.more l.moved) (take l.part-index l.fn.parts)
