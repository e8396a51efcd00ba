use Rattle.std.proofs.Common.{◌≡◌, ◌++◌, take}
use Rattle.formula_printer.proofs.bound.add_copies.Given as goal

abbrev pub invariant-loop-name : goal.invariant-loop-name
invariant-loop-name l = l.found ≡ l.initial.found ++ take l.name-index l.names
