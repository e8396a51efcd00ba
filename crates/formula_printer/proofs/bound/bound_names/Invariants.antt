use Rattle.std.proofs.Common.{◌≡◌, take}
use Rattle.formula_printer.specs.Bound.{fresh_names}
use Rattle.formula_printer.proofs.bound.bound_names.Given as goal

abbrev pub invariant-loop-k : goal.invariant-loop-k
invariant-loop-k l = l.found ≡ take l.n (fresh_names l.names l.k)
