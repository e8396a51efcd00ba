use Rattle.std.proofs.Common.{◌≡◌, false, take}
use Rattle.formula_grammar.specs.Checks as checks
use Rattle.formula_printer.proofs.bound.is_among.Given as goal

abbrev pub invariant-loop-other : goal.invariant-loop-other
invariant-loop-other l = checks.is_among l.name (take l.other-index l.names) ≡ false
