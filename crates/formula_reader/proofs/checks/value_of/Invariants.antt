use Rattle.std.proofs.Common.{◌≡◌, ◌≤◌, drop}
use Rattle.formula_grammar.specs.Checks.{value_from, value_of}
use Rattle.formula_reader.proofs.checks.value_of.Given as goal

abbrev pub invariant-loop-digit : goal.invariant-loop-digit
invariant-loop-digit l = record {
  value : value_from l.value (drop l.digit-index l.digits) ≡ value_of l.digits;
  few : l.value ≤ 18446744073709551615;
}
