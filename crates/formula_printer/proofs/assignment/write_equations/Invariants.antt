use Rattle.std.proofs.Common.{◌≡◌, ◌++◌, take}
use Rattle.std.specs.Prelude.{codes, string_bytes}
use Rattle.std.specs.List.{join_by}
use Rattle.formula_printer.specs.Assignments.{equations_of}
use Rattle.formula_printer.specs.Texts.{text_of}
use Rattle.formula_printer.specs.Writing.{written}
use Rattle.formula_printer.proofs.assignment.write_equations.Given as goal

abbrev pub invariant-loop-i : goal.invariant-loop-i
invariant-loop-i l = string_bytes l.out ≡ string_bytes l.initial.out ++ join_by (λ f. text_of (written l.sig l.names f)) (codes " & ") (take l.i (equations_of l.a))
