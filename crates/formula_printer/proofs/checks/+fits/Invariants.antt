use Rattle.std.proofs.Common.{take}
use Rattle.std.specs.Prelude.{All}
use Rattle.formula_ast.specs.Terms.{list_of}
use Rattle.formula_printer.specs.Printable.{TermFits}
use Rattle.formula_printer.proofs.checks.+fits.Given as goal

abbrev pub invariant-terms_fit-loop-t : goal.invariant-terms_fit-loop-t
invariant-terms_fit-loop-t l = All (TermFits l.sig l.n) (take l.t-index (list_of l.ts))
