use Rattle.std.proofs.Common.{◌≡◌, ◌++◌, take}
use Rattle.std.specs.Prelude.{string_bytes}
use Rattle.formula_ast.specs.Terms.{list_of}
use Rattle.formula_printer.specs.Writing.{written_terms}
use Rattle.formula_printer.proofs.Layers.{opened}
use Rattle.formula_printer.proofs.terms.+term.Given as goal

abbrev pub invariant-write_arguments-loop-i : goal.invariant-write_arguments-loop-i
invariant-write_arguments-loop-i l =
    string_bytes l.out ≡ string_bytes l.initial.out ++ opened (written_terms l.sig l.names (take l.i (list_of l.ts)))
