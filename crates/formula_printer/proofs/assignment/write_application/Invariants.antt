use Rattle.std.proofs.Common.{◌≡◌, ◌++◌, take}
use Rattle.std.specs.Prelude.{string_bytes, map}
use Rattle.formula_ast.specs.declared.term.Term.TheVariants as term
use Rattle.formula_printer.specs.Writing.{written_terms}
use Rattle.formula_printer.proofs.Layers.{opened}
use Rattle.formula_printer.proofs.assignment.write_application.Given as goal

abbrev pub invariant-loop-i : goal.invariant-loop-i
invariant-loop-i l =
    string_bytes l.out ≡ string_bytes l.initial.out ++ opened (written_terms l.sig l.names (take l.i (map (λ child. term.Var child) l.node.children)))
