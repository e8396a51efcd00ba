use Rattle.std.proofs.Common.{take}
use Rattle.std.specs.Prelude.{flat_map}
use Rattle.formula_ast.specs.Collecting.{Collects}
use Rattle.formula_ast.specs.Occurrences.{indexes_in}
use Rattle.formula_ast.specs.Terms.{list_of}
use Rattle.formula_ast.proofs.index.+index.Given as goal

abbrev pub invariant-of_terms-loop-t : goal.invariant-of_terms-loop-t
invariant-of_terms-loop-t l = Collects l.initial.met.items l.met.items (flat_map indexes_in (take l.t-index (list_of l.ts)))
