use Rattle.std.proofs.Common.{◌≡◌, take}
use Rattle.std.specs.Prelude.{flat_map}
use Rattle.formula_ast.specs.Collecting.{Collects, without_all}
use Rattle.formula_ast.specs.Occurrences.{variables_in}
use Rattle.formula_ast.specs.Terms.{list_of}
use Rattle.formula_ast.proofs.free.Free.+free.Given as goal

abbrev pub invariant-terms-loop-t : goal.invariant-terms-loop-t
invariant-terms-loop-t l = record {
  bound : l.self.bound.items ≡ l.initial.self.bound.items;
  met : Collects l.initial.self.met l.self.met (without_all l.initial.self.bound.items (flat_map variables_in (take l.t-index (list_of l.ts))));
}
