use Rattle.std.proofs.Common.{◌≡◌, ◌++◌}
use Rattle.formula_reader.specs.Scopes.{texts_of}
use Rattle.formula_reader.proofs.variables.Variables.into_names.Given as goal

abbrev pub invariant-loop-text : goal.invariant-loop-text
invariant-loop-text l = l.names ++ texts_of l.text-iterator ≡ l.fn.self.names
