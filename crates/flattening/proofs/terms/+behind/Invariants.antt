use Rattle.std.proofs.Common.{◌≡◌, ◌+◌, drop}
use Rattle.formula_ast.specs.Terms.{list_of}
use Rattle.flattening.specs.Plain.{terms_of}
use Rattle.flattening.specs.Flattening.{wides}
use Rattle.flattening.proofs.terms.+behind.Given as goal

abbrev pub invariant-behind_terms-loop-term : goal.invariant-behind_terms-loop-term
invariant-behind_terms-loop-term l = l.after + wides (terms_of (drop l.term-index (list_of l.terms))) ≡ l.next + wides (terms_of (list_of l.terms))
