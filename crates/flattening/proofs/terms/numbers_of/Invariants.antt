use Rattle.std.proofs.Common.{◌≡◌, ◌++◌, drop}
use Rattle.formula_ast.specs.Terms.{list_of}
use Rattle.flattening.specs.Plain.{terms_of}
use Rattle.flattening.specs.Numbers.{number_by}
use Rattle.flattening.specs.Flattening.{numbers}
use Rattle.flattening.proofs.terms.numbers_of.Given as goal

abbrev pub invariant-loop-term : goal.invariant-loop-term
invariant-loop-term l =
    l.made ++ numbers (number_by l.given) l.after (terms_of (drop l.term-index (list_of l.terms))) ≡ numbers (number_by l.given) l.next (terms_of (list_of l.terms))
