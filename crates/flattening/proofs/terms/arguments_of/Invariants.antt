use Rattle.std.proofs.Common.{◌≡◌, ◌+◌, ◌++◌, drop}
use Rattle.formula_ast.specs.Terms.{list_of}
use Rattle.flattening.specs.Plain.{terms_of}
use Rattle.flattening.specs.Numbers.{number_by}
use Rattle.flattening.specs.Flattening.{arguments, applied}
use Rattle.flattening.proofs.terms.arguments_of.Given as goal

abbrev pub invariant-loop-term : goal.invariant-loop-term
invariant-loop-term l =
    (l.args ++ arguments (number_by l.given) l.after (terms_of (drop l.term-index (list_of l.terms))) ≡ arguments (number_by l.given) l.next (terms_of (list_of l.terms)))
    × (l.after + applied (terms_of (drop l.term-index (list_of l.terms))) ≡ l.next + applied (terms_of (list_of l.terms)))
