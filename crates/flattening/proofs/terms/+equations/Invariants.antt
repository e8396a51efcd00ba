use Rattle.std.proofs.Common.{◌≡◌, ◌+◌, ◌++◌, drop}
use Rattle.formula_ast.specs.Terms.{list_of}
use Rattle.flattening.specs.Plain.{terms_of}
use Rattle.flattening.specs.Numbers.{number_by}
use Rattle.flattening.specs.Flattening.{deeper, applied, wides}
use Rattle.flattening.proofs.terms.+equations.Given as goal

abbrev pub invariant-add_deeper-loop-term : goal.invariant-add_deeper-loop-term
invariant-add_deeper-loop-term l =
    (l.basic ++ deeper (number_by l.given) l.left l.after (terms_of (drop l.term-index (list_of l.terms)))
    ≡ l.initial.basic ++ deeper (number_by l.given) l.first l.next (terms_of (list_of l.terms)))
    × (l.after + applied (terms_of (list_of l.terms)) + wides (terms_of (drop l.term-index (list_of l.terms)))
    ≡ l.next + wides (terms_of (list_of l.terms)) + applied (terms_of (drop l.term-index (list_of l.terms))))
