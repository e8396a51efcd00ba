use Rattle.std.proofs.Common.{◌≡◌, ◌+◌, ◌++◌, drop}
use Rattle.formula_ast.specs.Terms.{list_of}
use Rattle.flattening.specs.Plain.{terms_of}
use Rattle.flattening.specs.Numbers.{number_by}
use Rattle.flattening.specs.Flattening.{wholes, wides}
use Rattle.flattening.proofs.terms.add_wholes.Given as goal

abbrev pub invariant-loop-term : goal.invariant-loop-term
invariant-loop-term l =
    (l.basic ++ wholes (number_by l.given) l.after (terms_of (drop l.term-index (list_of l.terms)))
    ≡ l.initial.basic ++ wholes (number_by l.given) l.next (terms_of (list_of l.terms)))
    × (l.after + wides (terms_of (drop l.term-index (list_of l.terms))) ≡ l.next + wides (terms_of (list_of l.terms)))
