-- What is written in between.
use Rattle.std.specs.Prelude.{ℕ, ◌==◌, [], ◌∷◌, ◌++◌, codes, if◌then◌else◌}
use Rattle.formula_grammar.specs.Written as grammar
use Rattle.formula_grammar.specs.Written.{Text, WrittenFormula, quantified}
use Rattle.formula_printer.specs.declared.formula.Quantifier.{Quantifier}
use Rattle.formula_printer.specs.declared.formula.Quantifier.TheVariants.{Exists, Forall}
use Rattle.formula_printer.specs.Texts.{names_text, text_of}

-- what stands before an item, given its place: one of these
abbrev pub before : Text → Text → ℕ → Text
before first later i = if i == 0 then first else later

abbrev pub quantifier_of : Quantifier → grammar.Quantifier
quantifier_of Exists = grammar.exists
quantifier_of Forall = grammar.forall

-- what stands behind the word of a quantifier
abbrev pub behind_quantifier : WrittenFormula → Text
behind_quantifier (quantified q x xs f) = names_text (x ∷ xs) ++ codes ": " ++ text_of f
behind_quantifier f = []
