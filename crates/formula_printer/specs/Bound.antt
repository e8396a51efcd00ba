-- The names of bound variables, and formulas that bind and join them.
use Rattle.std.specs.Prelude.{ℕ, ◌+◌, not, List, [], ◌∷◌, length, map, filter, take}
use Rattle.std.specs.List.{range_with_len}
use Rattle.formula_ast.specs.Forms as form
use Rattle.formula_ast.specs.Forms.{Form}
use Rattle.formula_grammar.specs.Written.{Text, Joint, and, or}
use Rattle.formula_grammar.specs.Checks.{is_among}
use Rattle.formula_grammar.specs.Meaning.{joint_form, behind}
use Rattle.formula_printer.specs.Numerals.{numeral}

-- ---- names

-- `V` and a number
abbrev pub counted : ℕ → Text
counted k = 86 ∷ numeral k

-- those of the first k names `V0`, `V1`, and so on that are not among these names
abbrev pub fresh_names : List Text → ℕ → List Text
fresh_names names k = filter (λ x. not (is_among x names)) (map counted (range_with_len 0 k))

-- the first n of all that are not: at most one for each of these names is left out
abbrev pub bound_names : List Text → ℕ → List Text
bound_names names n = take n (fresh_names names (n + length names))

-- ---- formulas

-- formulas joined one after another, which associate to the left
abbrev pub chained : Joint → Form → List Form → Form
chained j f [] = f
chained j f (g ∷ gs) = chained j (joint_form j f g) gs

abbrev pub conjunction : List Form → Form
conjunction [] = form.always
conjunction (f ∷ fs) = chained and f fs

abbrev pub disjunction : List Form → Form
disjunction [] = form.never
disjunction (f ∷ fs) = chained or f fs

-- behind quantifiers for n variables, of which the first has a number
abbrev pub exist : ℕ → ℕ → Form → Form
exist i n f = behind form.exists (range_with_len i n) f
