-- A file of so many questions, made from that number.
use Rattle.std.specs.Prelude.{ℕ, zero, suc, List, [], ◌∷◌, ◌++◌, map, codes}
use Rattle.formula_ast.specs.declared.token.TokenKind.TheVariants as k
use Rattle.formula_grammar.specs.Written.{Text, named, WrittenTerm, variable, headed, no_terms, one_more, Joint, and, or, Quantifier, exists, forall, Comparer, equals, differs, WrittenFormula, finite, compared, no, group, joined, quantified, symbols, question}
use Rattle.formula_grammar.specs.Words.{mark, WrittenStatement}
use Rattle.written_files.specs.Files.{statement_text}
use Rattle.generator.specs.Drawing.{Draw, always, made, made_of_two, one_of, times}

-- ---- terms

abbrev pub constant : WrittenTerm
constant = headed (named (codes "a")) no_terms

abbrev pub one_argument : WrittenTerm → WrittenTerm
one_argument t = headed (named (codes "f")) (one_more t no_terms)

abbrev pub two_arguments : WrittenTerm → WrittenTerm → WrittenTerm
two_arguments t u = headed (named (codes "g")) (one_more t (one_more u no_terms))

abbrev pub one_variable : Draw WrittenTerm
one_variable = always (variable (codes "X"))

abbrev pub other_leaves : List (Draw WrittenTerm)
other_leaves = always (variable (codes "Y")) ∷ always (variable (codes "Z")) ∷ always constant ∷ []

-- a variable or the constant
unfoldable pub drawn_leaf : Draw WrittenTerm
drawn_leaf = one_of one_variable other_leaves

-- a symbol over leaves
abbrev pub nodes : List (Draw WrittenTerm)
nodes = made one_argument drawn_leaf ∷ made_of_two two_arguments drawn_leaf drawn_leaf ∷ []

unfoldable pub drawn_term : Draw WrittenTerm
drawn_term = one_of one_variable (other_leaves ++ nodes)

-- ---- formulas

abbrev pub comparison : Comparer → Draw WrittenFormula
comparison r = made_of_two (compared r) drawn_term drawn_term

abbrev pub other_atoms : List (Draw WrittenFormula)
other_atoms = comparison differs ∷ made finite drawn_term ∷ []

unfoldable pub drawn_atom : Draw WrittenFormula
drawn_atom = one_of (comparison equals) other_atoms

abbrev pub other_variables : List (Draw Text)
other_variables = always (codes "Y") ∷ always (codes "Z") ∷ []

unfoldable pub drawn_variable : Draw Text
drawn_variable = one_of (always (codes "X")) other_variables

-- each operand stands in parentheses
abbrev pub negation : WrittenFormula → WrittenFormula
negation f = no (group f)

abbrev pub joint : Joint → WrittenFormula → WrittenFormula → WrittenFormula
joint j f g = joined j (group f) (group g)

abbrev pub quantifier : Quantifier → Text → WrittenFormula → WrittenFormula
quantifier q x f = quantified q x [] (group f)

-- a negation, joint or quantifier over such operands
abbrev pub compounds : Draw WrittenFormula → List (Draw WrittenFormula)
compounds operand = made negation operand
    ∷ made_of_two (joint and) operand operand ∷ made_of_two (joint or) operand operand
    ∷ made_of_two (quantifier exists) drawn_variable operand ∷ made_of_two (quantifier forall) drawn_variable operand ∷ []

-- a formula in which at most so many negations, joints and quantifiers stand within one another
unfoldable pub drawn_formula : ℕ → Draw WrittenFormula
drawn_formula zero = drawn_atom
drawn_formula (suc depth) = one_of drawn_atom (compounds (drawn_formula depth))

-- ---- the file

abbrev pub declares : WrittenStatement
declares = record {
  first = mark k.Symbol;
  said = symbols (record { name = codes "a"; digits = codes "0" })
      (record { name = codes "f"; digits = codes "1" } ∷ record { name = codes "g"; digits = codes "2" } ∷ []);
}

abbrev pub asks : WrittenFormula → WrittenStatement
asks f = record { first = mark k.Solve; said = question f }

abbrev pub question_text : WrittenFormula → Text
question_text f = statement_text (asks f)

-- the first state is the number of questions
unfoldable pub generated : ℕ → List WrittenStatement
generated questions = declares ∷ map asks (times questions (drawn_formula 3) questions).0
