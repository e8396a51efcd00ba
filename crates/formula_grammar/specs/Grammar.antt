-- The grammar: which words are a formula, and which are a file.
use Rattle.std.specs.Prelude.{◌≡◌, ℕ, ◌≤◌, List, [], ◌∷◌, Option, Some}
use Rattle.std.specs.Map.{lookup}
use Rattle.formula_ast.specs.declared.token.TokenKind.TheVariants as k
use Rattle.formula_ast.specs.Tokens.{Word}
use Rattle.formula_grammar.specs.Written.{Joint, and, or, imp, iff, WrittenFormula, no, group, joined, quantified, Said, symbols, predicate, question}
use Rattle.formula_grammar.specs.Words.{mark, same_word, formula_words, WrittenStatement, statements_words}

-- ---- formulas

-- how strongly a joint holds its sides together
abbrev pub strength : Joint → ℕ
strength iff = 1
strength imp = 2
strength or = 3
strength and = 4

-- How strong its left side has to be, and its right side. `&` and `|` associate to the left, `->` to the right, and
-- `<->` to neither.
abbrev pub left : Joint → ℕ
left iff = 2
left imp = 3
left or = 3
left and = 4

abbrev pub right : Joint → ℕ
right iff = 2
right imp = 2
right or = 4
right and = 5

-- how strong a formula is: 5 where nothing is joined outside of parentheses
abbrev pub level : WrittenFormula → ℕ
level (joined j f g) = strength j
level f = 5

-- each operand has the level that its place asks for
abbrev pub IsLevelled : WrittenFormula → Type 0
IsLevelled (no f) = (5 ≤ level f) × IsLevelled f
IsLevelled (group f) = IsLevelled f
IsLevelled (joined j f g) = (left j ≤ level f) × (right j ≤ level g) × IsLevelled f × IsLevelled g
IsLevelled (quantified q x xs f) = (5 ≤ level f) × IsLevelled f
IsLevelled f = Unit {0}

-- the words read as this formula
pub record IsFormula (ws : List Word) (f : WrittenFormula) : Type 0 where
  pub words : formula_words f [] ≡ ws
  pub levelled : IsLevelled f

-- ---- files

-- what a statement does
pub data Manner : Type 0 where
  declares_symbols : Manner
  defines_predicate : Manner
  asks : Manner

abbrev pub manner_of : Said → Manner
manner_of (symbols d ds) = declares_symbols
manner_of (predicate p xs f) = defines_predicate
manner_of (question f) = asks

abbrev pub IsLevelledSaid : Said → Type 0
IsLevelledSaid (symbols d ds) = Unit {0}
IsLevelledSaid (predicate p xs f) = IsLevelled f
IsLevelledSaid (question f) = IsLevelled f

-- a grammar of files: the words with which statements begin, and what each then does
abbrev pub FileGrammar : Type 0
FileGrammar = List (Word × Manner)

abbrev pub files : FileGrammar
files = (mark k.Symbol, declares_symbols) ∷ (mark k.Pred, defines_predicate) ∷ (mark k.Solve, asks) ∷ []

-- what a statement does that begins with this word, if one may
abbrev pub opening : FileGrammar → Word → Option Manner
opening G w = lookup (λ v. same_word w v) G

-- where `G` is the grammar
module _ (G : FileGrammar) where
  -- the statement begins as it may, and its formula is levelled
  pub record IsStatementOf (s : WrittenStatement) : Type 0 where
    pub opened : opening G s.first ≡ Some (manner_of s.said)
    pub levelled : IsLevelledSaid s.said

  abbrev pub AreStatementsOf : List WrittenStatement → Type 0
  AreStatementsOf [] = Unit {0}
  AreStatementsOf (s ∷ ss) = IsStatementOf s × AreStatementsOf ss

  -- the words read as these statements
  pub record IsFileOf (ws : List Word) (ss : List WrittenStatement) : Type 0 where
    pub words : statements_words ss [] ≡ ws
    pub each : AreStatementsOf ss

-- the words read as a file of these statements
abbrev pub IsFile : List Word → List WrittenStatement → Type 0
IsFile = IsFileOf files
