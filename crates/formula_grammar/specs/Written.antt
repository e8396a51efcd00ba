-- What a text says by the grammar alone, before its declarations tell what its names stand for.
use Rattle.std.specs.Prelude.{ℕ, Bool, List}

-- a word as its bytes
abbrev pub Text : Type 0
Text = List ℕ

-- what has arguments: a declared name, or a further symbol with the text of its index
pub data Head : Type 0 where
  named : Text → Head
  further : Text → Head

mutual
  pub data WrittenTerm : Type 0 where
    variable : Text → WrittenTerm
    headed : Head → WrittenTerms → WrittenTerm

  pub data WrittenTerms : Type 0 where
    no_terms : WrittenTerms
    one_more : WrittenTerm → WrittenTerms → WrittenTerms

-- what joins two formulas
pub data Joint : Type 0 where
  and : Joint
  or : Joint
  imp : Joint
  iff : Joint

pub data Quantifier : Type 0 where
  exists : Quantifier
  forall : Quantifier

-- what compares two terms
pub data Comparer : Type 0 where
  equals : Comparer
  differs : Comparer

-- a formula; parentheses round it are kept
pub data WrittenFormula : Type 0 where
  truth : Bool → WrittenFormula
  finite : WrittenTerm → WrittenFormula
  -- the predicate, the digits of the number of moves, and the position
  win : Text → Text → WrittenTerm → WrittenFormula
  compared : Comparer → WrittenTerm → WrittenTerm → WrittenFormula
  call : Text → WrittenTerms → WrittenFormula
  no : WrittenFormula → WrittenFormula
  group : WrittenFormula → WrittenFormula
  joined : Joint → WrittenFormula → WrittenFormula → WrittenFormula
  -- the first variable, the others, and the body
  quantified : Quantifier → Text → List Text → WrittenFormula → WrittenFormula

-- a declaration: a name, and the digits of its number of arguments
pub record Declaration : Type 0 where
  pub name : Text
  pub digits : Text

-- what a statement says behind its first word: one declaration and more of them; a predicate with its parameters and its
-- body; or a question
pub data Said : Type 0 where
  symbols : Declaration → List Declaration → Said
  predicate : Text → List Text → WrittenFormula → Said
  question : WrittenFormula → Said
