-- The words of what is written, and then the words behind it.
use Rattle.std.specs.Prelude.{ℕ, Bool, true, false, List, [], ◌∷◌, ◌&&◌, if◌then◌else◌, slice_range}
use Rattle.std.specs.Str.{bytes_eq}
use denote.Enum.Bare.{sameb}
use Rattle.formula_ast.specs.contracts.token.TokenKind.{the_type}
use Rattle.formula_ast.specs.declared.token.Token.{Token}
use Rattle.formula_ast.specs.declared.token.TokenKind.{TokenKind}
use Rattle.formula_ast.specs.declared.token.TokenKind.TheVariants as k
use Rattle.formula_ast.specs.Tokens.{Word}
use Rattle.formula_grammar.specs.Written.{Text, Head, named, further, WrittenTerm, variable, headed, WrittenTerms, no_terms, one_more, Joint, and, or, imp, iff, Quantifier, exists, forall, Comparer, equals, differs, WrittenFormula, truth, finite, win, compared, call, no, group, joined, quantified, Declaration, Said, symbols, predicate, question}

abbrev pub same : TokenKind → TokenKind → Bool
same = sameb the_type

-- the text counts of names, variables, numbers and further symbols
abbrev pub has_text : TokenKind → Bool
has_text k.Name = true
has_text k.Variable = true
has_text k.Number = true
has_text k.Further = true
has_text kind = false

-- a word of this kind, with its text where that counts
abbrev pub word : TokenKind → Text → Word
word kind text = record { kind = kind; text = if has_text kind then text else [] }

-- a token's word, from the bytes that it stands in
abbrev pub word_of : List ℕ → Token → Word
word_of bytes t = word t.kind (slice_range bytes t.from t.to)

abbrev pub mark : TokenKind → Word
mark kind = record { kind = kind; text = [] }

abbrev pub same_word : Word → Word → Bool
same_word w v = same w.kind v.kind && bytes_eq w.text v.text

-- ---- terms

abbrev pub head_word : Head → Word
head_word (named f) = word k.Name f
head_word (further i) = word k.Further i

-- a term, arguments in their parentheses, and further ones behind a comma each
abbrev mutual
  pub term_words : WrittenTerm → List Word → List Word
  term_words (variable x) ws = word k.Variable x ∷ ws
  term_words (headed h ts) ws = head_word h ∷ arguments_words ts ws

  pub arguments_words : WrittenTerms → List Word → List Word
  arguments_words no_terms ws = ws
  arguments_words (one_more t ts) ws = mark k.LeftParen ∷ term_words t (more_words ts (mark k.RightParen ∷ ws))

  pub more_words : WrittenTerms → List Word → List Word
  more_words no_terms ws = ws
  more_words (one_more t ts) ws = mark k.Comma ∷ term_words t (more_words ts ws)

-- ---- formulas

abbrev pub truth_kind : Bool → TokenKind
truth_kind true = k.«True»
truth_kind false = k.«False»

abbrev pub comparer_kind : Comparer → TokenKind
comparer_kind equals = k.Equal
comparer_kind differs = k.Differ

abbrev pub quantifier_kind : Quantifier → TokenKind
quantifier_kind exists = k.«Exists»
quantifier_kind forall = k.Forall

-- the sign of a joint
abbrev pub sign : Joint → TokenKind
sign and = k.Amp
sign or = k.Bar
sign imp = k.Arrow
sign iff = k.DoubleArrow

abbrev pub variables_words : List Text → List Word → List Word
variables_words [] ws = ws
variables_words (x ∷ xs) ws = word k.Variable x ∷ variables_words xs ws

abbrev pub formula_words : WrittenFormula → List Word → List Word
formula_words (truth b) ws = mark (truth_kind b) ∷ ws
formula_words (finite t) ws = mark k.Finite ∷ mark k.LeftParen ∷ term_words t (mark k.RightParen ∷ ws)
formula_words (win p n t) ws =
    mark k.Win ∷ mark k.LeftParen ∷ word k.Name p ∷ mark k.Comma ∷ word k.Number n ∷ mark k.Comma ∷ term_words t (mark k.RightParen ∷ ws)
formula_words (compared r t u) ws = term_words t (mark (comparer_kind r) ∷ term_words u ws)
formula_words (call p ts) ws = word k.Name p ∷ arguments_words ts ws
formula_words (no f) ws = mark k.Tilde ∷ formula_words f ws
formula_words (group f) ws = mark k.LeftParen ∷ formula_words f (mark k.RightParen ∷ ws)
formula_words (joined j f g) ws = formula_words f (mark (sign j) ∷ formula_words g ws)
formula_words (quantified q x xs f) ws =
    mark (quantifier_kind q) ∷ word k.Variable x ∷ variables_words xs (mark k.Colon ∷ formula_words f ws)

-- ---- statements

abbrev pub declaration_words : Declaration → List Word → List Word
declaration_words d ws = word k.Name d.name ∷ mark k.Slash ∷ word k.Number d.digits ∷ ws

abbrev pub declarations_words : List Declaration → List Word → List Word
declarations_words [] ws = ws
declarations_words (d ∷ ds) ws = mark k.Comma ∷ declaration_words d (declarations_words ds ws)

-- parameters in their parentheses, if there are any, and further ones behind a comma each
abbrev pub more_parameters_words : List Text → List Word → List Word
more_parameters_words [] ws = ws
more_parameters_words (x ∷ xs) ws = mark k.Comma ∷ word k.Variable x ∷ more_parameters_words xs ws

abbrev pub parameters_words : List Text → List Word → List Word
parameters_words [] ws = ws
parameters_words (x ∷ xs) ws = mark k.LeftParen ∷ word k.Variable x ∷ more_parameters_words xs (mark k.RightParen ∷ ws)

abbrev pub said_words : Said → List Word → List Word
said_words (symbols d ds) ws = declaration_words d (declarations_words ds (mark k.Stop ∷ ws))
said_words (predicate p xs f) ws = word k.Name p ∷ parameters_words xs (mark k.Define ∷ formula_words f (mark k.Stop ∷ ws))
said_words (question f) ws = formula_words f (mark k.Stop ∷ ws)

-- a statement: its first word, and what it says
pub record WrittenStatement : Type 0 where
  pub first : Word
  pub said : Said

abbrev pub statement_words : WrittenStatement → List Word → List Word
statement_words s ws = s.first ∷ said_words s.said ws

abbrev pub statements_words : List WrittenStatement → List Word → List Word
statements_words [] ws = ws
statements_words (s ∷ ss) ws = statement_words s (statements_words ss ws)
