-- What a reading call reads.
use Rattle.std.specs.Prelude.{◌≡◌, ◌≤◌, ◌<◌, ℕ, suc, List, [], ◌∷◌, ◌++◌, Result, MatchResult}
use Rattle.tree_model.specs.Signatures.{Signature}
use Rattle.formula_ast.specs.Forms.{form_of}
use Rattle.formula_ast.specs.Terms.{list_of}
use Rattle.formula_ast.specs.Tokens.{Word}
use Rattle.formula_ast.specs.declared.token.TokenKind.TheVariants as k
use Rattle.formula_ast.specs.declared.term.Term.{Term}
use Rattle.formula_ast.specs.declared.term.Terms.{Terms}
use Rattle.formula_ast.specs.declared.file.File.{File}
use Rattle.formula_ast.specs.declared.formula.Formula.{Formula}
use Rattle.formula_grammar.specs.Written.{Text, Head, headed, WrittenTerm, WrittenTerms, Joint, Quantifier, Comparer, WrittenFormula, quantified, Declaration}
use Rattle.formula_grammar.specs.Words.{mark, word, sign, comparer_kind, term_words, arguments_words, variables_words, formula_words, declaration_words, parameters_words, WrittenStatement, statement_words}
use Rattle.formula_grammar.specs.Grammar.{level, right, IsLevelled, files, IsStatementOf}
use Rattle.formula_grammar.specs.Machine as m
use Rattle.formula_grammar.specs.Machine.{Symbol, Stack}
use Rattle.formula_grammar.specs.Names.{symbol_entry}
use Rattle.formula_grammar.specs.Meaning.{variables_of, all_variables_of, variables_in, place_in, IsTerm, AreTerms, Stands, Makes}
use Rattle.formula_grammar.specs.Checks.{value_of}
use Rattle.formula_reader.specs.declared.error.ReadError.{ReadError}
use Rattle.formula_reader.specs.declared.place.Place.{Place}
use Rattle.formula_reader.specs.declared.parsed.Comparer.{Comparer as ComparerRead}
use Rattle.formula_reader.specs.Input.{Input, added, words_left, place_of}
use Rattle.formula_reader.specs.Kinds.{comparer_of}
use Rattle.formula_reader.specs.Faults.{fault_of, RefusesAt, TakesWord, KeepsNames}

-- ---- a part of a formula

-- where what is written has these words and these variables, and means such a value
module _ {W A : Type 0} (words : W → List Word → List Word) (variables : W → List Text)
    (Is : Signature → List Text → W → A → Type 0) where
  -- It is written in the text between two places; the names of its variables were added; and the value is what is written,
  -- whatever names are added later.
  pub record IsRead (σ : Signature) (old new : Input) (value : A) : Type 0 where
    pub written : W
    pub text : words_left old ≡ words written (words_left new)
    pub scope : new.scope ≡ added old.scope (variables written)
    pub is : (more : List Text) → Is σ (new.scope.names ++ more) written value
    pub bytes : new.bytes ≡ old.bytes
    pub on : old.at ≤ new.at

  -- and a symbol expects it, whatever is expected behind it
  pub record Reads (x : Symbol) (σ : Signature) (old new : Input) (value : A) : Type 0 where
    pub faults : (s : Stack) → fault_of σ old (x ∷ s) ≡ fault_of σ new s
    pub read : IsRead σ old new value

  -- the call reads what this symbol expects, or answers the first fault
  abbrev pub Parses : Symbol → Result A ReadError → Signature → Input → Input → Type 0
  Parses x result σ old new = MatchResult result (λ value. Reads x σ old new value) (λ e. RefusesAt x σ old e)

abbrev pub ParsesTerm : Place → Result Term ReadError → Signature → Input → Input → Type 0
ParsesTerm p result σ old new = Parses term_words variables_of IsTerm (m.term (place_of old p)) result σ old new

abbrev pub AreArguments : Signature → List Text → WrittenTerms → Terms → Type 0
AreArguments σ names ws ts = AreTerms σ names ws (list_of ts)

-- the arguments of a head, or nothing
abbrev pub ParsesArguments : Head → Place → Result Terms ReadError → Signature → Input → Input → Type 0
ParsesArguments h p result σ old new =
    Parses arguments_words all_variables_of AreArguments (m.arguments h (place_of old p)) result σ old new

-- the term that has this head, where the head was read
abbrev pub IsHeaded : Head → Signature → List Text → WrittenTerms → Term → Type 0
IsHeaded h σ names ws t = IsTerm σ names (headed h ws) t

abbrev pub ParsesHeaded : Head → Place → Result Term ReadError → Signature → Input → Input → Type 0
ParsesHeaded h p result σ old new =
    Parses arguments_words all_variables_of (IsHeaded h) (m.arguments h (place_of old p)) result σ old new

-- the formula is the one that is written, and of at least this level
pub record IsOperand (n : ℕ) (σ : Signature) (names : List Text) (w : WrittenFormula) (f : Formula) : Type 0 where
  pub strong : n ≤ level w
  pub levelled : IsLevelled w
  pub stands : Stands σ names w (form_of f)

abbrev pub ParsesOperand : ℕ → Place → Result Formula ReadError → Signature → Input → Input → Type 0
ParsesOperand n p result σ old new = Parses formula_words variables_in (IsOperand n) (m.operand n (place_of old p)) result σ old new

-- a comparison's sign and its right side
pub record Comparison : Type 0 where
  pub comparer : Comparer
  pub right : WrittenTerm

abbrev pub comparison_words : Comparison → List Word → List Word
comparison_words w ws = mark (comparer_kind w.comparer) ∷ term_words w.right ws

abbrev pub comparison_variables : Comparison → List Text
comparison_variables w = variables_of w.right

abbrev pub IsComparison : Signature → List Text → Comparison → ComparerRead × Term → Type 0
IsComparison σ names w read = (comparer_of read.0 ≡ w.comparer) × IsTerm σ names w.right read.1

abbrev pub ParsesComparison : Place → Result (ComparerRead × Term) ReadError → Signature → Input → Input → Type 0
ParsesComparison p result σ old new =
    Parses comparison_words comparison_variables IsComparison (m.comparison (place_of old p)) result σ old new

-- what a quantifier has behind it: its first variable, the others, and the body
pub record Bound : Type 0 where
  pub first : Text
  pub more : List Text
  pub body : WrittenFormula

abbrev pub bound_words : Bound → List Word → List Word
bound_words b ws = word k.Variable b.first ∷ variables_words b.more (mark k.Colon ∷ formula_words b.body ws)

abbrev pub bound_variables : Bound → List Text
bound_variables b = b.first ∷ b.more ++ variables_in b.body

abbrev pub IsQuantified : Quantifier → Signature → List Text → Bound → Formula → Type 0
IsQuantified q σ names b f = IsOperand 5 σ names (quantified q b.first b.more b.body) f

abbrev pub ParsesQuantified : Quantifier → Place → Result Formula ReadError → Signature → Input → Input → Type 0
ParsesQuantified q p result σ old new =
    Parses bound_words bound_variables (IsQuantified q) (m.bound_variable (place_of old p)) result σ old new

-- a parenthesis was read, behind which the reader is one nesting deeper
pub record TakesParen (p : Place) (σ : Signature) (old new : Input) (inner : Place) : Type 0 where
  pub word_is : TakesWord (m.opening_paren (place_of old p)) (mark k.LeftParen) σ old new
  pub inner_is : inner ≡ record p { depth = suc p.depth }
  pub depth : inner.depth ≤ 200

-- the first argument of `win` was read, with the predicate's place, and the second, with its value
pub record TakesGame (σ : Signature) (old new : Input) (place : ℕ) : Type 0 where
  pub name : Text
  pub word_is : TakesWord (m.one k.Name (λ p. m.plays p ∷ [])) (word k.Name name) σ old new
  pub is : place ≡ place_in σ name

pub record TakesMoves (σ : Signature) (old new : Input) (moves : ℕ) : Type 0 where
  pub digits : Text
  pub word_is : TakesWord (m.one k.Number (λ n. m.counts n ∷ [])) (word k.Number digits) σ old new
  pub is : moves ≡ value_of digits

-- the sign of a joint was read, and its right side is expected here
pub record ReadsSign (j : Joint) (p : Place) (σ : Signature) (old new : Input) (inner : Place) : Type 0 where
  pub faults : (s : Stack) → fault_of σ old (m.tail j (place_of old p) ∷ s)
      ≡ fault_of σ new (m.operand (right j) (place_of new inner) ∷ m.again j (place_of old p) ++ s)
  pub text : words_left old ≡ mark (sign j) ∷ words_left new
  pub keeps : KeepsNames old new
  pub bytes : new.bytes ≡ old.bytes
  pub on : old.at < new.at
  pub depth : inner.depth ≤ 200

-- ---- statements

-- a declaration was read, and its symbol declared
pub record ReadsDeclaration (old new : Input) (σ τ : Signature) : Type 0 where
  pub declaration : Declaration
  pub faults : (s : Stack) → fault_of σ old (m.declaration ∷ s) ≡ fault_of τ new s
  pub text : words_left old ≡ declaration_words declaration (words_left new)
  pub declared : τ ≡ σ ++ symbol_entry declaration ∷ []
  pub bytes : new.bytes ≡ old.bytes
  pub on : old.at < new.at

-- a parameter was read behind those that are bound, and its name added
pub record ReadsParameter (σ : Signature) (old new : Input) : Type 0 where
  pub parameter : Text
  pub faults : (p : Text) (s : Stack) → fault_of σ old (m.parameter p old.scope.bound ∷ s)
      ≡ fault_of σ new (m.more_parameters p (old.scope.bound ++ parameter ∷ []) ∷ s)
  pub text : words_left old ≡ word k.Variable parameter ∷ words_left new
  pub scope : new.scope ≡ record { names = old.scope.names ++ parameter ∷ []; bound = old.scope.bound ++ parameter ∷ [] }
  pub bytes : new.bytes ≡ old.bytes
  pub on : old.at < new.at

-- the parameters of a predicate and its `:=` were read
pub record ReadsParameters (σ : Signature) (old new : Input) : Type 0 where
  pub parameters : List Text
  pub faults : (p : Text) (s : Stack) → fault_of σ old (m.header p ∷ s) ≡ fault_of σ new (m.defined p parameters ++ s)
  pub text : words_left old ≡ parameters_words parameters (mark k.Define ∷ words_left new)
  pub scope : new.scope ≡ record { names = parameters; bound = parameters }
  pub bytes : new.bytes ≡ old.bytes
  pub on : old.at < new.at

-- a statement was read, and added to the file
pub record ReadsStatement (old new : Input) (old_file new_file : File) : Type 0 where
  pub written : WrittenStatement
  pub faults : (s : Stack) → fault_of old_file.signature old (m.statements files ∷ s) ≡ fault_of new_file.signature new (m.statements files ∷ s)
  pub text : words_left old ≡ statement_words written (words_left new)
  pub opens : IsStatementOf files written
  pub makes : (whole : File) (more : List WrittenStatement) → Makes whole new_file.signature new_file.preds new_file.solves more
      → Makes whole old_file.signature old_file.preds old_file.solves (written ∷ more)
  pub bytes : new.bytes ≡ old.bytes
  pub on : old.at < new.at

-- the call reads a statement, or answers the first fault
abbrev pub ParsesStatement : Result (Unit {0}) ReadError → Input → Input → File → File → Type 0
ParsesStatement result old new old_file new_file =
    MatchResult result (λ _. ReadsStatement old new old_file new_file) (λ e. RefusesAt (m.statements files) old_file.signature old e)
