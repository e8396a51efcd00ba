-- The words in what is written are of their kinds: names are names, and variables are variables.
use Rattle.std.proofs.Common.{◌≡◌, List, [], ◌∷◌, ◌++◌, Some, refl}
use Rattle.formula_ast.specs.declared.token.TokenKind.TheVariants as k
use Rattle.formula_ast.specs.Tokens.{Word, kind_of}
use Rattle.formula_grammar.specs.Written.{Text, WrittenTerm, variable, headed, WrittenTerms, no_terms, one_more, WrittenFormula, truth, finite, win, compared, call, no, group, joined, quantified, Declaration, Said, symbols, predicate, question}
use Rattle.formula_grammar.specs.Words.{mark, sign, comparer_kind, term_words, arguments_words, more_words, variables_words, formula_words, declarations_words, more_parameters_words, parameters_words, said_words, statements_words, WrittenStatement}
use Rattle.formula_grammar.specs.Meaning.{variables_of, all_variables_of, variables_in}
use Rattle.formula_grammar.proofs.WordKinds.{AreOfKinds}

abbrev pub IsName : Text → Type 0
IsName text = kind_of text ≡ Some k.Name

abbrev pub IsVariable : Text → Type 0
IsVariable text = kind_of text ≡ Some k.Variable

abbrev pub AreVariables : List Text → Type 0
AreVariables [] = Unit {0}
AreVariables (x ∷ xs) = IsVariable x × AreVariables xs

pub join : (xs ys : List Text) → AreVariables xs → AreVariables ys → AreVariables (xs ++ ys)
join [] ys a b = b
join (x ∷ xs) ys a b = (a.0, join xs ys a.1 b)

abbrev pub AreNames : List Declaration → Type 0
AreNames [] = Unit {0}
AreNames (d ∷ ds) = IsName d.name × AreNames ds

-- the names and the variables of a statement are as they are written
abbrev pub IsWorded : Said → Type 0
IsWorded (symbols d ds) = AreNames (d ∷ ds)
IsWorded (predicate p xs f) = IsName p × AreVariables xs × AreVariables (variables_in f)
IsWorded (question f) = AreVariables (variables_in f)

abbrev pub AreWorded : List WrittenStatement → Type 0
AreWorded [] = Unit {0}
AreWorded (s ∷ ss) = IsWorded s.said × AreWorded ss

mutual
  term_worded : (t : WrittenTerm) (ws : List Word) → AreOfKinds (term_words t ws) → AreVariables (variables_of t) × AreOfKinds ws
  term_worded (variable x) ws a = ((a.0 refl, tt), a.1)
  term_worded (headed h ts) ws a = arguments_worded ts ws a.1

  arguments_worded : (ts : WrittenTerms) (ws : List Word) → AreOfKinds (arguments_words ts ws) → AreVariables (all_variables_of ts) × AreOfKinds ws
  arguments_worded no_terms ws a = (tt, a)
  arguments_worded (one_more t ts) ws a =
      let b = term_worded t (more_words ts (mark k.RightParen ∷ ws)) a.1 in
      let c = more_worded ts (mark k.RightParen ∷ ws) b.1 in
      (join (variables_of t) (all_variables_of ts) b.0 c.0, c.1.1)

  more_worded : (ts : WrittenTerms) (ws : List Word) → AreOfKinds (more_words ts ws) → AreVariables (all_variables_of ts) × AreOfKinds ws
  more_worded no_terms ws a = (tt, a)
  more_worded (one_more t ts) ws a =
      let b = term_worded t (more_words ts ws) a.1 in
      let c = more_worded ts ws b.1 in
      (join (variables_of t) (all_variables_of ts) b.0 c.0, c.1)

variables_worded : (xs : List Text) (ws : List Word) → AreOfKinds (variables_words xs ws) → AreVariables xs × AreOfKinds ws
variables_worded [] ws a = (tt, a)
variables_worded (x ∷ xs) ws a = let b = variables_worded xs ws a.1 in ((a.0 refl, b.0), b.1)

pub formula_worded : (f : WrittenFormula) (ws : List Word) → AreOfKinds (formula_words f ws) → AreVariables (variables_in f) × AreOfKinds ws
formula_worded (truth b) ws a = (tt, a.1)
formula_worded (finite t) ws a = let b = term_worded t (mark k.RightParen ∷ ws) a.1.1 in (b.0, b.1.1)
formula_worded (win p n t) ws a = let b = term_worded t (mark k.RightParen ∷ ws) a.1.1.1.1.1.1 in (b.0, b.1.1)
formula_worded (compared r t u) ws a =
    let b = term_worded t (mark (comparer_kind r) ∷ term_words u ws) a in
    let c = term_worded u ws b.1.1 in
    (join (variables_of t) (variables_of u) b.0 c.0, c.1)
formula_worded (call p ts) ws a = arguments_worded ts ws a.1
formula_worded (no f) ws a = formula_worded f ws a.1
formula_worded (group f) ws a = let b = formula_worded f (mark k.RightParen ∷ ws) a.1 in (b.0, b.1.1)
formula_worded (joined j f g) ws a =
    let b = formula_worded f (mark (sign j) ∷ formula_words g ws) a in
    let c = formula_worded g ws b.1.1 in
    (join (variables_in f) (variables_in g) b.0 c.0, c.1)
formula_worded (quantified q x xs f) ws a =
    let b = variables_worded (x ∷ xs) (mark k.Colon ∷ formula_words f ws) a.1 in
    let c = formula_worded f ws b.1.1 in
    (join (x ∷ xs) (variables_in f) b.0 c.0, c.1)

-- ---- statements

declarations_worded : (ds : List Declaration) (ws : List Word) → AreOfKinds (declarations_words ds ws) → AreNames ds × AreOfKinds ws
declarations_worded [] ws a = (tt, a)
declarations_worded (d ∷ ds) ws a = let b = declarations_worded ds ws a.1.1.1.1 in ((a.1.0 refl, b.0), b.1)

more_parameters_worded : (xs : List Text) (ws : List Word) → AreOfKinds (more_parameters_words xs ws) → AreVariables xs × AreOfKinds ws
more_parameters_worded [] ws a = (tt, a)
more_parameters_worded (x ∷ xs) ws a = let b = more_parameters_worded xs ws a.1.1 in ((a.1.0 refl, b.0), b.1)

parameters_worded : (xs : List Text) (ws : List Word) → AreOfKinds (parameters_words xs ws) → AreVariables xs × AreOfKinds ws
parameters_worded [] ws a = (tt, a)
parameters_worded (x ∷ xs) ws a =
    let b = more_parameters_worded xs (mark k.RightParen ∷ ws) a.1.1 in ((a.1.0 refl, b.0), b.1.1)

said_worded : (said : Said) (ws : List Word) → AreOfKinds (said_words said ws) → IsWorded said × AreOfKinds ws
said_worded (symbols d ds) ws a =
    let b = declarations_worded ds (mark k.Stop ∷ ws) a.1.1.1 in ((a.0 refl, b.0), b.1.1)
said_worded (predicate p xs f) ws a =
    let b = parameters_worded xs (mark k.Define ∷ formula_words f (mark k.Stop ∷ ws)) a.1 in
    let c = formula_worded f (mark k.Stop ∷ ws) b.1.1 in
    ((a.0 refl, b.0, c.0), c.1.1)
said_worded (question f) ws a = let b = formula_worded f (mark k.Stop ∷ ws) a in (b.0, b.1.1)

-- the words of a file that is written are as they are written
pub statements_worded : (ss : List WrittenStatement) → AreOfKinds (statements_words ss []) → AreWorded ss
statements_worded [] a = tt
statements_worded (s ∷ ss) a =
    let b = said_worded s.said (statements_words ss []) a.1 in (b.0, statements_worded ss b.1)
