-- Statements of which each word is of its kind can be read from their text.
use Rattle.std.proofs.Common.{◌≡◌, Bool, true, false, not, cond, ◌&&◌, ◌==◌, List, [], ◌∷◌, Option, Some, None, refl, sym, ap, ap₂, ◌∙◌, rules}
use Rattle.std.specs.Option.{option_or}
use Rattle.std.specs.Str.{bytes_eq}
use Rattle.std.proofs.lemmas.Bool.{eqb-true}
use Rattle.std.proofs.lemmas.Slice.Eq.{bytes_eq-Decides}
use Rattle.std.proofs.lemmas.Slice.Eq.{bytes_eq-Decides}
use denote.Enum.Bare.{same_true}
use Rattle.formula_ast.specs.contracts.token.TokenKind.{the_type}
use Rattle.formula_ast.specs.declared.token.TokenKind.{TokenKind}
use Rattle.formula_ast.specs.declared.token.TokenKind.TheVariants as k
use Rattle.formula_ast.specs.Tokens.{Word, is_number, kind_in, kind_of, kind_by_form, reserved, marks}
use Rattle.formula_grammar.specs.Written.{Text, Head, named, further, WrittenTerm, variable, headed, WrittenTerms, no_terms, one_more, WrittenFormula, truth, finite, win, compared, call, no, group, joined, quantified, Declaration, Said, symbols, predicate, question}
use Rattle.formula_grammar.specs.Words.{mark, has_text, same_word, sign, comparer_kind, term_words, arguments_words, more_words, variables_words, formula_words, declarations_words, more_parameters_words, parameters_words, said_words, statements_words, WrittenStatement}
use Rattle.formula_grammar.specs.Grammar.{Manner, declares_symbols, defines_predicate, asks, manner_of, files, opening, AreStatementsOf}
use Rattle.formula_grammar.proofs.WordKinds.{AreOfKinds}
use Rattle.formula_grammar.proofs.WrittenWords.{AreVariables}
use Rattle.written_files.specs.WrittenLaws.{AreOfTheirKinds}
use Rattle.formula_printer.proofs.Fronts.{listed}
use Rattle.formula_printer.proofs.Printed.{IsIndex, HeadHasWord, TermHasWords, TermsHaveWords, HasWords}
use Rattle.written_files.proofs.Statements.{opening_kind, DeclarationsHaveWords, SaidHasWords, AllCanBeRead}

-- ---- a kind with a text goes by the form of the text

not_listed : (table : List (Text × TokenKind)) (text : Text) (kind : TokenKind) → has_text kind ≡ true → (found : Option TokenKind) → kind_in table text ≡ found
    → ((x : TokenKind) → kind_in table text ≡ Some x → not (has_text x) ≡ true) → (rest : Option TokenKind) → option_or found rest ≡ Some kind → rest ≡ Some kind
not_listed table text kind has None e none rest is = is
not_listed table text kind has (Some x) e none rest is =
    let same : x ≡ kind = cc is in
    let bare : not (has_text x) ≡ true = none x e in
    let bad : false ≡ true = sym (ap not (ap has_text same ∙ has)) ∙ bare in absurd (cc bad)

by_form : (text : Text) (kind : TokenKind) → has_text kind ≡ true → kind_of text ≡ Some kind → kind_by_form text ≡ Some kind
unfolding kind_of
by_form text kind has e =
    not_listed marks text kind has (kind_in marks text) refl (λ x is. listed (λ y. not (has_text y)) marks text x refl is) (kind_by_form text)
    (not_listed reserved text kind has (kind_in reserved text) refl (λ x is. listed (λ y. not (has_text y)) reserved text x refl is) _ e)

-- a text that is a name, a variable, a number or a further symbol by its form
abbrev form : Bool → Bool → Bool → Bool → Option TokenKind
form a b c d = cond a (Some k.Name) (cond b (Some k.Variable) (cond c (Some k.Number) (cond d (Some k.Further) None)))

form_number : (a b c d : Bool) → form a b c d ≡ Some k.Number → c ≡ true
form_number true b c d e = absurd (cc e)
form_number false true c d e = absurd (cc e)
form_number false false true d e = refl
form_number false false false true e = absurd (cc e)
form_number false false false false e = absurd (cc e)

form_further : (a b c d : Bool) → form a b c d ≡ Some k.Further → d ≡ true
form_further true b c d e = absurd (cc e)
form_further false true c d e = absurd (cc e)
form_further false false true d e = absurd (cc e)
form_further false false false true e = refl
form_further false false false false e = absurd (cc e)

number_is : (text : Text) → kind_of text ≡ Some k.Number → is_number text ≡ true
number_is text e = go text (by_form text k.Number refl e) where
  go : (text : Text) → kind_by_form text ≡ Some k.Number → is_number text ≡ true
  go [] h = absurd (cc h)
  go (b ∷ bs) h = form_number _ _ (is_number (b ∷ bs)) _ h

both : (x y : Bool) → (x && y) ≡ true → (x ≡ true) × (y ≡ true)
both true y h = (refl, h)
both false y h = absurd (cc h)

further_is : (text : Text) → kind_of text ≡ Some k.Further → IsIndex text
further_is text e = go text (by_form text k.Further refl e) where
  go : (text : Text) → kind_by_form text ≡ Some k.Further → IsIndex text
  go [] h = absurd (cc h)
  go (b ∷ bs) h =
      let p = both (b == 36) (is_number bs) (form_further _ _ _ ((b == 36) && is_number bs) h) in
      (bs, ap (λ c. c ∷ bs) (eqb-true b 36 p.0), p.1)

-- ---- what is written

head_of_kind : (h : Head) (ts : WrittenTerms) (ws : List Word) → AreOfKinds (term_words (headed h ts) ws) → HeadHasWord h × AreOfKinds (arguments_words ts ws)
head_of_kind (named f) ts ws a = (a.0 refl, a.1)
head_of_kind (further i) ts ws a = (further_is i (a.0 refl), a.1)

mutual
  term_of_kinds : (t : WrittenTerm) (ws : List Word) → AreOfKinds (term_words t ws) → TermHasWords t × AreOfKinds ws
  term_of_kinds (variable x) ws a = (a.0 refl, a.1)
  term_of_kinds (headed h ts) ws a =
      let b = head_of_kind h ts ws a in
      let c = arguments_of_kinds ts ws b.1 in ((b.0, c.0), c.1)

  arguments_of_kinds : (ts : WrittenTerms) (ws : List Word) → AreOfKinds (arguments_words ts ws) → TermsHaveWords ts × AreOfKinds ws
  arguments_of_kinds no_terms ws a = (tt, a)
  arguments_of_kinds (one_more t ts) ws a =
      let b = term_of_kinds t (more_words ts (mark k.RightParen ∷ ws)) a.1 in
      let c = more_of_kinds ts (mark k.RightParen ∷ ws) b.1 in ((b.0, c.0), c.1.1)

  more_of_kinds : (ts : WrittenTerms) (ws : List Word) → AreOfKinds (more_words ts ws) → TermsHaveWords ts × AreOfKinds ws
  more_of_kinds no_terms ws a = (tt, a)
  more_of_kinds (one_more t ts) ws a =
      let b = term_of_kinds t (more_words ts ws) a.1 in
      let c = more_of_kinds ts ws b.1 in ((b.0, c.0), c.1)

variables_of_kinds : (xs : List Text) (ws : List Word) → AreOfKinds (variables_words xs ws) → AreVariables xs × AreOfKinds ws
variables_of_kinds [] ws a = (tt, a)
variables_of_kinds (x ∷ xs) ws a = let b = variables_of_kinds xs ws a.1 in ((a.0 refl, b.0), b.1)

formula_of_kinds : (f : WrittenFormula) (ws : List Word) → AreOfKinds (formula_words f ws) → HasWords f × AreOfKinds ws
formula_of_kinds (truth b) ws a = (tt, a.1)
formula_of_kinds (finite t) ws a = let b = term_of_kinds t (mark k.RightParen ∷ ws) a.1.1 in (b.0, b.1.1)
formula_of_kinds (win p n t) ws a =
    let b = term_of_kinds t (mark k.RightParen ∷ ws) a.1.1.1.1.1.1 in ((a.1.1.0 refl, number_is n (a.1.1.1.1.0 refl), b.0), b.1.1)
formula_of_kinds (compared r t u) ws a =
    let b = term_of_kinds t (mark (comparer_kind r) ∷ term_words u ws) a in
    let c = term_of_kinds u ws b.1.1 in ((b.0, c.0), c.1)
formula_of_kinds (call p ts) ws a = let b = arguments_of_kinds ts ws a.1 in ((a.0 refl, b.0), b.1)
formula_of_kinds (no f) ws a = formula_of_kinds f ws a.1
formula_of_kinds (group f) ws a = let b = formula_of_kinds f (mark k.RightParen ∷ ws) a.1 in (b.0, b.1.1)
formula_of_kinds (joined j f g) ws a =
    let b = formula_of_kinds f (mark (sign j) ∷ formula_words g ws) a in
    let c = formula_of_kinds g ws b.1.1 in ((b.0, c.0), c.1)
formula_of_kinds (quantified q x xs f) ws a =
    let b = variables_of_kinds (x ∷ xs) (mark k.Colon ∷ formula_words f ws) a.1 in
    let c = formula_of_kinds f ws b.1.1 in ((b.0, c.0), c.1)

declarations_of_kinds : (ds : List Declaration) (ws : List Word) → AreOfKinds (declarations_words ds ws) → DeclarationsHaveWords ds × AreOfKinds ws
declarations_of_kinds [] ws a = (tt, a)
declarations_of_kinds (d ∷ ds) ws a =
    let b = declarations_of_kinds ds ws a.1.1.1.1 in ((a.1.0 refl, number_is d.digits (a.1.1.1.0 refl), b.0), b.1)

more_parameters_of_kinds : (xs : List Text) (ws : List Word) → AreOfKinds (more_parameters_words xs ws) → AreVariables xs × AreOfKinds ws
more_parameters_of_kinds [] ws a = (tt, a)
more_parameters_of_kinds (x ∷ xs) ws a = let b = more_parameters_of_kinds xs ws a.1.1 in ((a.1.0 refl, b.0), b.1)

parameters_of_kinds : (xs : List Text) (ws : List Word) → AreOfKinds (parameters_words xs ws) → AreVariables xs × AreOfKinds ws
parameters_of_kinds [] ws a = (tt, a)
parameters_of_kinds (x ∷ xs) ws a =
    let b = more_parameters_of_kinds xs (mark k.RightParen ∷ ws) a.1.1 in ((a.1.0 refl, b.0), b.1.1)

said_of_kinds : (said : Said) (ws : List Word) → AreOfKinds (said_words said ws) → SaidHasWords said × AreOfKinds ws
said_of_kinds (symbols d ds) ws a =
    let b = declarations_of_kinds ds (mark k.Stop ∷ ws) a.1.1.1 in ((a.0 refl, number_is d.digits (a.1.1.0 refl), b.0), b.1.1)
said_of_kinds (predicate p xs f) ws a =
    let b = parameters_of_kinds xs (mark k.Define ∷ formula_words f (mark k.Stop ∷ ws)) a.1 in
    let c = formula_of_kinds f (mark k.Stop ∷ ws) b.1.1 in ((a.0 refl, b.0, c.0), c.1.1)
said_of_kinds (question f) ws a = let b = formula_of_kinds f (mark k.Stop ∷ ws) a in (b.0, b.1.1)

-- ---- the word that begins a statement

same_word_is : (w v : Word) → same_word w v ≡ true → w ≡ v
same_word_is w v e =
    let p = both _ (bytes_eq w.text v.text) e in
    let kinds : w.kind ≡ v.kind = same_true the_type (search rules) w.kind v.kind p.0 in
    let texts : w.text ≡ v.text = (bytes_eq-Decides w.text v.text).0 p.1 in
    ap₂ (λ (kind : TokenKind) (text : Text). record { kind = kind; text = text }) kinds texts

first_is : (w : Word) (m : Manner) → opening files w ≡ Some m → w ≡ mark (opening_kind m)
first_is w m e =
    step (same_word w (mark k.Symbol)) refl (same_word w (mark k.Pred)) refl (same_word w (mark k.Solve)) refl e
  where
    step : (x : Bool) → same_word w (mark k.Symbol) ≡ x → (y : Bool) → same_word w (mark k.Pred) ≡ y → (z : Bool) → same_word w (mark k.Solve) ≡ z
        → cond x (Some declares_symbols) (cond y (Some defines_predicate) (cond z (Some asks) None)) ≡ Some m → w ≡ mark (opening_kind m)
    step true x y y-is z z-is is = let same : declares_symbols ≡ m = cc is in same_word_is w _ x ∙ ap (λ n. mark (opening_kind n)) same
    step false x true y z z-is is = let same : defines_predicate ≡ m = cc is in same_word_is w _ y ∙ ap (λ n. mark (opening_kind n)) same
    step false x false y true z is = let same : asks ≡ m = cc is in same_word_is w _ z ∙ ap (λ n. mark (opening_kind n)) same
    step false x false y false z is = absurd (cc is)

-- ---- statements

as_kinds : (ws : List Word) → AreOfTheirKinds ws → AreOfKinds ws
as_kinds [] a = tt
as_kinds (w ∷ ws) a = (a.0, as_kinds ws a.1)

pub statements_can_be_read : (ss : List WrittenStatement) → AreStatementsOf files ss → AreOfTheirKinds (statements_words ss []) → AllCanBeRead ss
statements_can_be_read ss each a = go ss each (as_kinds (statements_words ss []) a) where
  go : (ss : List WrittenStatement) → AreStatementsOf files ss → AreOfKinds (statements_words ss []) → AllCanBeRead ss
  go [] each a = tt
  go (s ∷ ss) each a =
      let b = said_of_kinds s.said (statements_words ss []) a.1 in
      (record { first = first_is s.first (manner_of s.said) each.0.opened; words = b.0; levelled = each.0.levelled }, go ss each.1 b.1)
