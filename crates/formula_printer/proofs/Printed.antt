-- The words of what is written, and the blanks between them.
use Rattle.std.proofs.Common.{◌≡◌, Bool, true, false, List, [], ◌∷◌, ◌++◌, refl, sym, subst, append_assoc}
use Rattle.std.specs.Prelude.{codes}
use Rattle.formula_ast.specs.declared.token.TokenKind.{TokenKind}
use Rattle.formula_ast.specs.declared.token.TokenKind.TheVariants as k
use Rattle.formula_ast.specs.Tokens.{is_number}
use Rattle.formula_grammar.specs.Written.{Text, Head, named, further, WrittenTerm, variable, headed, WrittenTerms, no_terms, one_more, Joint, and, or, imp, iff, Quantifier, exists, forall, Comparer, equals, differs, WrittenFormula, truth, finite, win, compared, call, no, group, joined, quantified}
use Rattle.formula_grammar.specs.Words.{word, mark, head_word, truth_kind, comparer_kind, quantifier_kind, sign, term_words, arguments_words, more_words, variables_words, formula_words}
use Rattle.formula_grammar.proofs.WrittenWords.{IsName, IsVariable, AreVariables}
use Rattle.formula_printer.specs.Texts.{head_text, term_text, arguments_text, more_text, truth_text, comparer_text, joint_text, quantifier_text, names_text, text_of}
use Rattle.formula_printer.proofs.Fronts.{IsFront, Ends, name_front, variable_front, number_front, further_front, small_front, left_front, right_front, comma_front, amp_front, bar_front, tilde_front, equal_front, colon_front, differ_front, arrow_front, double_front}
use Rattle.formula_printer.proofs.Pieces.{Piece, blank, piece, bytes_of, words_of, AreApart}

abbrev pub left : Piece
left = piece k.LeftParen (codes "(")

abbrev pub right : Piece
right = piece k.RightParen (codes ")")

abbrev pub comma : Piece
comma = piece k.Comma (codes ",")

abbrev colon : Piece
colon = piece k.Colon (codes ":")

abbrev head_kind : Head → TokenKind
head_kind (named f) = k.Name
head_kind (further i) = k.Further

-- a sign with a blank on each side
abbrev pub spaced : TokenKind → Text → List Piece → List Piece
spaced kind text ps = blank ∷ piece kind text ∷ blank ∷ ps

-- the pieces of what is written, before others
abbrev mutual
  pub term_pieces : WrittenTerm → List Piece → List Piece
  term_pieces (variable x) ps = piece k.Variable x ∷ ps
  term_pieces (headed h ts) ps = piece (head_kind h) (head_text h) ∷ arguments_pieces ts ps

  pub arguments_pieces : WrittenTerms → List Piece → List Piece
  arguments_pieces no_terms ps = ps
  arguments_pieces (one_more t ts) ps = left ∷ term_pieces t (more_pieces ts (right ∷ ps))

  pub more_pieces : WrittenTerms → List Piece → List Piece
  more_pieces no_terms ps = ps
  more_pieces (one_more t ts) ps = comma ∷ blank ∷ term_pieces t (more_pieces ts ps)

abbrev pub names_pieces : List Text → List Piece → List Piece
names_pieces [] ps = ps
names_pieces (x ∷ xs) ps = blank ∷ piece k.Variable x ∷ names_pieces xs ps

abbrev pub pieces : WrittenFormula → List Piece → List Piece
pieces (truth b) ps = piece (truth_kind b) (truth_text b) ∷ ps
pieces (finite t) ps = piece k.Finite (codes "finite") ∷ left ∷ term_pieces t (right ∷ ps)
pieces (win p n t) ps = piece k.Win (codes "win") ∷ left ∷ piece k.Name p ∷ comma ∷ blank ∷ piece k.Number n ∷ comma ∷ blank ∷ term_pieces t (right ∷ ps)
pieces (compared r t u) ps = term_pieces t (spaced (comparer_kind r) (comparer_text r) (term_pieces u ps))
pieces (call p ts) ps = piece k.Name p ∷ arguments_pieces ts ps
pieces (no f) ps = piece k.Tilde (codes "~") ∷ pieces f ps
pieces (group f) ps = left ∷ pieces f (right ∷ ps)
pieces (joined j f g) ps = pieces f (spaced (sign j) (joint_text j) (pieces g ps))
pieces (quantified q x xs f) ps = piece (quantifier_kind q) (quantifier_text q) ∷ names_pieces (x ∷ xs) (colon ∷ blank ∷ pieces f ps)

-- ---- their bytes are the text

mutual
  pub term_bytes : (t : WrittenTerm) (ps : List Piece) → bytes_of (term_pieces t ps) ≡ term_text t ++ bytes_of ps
  term_bytes (variable x) ps = refl
  term_bytes (headed h ts) ps = rw (arguments_bytes ts ps) (sym (append_assoc (head_text h) (arguments_text ts) (bytes_of ps)))

  pub arguments_bytes : (ts : WrittenTerms) (ps : List Piece) → bytes_of (arguments_pieces ts ps) ≡ arguments_text ts ++ bytes_of ps
  arguments_bytes no_terms ps = refl
  arguments_bytes (one_more t ts) ps = rw (term_bytes t (more_pieces ts (right ∷ ps)), more_bytes ts (right ∷ ps)) (simp append_assoc)

  pub more_bytes : (ts : WrittenTerms) (ps : List Piece) → bytes_of (more_pieces ts ps) ≡ more_text ts ++ bytes_of ps
  more_bytes no_terms ps = refl
  more_bytes (one_more t ts) ps = rw (term_bytes t (more_pieces ts ps), more_bytes ts ps) (simp append_assoc)

names_bytes : (xs : List Text) (ps : List Piece) → bytes_of (names_pieces xs ps) ≡ names_text xs ++ bytes_of ps
names_bytes [] ps = refl
names_bytes (x ∷ xs) ps = rw (names_bytes xs ps) (simp append_assoc)

pub formula_bytes : (f : WrittenFormula) (ps : List Piece) → bytes_of (pieces f ps) ≡ text_of f ++ bytes_of ps
formula_bytes (truth b) ps = refl
formula_bytes (finite t) ps = rw (term_bytes t (right ∷ ps)) (simp append_assoc)
formula_bytes (win p n t) ps = rw (term_bytes t (right ∷ ps)) (simp append_assoc)
formula_bytes (compared r t u) ps = rw (term_bytes t (spaced (comparer_kind r) (comparer_text r) (term_pieces u ps)), term_bytes u ps) (simp append_assoc)
formula_bytes (call p ts) ps = rw (arguments_bytes ts ps) (simp append_assoc)
formula_bytes (no f) ps = rw (formula_bytes f ps) (simp append_assoc)
formula_bytes (group f) ps = rw (formula_bytes f (right ∷ ps)) (simp append_assoc)
formula_bytes (joined j f g) ps = rw (formula_bytes f (spaced (sign j) (joint_text j) (pieces g ps)), formula_bytes g ps) (simp append_assoc)
formula_bytes (quantified q x xs f) ps = rw (names_bytes xs (colon ∷ blank ∷ pieces f ps), formula_bytes f ps) (simp append_assoc)

-- ---- their words are those of what is written

head_word_is : (h : Head) → word (head_kind h) (head_text h) ≡ head_word h
head_word_is (named f) = refl
head_word_is (further i) = refl

truth_word_is : (b : Bool) → word (truth_kind b) (truth_text b) ≡ mark (truth_kind b)
truth_word_is true = refl
truth_word_is false = refl

comparer_word_is : (r : Comparer) → word (comparer_kind r) (comparer_text r) ≡ mark (comparer_kind r)
comparer_word_is equals = refl
comparer_word_is differs = refl

joint_word_is : (j : Joint) → word (sign j) (joint_text j) ≡ mark (sign j)
joint_word_is and = refl
joint_word_is or = refl
joint_word_is imp = refl
joint_word_is iff = refl

quantifier_word_is : (q : Quantifier) → word (quantifier_kind q) (quantifier_text q) ≡ mark (quantifier_kind q)
quantifier_word_is exists = refl
quantifier_word_is forall = refl

mutual
  term_words_are : (t : WrittenTerm) (ps : List Piece) → words_of (term_pieces t ps) ≡ term_words t (words_of ps)
  term_words_are (variable x) ps = refl
  term_words_are (headed h ts) ps = rw (head_word_is h, arguments_words_are ts ps) refl

  arguments_words_are : (ts : WrittenTerms) (ps : List Piece) → words_of (arguments_pieces ts ps) ≡ arguments_words ts (words_of ps)
  arguments_words_are no_terms ps = refl
  arguments_words_are (one_more t ts) ps = rw (term_words_are t (more_pieces ts (right ∷ ps)), more_words_are ts (right ∷ ps)) refl

  more_words_are : (ts : WrittenTerms) (ps : List Piece) → words_of (more_pieces ts ps) ≡ more_words ts (words_of ps)
  more_words_are no_terms ps = refl
  more_words_are (one_more t ts) ps = rw (term_words_are t (more_pieces ts ps), more_words_are ts ps) refl

names_words_are : (xs : List Text) (ps : List Piece) → words_of (names_pieces xs ps) ≡ variables_words xs (words_of ps)
names_words_are [] ps = refl
names_words_are (x ∷ xs) ps = rw (names_words_are xs ps) refl

pub formula_words_are : (f : WrittenFormula) (ps : List Piece) → words_of (pieces f ps) ≡ formula_words f (words_of ps)
formula_words_are (truth b) ps = rw (truth_word_is b) refl
formula_words_are (finite t) ps = rw (term_words_are t (right ∷ ps)) refl
formula_words_are (win p n t) ps = rw (term_words_are t (right ∷ ps)) refl
formula_words_are (compared r t u) ps = rw (term_words_are t (spaced (comparer_kind r) (comparer_text r) (term_pieces u ps)), comparer_word_is r, term_words_are u ps) refl
formula_words_are (call p ts) ps = rw (arguments_words_are ts ps) refl
formula_words_are (no f) ps = rw (formula_words_are f ps) refl
formula_words_are (group f) ps = rw (formula_words_are f (right ∷ ps)) refl
formula_words_are (joined j f g) ps = rw (formula_words_are f (spaced (sign j) (joint_text j) (pieces g ps)), joint_word_is j, formula_words_are g ps) refl
formula_words_are (quantified q x xs f) ps = rw (quantifier_word_is q, names_words_are xs (colon ∷ blank ∷ pieces f ps), formula_words_are f ps) refl

-- ---- each word is a token

-- a further symbol: `$` and digits
abbrev pub IsIndex : Text → Type 0
IsIndex i = (d : Text) × (i ≡ 36 ∷ d) × (is_number d ≡ true)

-- each variable, name, number and further symbol is one as it is written
abbrev pub HeadHasWord : Head → Type 0
HeadHasWord (named f) = IsName f
HeadHasWord (further i) = IsIndex i

abbrev mutual
  pub TermHasWords : WrittenTerm → Type 0
  TermHasWords (variable x) = IsVariable x
  TermHasWords (headed h ts) = HeadHasWord h × TermsHaveWords ts

  pub TermsHaveWords : WrittenTerms → Type 0
  TermsHaveWords no_terms = Unit {0}
  TermsHaveWords (one_more t ts) = TermHasWords t × TermsHaveWords ts

abbrev pub HasWords : WrittenFormula → Type 0
HasWords (truth b) = Unit {0}
HasWords (finite t) = TermHasWords t
HasWords (win p n t) = IsName p × (is_number n ≡ true) × TermHasWords t
HasWords (compared r t u) = TermHasWords t × TermHasWords u
HasWords (call p ts) = IsName p × TermsHaveWords ts
HasWords (no f) = HasWords f
HasWords (group f) = HasWords f
HasWords (joined j f g) = HasWords f × HasWords g
HasWords (quantified q x xs f) = AreVariables (x ∷ xs) × HasWords f

abbrev pub EndsHere : List Piece → Type 0
EndsHere ps = Ends (bytes_of ps)

head_front : (h : Head) (tail : Text) → HeadHasWord h → Ends tail → IsFront (head_kind h) (head_text h) tail
head_front (named f) tail h ends = name_front f tail h ends
head_front (further i) tail (d, is, digits) ends = subst (λ x. IsFront k.Further x tail) (sym is) (further_front d tail digits ends)

truth_front : (b : Bool) (tail : Text) → Ends tail → IsFront (truth_kind b) (truth_text b) tail
truth_front true tail ends = small_front _ _ k.«True» tail refl refl refl ends
truth_front false tail ends = small_front _ _ k.«False» tail refl refl refl ends

comparer_front : (r : Comparer) (tail : Text) → IsFront (comparer_kind r) (comparer_text r) tail
comparer_front equals tail = equal_front tail
comparer_front differs tail = differ_front tail

joint_front : (j : Joint) (tail : Text) → IsFront (sign j) (joint_text j) tail
joint_front and tail = amp_front tail
joint_front or tail = bar_front tail
joint_front imp tail = arrow_front tail
joint_front iff tail = double_front tail

quantifier_front : (q : Quantifier) (tail : Text) → Ends tail → IsFront (quantifier_kind q) (quantifier_text q) tail
quantifier_front exists tail ends = small_front _ _ k.«Exists» tail refl refl refl ends
quantifier_front forall tail ends = small_front _ _ k.Forall tail refl refl refl ends

arguments_end : (ts : WrittenTerms) (ps : List Piece) → EndsHere ps → EndsHere (arguments_pieces ts ps)
arguments_end no_terms ps ends = ends
arguments_end (one_more t ts) ps ends = refl

more_end : (ts : WrittenTerms) (ps : List Piece) → EndsHere ps → EndsHere (more_pieces ts ps)
more_end no_terms ps ends = ends
more_end (one_more t ts) ps ends = refl

mutual
  term_apart : (t : WrittenTerm) (ps : List Piece) → TermHasWords t → EndsHere ps → AreApart ps → AreApart (term_pieces t ps)
  term_apart (variable x) ps h ends apart = (variable_front x (bytes_of ps) h ends, apart)
  term_apart (headed h ts) ps w ends apart = (head_front h _ w.0 (arguments_end ts ps ends), arguments_apart ts ps w.1 ends apart)

  arguments_apart : (ts : WrittenTerms) (ps : List Piece) → TermsHaveWords ts → EndsHere ps → AreApart ps → AreApart (arguments_pieces ts ps)
  arguments_apart no_terms ps h ends apart = apart
  arguments_apart (one_more t ts) ps h ends apart =
      (left_front _, term_apart t (more_pieces ts (right ∷ ps)) h.0 (more_end ts (right ∷ ps) refl) (more_apart ts (right ∷ ps) h.1 refl (right_front _, apart)))

  more_apart : (ts : WrittenTerms) (ps : List Piece) → TermsHaveWords ts → EndsHere ps → AreApart ps → AreApart (more_pieces ts ps)
  more_apart no_terms ps h ends apart = apart
  more_apart (one_more t ts) ps h ends apart =
      (comma_front _, term_apart t (more_pieces ts ps) h.0 (more_end ts ps ends) (more_apart ts ps h.1 ends apart))

names_end : (xs : List Text) (ps : List Piece) → EndsHere ps → EndsHere (names_pieces xs ps)
names_end [] ps ends = ends
names_end (x ∷ xs) ps ends = refl

names_apart : (xs : List Text) (ps : List Piece) → AreVariables xs → EndsHere ps → AreApart ps → AreApart (names_pieces xs ps)
names_apart [] ps h ends apart = apart
names_apart (x ∷ xs) ps h ends apart = (variable_front x (bytes_of (names_pieces xs ps)) h.0 (names_end xs ps ends), names_apart xs ps h.1 ends apart)

pub formula_apart : (f : WrittenFormula) (ps : List Piece) → HasWords f → EndsHere ps → AreApart ps → AreApart (pieces f ps)
formula_apart (truth b) ps h ends apart = (truth_front b (bytes_of ps) ends, apart)
formula_apart (finite t) ps h ends apart =
    (small_front _ _ k.Finite _ refl refl refl refl, (left_front _, term_apart t (right ∷ ps) h refl (right_front _, apart)))
formula_apart (win p n t) ps h ends apart =
    let position = term_apart t (right ∷ ps) h.2 refl (right_front _, apart) in
    (small_front _ _ k.Win _ refl refl refl refl, (left_front _, (name_front p _ h.0 refl, (comma_front _, (number_front n _ h.1 refl, (comma_front _, position))))))
formula_apart (compared r t u) ps h ends apart = term_apart t _ h.0 refl (comparer_front r _, term_apart u ps h.1 ends apart)
formula_apart (call p ts) ps h ends apart = (name_front p _ h.0 (arguments_end ts ps ends), arguments_apart ts ps h.1 ends apart)
formula_apart (no f) ps h ends apart = (tilde_front _, formula_apart f ps h ends apart)
formula_apart (group f) ps h ends apart = (left_front _, formula_apart f (right ∷ ps) h refl (right_front _, apart))
formula_apart (joined j f g) ps h ends apart = formula_apart f _ h.0 refl (joint_front j _, formula_apart g ps h.1 ends apart)
formula_apart (quantified q x xs f) ps h ends apart = (
  quantifier_front q _ refl,
  names_apart (x ∷ xs) (colon ∷ blank ∷ pieces f ps) h.0 refl (colon_front _, formula_apart f ps h.1 ends apart),
)
