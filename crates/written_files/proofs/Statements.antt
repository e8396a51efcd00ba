-- The words of statements, with what stands between them.
use Rattle.std.proofs.Common.{◌≡◌, ◌≤◌, List, [], ◌∷◌, ◌++◌, length, Some, None, true, codes, refl, sym, ap, ◌∙◌, subst, append_assoc, arith}
use Rattle.formula_ast.specs.declared.token.TokenKind.{TokenKind}
use Rattle.formula_ast.specs.declared.token.TokenKind.TheVariants as k
use Rattle.formula_ast.specs.Tokens.{Word, is_number}
use Rattle.formula_grammar.specs.Written.{Text, Declaration, Said, symbols, predicate, question}
use Rattle.formula_grammar.specs.Words.{mark, word, WrittenStatement, declarations_words, more_parameters_words, parameters_words, said_words, statement_words, statements_words}
use Rattle.formula_grammar.specs.Grammar.{Manner, declares_symbols, defines_predicate, asks, manner_of, IsLevelledSaid, files, opening, AreStatementsOf, IsFile}
use Rattle.formula_grammar.specs.Limits.{most_bytes}
use Rattle.formula_grammar.specs.Names.{AreNamed}
use Rattle.formula_grammar.specs.Within.{AreWithin}
use Rattle.formula_grammar.specs.FirstFault.{file_fault}
use Rattle.formula_grammar.proofs.Faultless.{lawful_files}
use Rattle.formula_grammar.specs.Reading.{IsWritten}
use Rattle.formula_grammar.proofs.WrittenWords.{IsName, AreVariables}
use Rattle.written_files.specs.Files.{opening_text, more_declarations_text, more_parameters_text, parameters_text, said_text, statement_text, file_text}
use Rattle.formula_printer.proofs.Fronts.{name_front, variable_front, number_front, small_front, left_front, right_front, comma_front, stop_front, slash_front, define_front}
use Rattle.formula_printer.proofs.Pieces.{Piece, blank, line_feed, piece, bytes_of, words_of, AreApart, has_tokens}
use Rattle.formula_printer.proofs.Printed.{left, right, comma, spaced, pieces, formula_bytes, formula_words_are, HasWords, EndsHere, formula_apart}

-- ---- the pieces of what is written, before others

abbrev stop : Piece
stop = piece k.Stop (codes ".")

abbrev declaration_pieces : Declaration → List Piece → List Piece
declaration_pieces d ps = piece k.Name d.name ∷ piece k.Slash (codes "/") ∷ piece k.Number d.digits ∷ ps

abbrev more_declarations_pieces : List Declaration → List Piece → List Piece
more_declarations_pieces [] ps = ps
more_declarations_pieces (d ∷ ds) ps = comma ∷ blank ∷ declaration_pieces d (more_declarations_pieces ds ps)

abbrev more_parameters_pieces : List Text → List Piece → List Piece
more_parameters_pieces [] ps = ps
more_parameters_pieces (x ∷ xs) ps = comma ∷ blank ∷ piece k.Variable x ∷ more_parameters_pieces xs ps

abbrev parameters_pieces : List Text → List Piece → List Piece
parameters_pieces [] ps = ps
parameters_pieces (x ∷ xs) ps = left ∷ piece k.Variable x ∷ more_parameters_pieces xs (right ∷ ps)

abbrev said_pieces : Said → List Piece → List Piece
said_pieces (symbols d ds) ps = declaration_pieces d (more_declarations_pieces ds ps)
said_pieces (predicate p xs f) ps = piece k.Name p ∷ parameters_pieces xs (spaced k.Define (codes ":=") (pieces f ps))
said_pieces (question f) ps = pieces f ps

abbrev statement_pieces : WrittenStatement → List Piece → List Piece
statement_pieces s ps = piece s.first.kind (opening_text s.first.kind) ∷ blank ∷ said_pieces s.said (stop ∷ line_feed ∷ ps)

abbrev file_pieces : List WrittenStatement → List Piece
file_pieces [] = []
file_pieces (s ∷ ss) = statement_pieces s (file_pieces ss)

-- ---- their bytes are the text

more_declarations_bytes : (ds : List Declaration) (ps : List Piece) → bytes_of (more_declarations_pieces ds ps) ≡ more_declarations_text ds ++ bytes_of ps
more_declarations_bytes [] ps = refl
more_declarations_bytes (d ∷ ds) ps = rw (more_declarations_bytes ds ps) (simp append_assoc)

more_parameters_bytes : (xs : List Text) (ps : List Piece) → bytes_of (more_parameters_pieces xs ps) ≡ more_parameters_text xs ++ bytes_of ps
more_parameters_bytes [] ps = refl
more_parameters_bytes (x ∷ xs) ps = rw (more_parameters_bytes xs ps) (simp append_assoc)

parameters_bytes : (xs : List Text) (ps : List Piece) → bytes_of (parameters_pieces xs ps) ≡ parameters_text xs ++ bytes_of ps
parameters_bytes [] ps = refl
parameters_bytes (x ∷ xs) ps = rw (more_parameters_bytes xs (right ∷ ps)) (simp append_assoc)

said_bytes : (said : Said) (ps : List Piece) → bytes_of (said_pieces said ps) ≡ said_text said ++ bytes_of ps
said_bytes (symbols d ds) ps = rw (more_declarations_bytes ds ps) (simp append_assoc)
said_bytes (predicate p xs f) ps = rw (parameters_bytes xs (spaced k.Define (codes ":=") (pieces f ps)), formula_bytes f ps) (simp append_assoc)
said_bytes (question f) ps = formula_bytes f ps

statement_bytes : (s : WrittenStatement) (ps : List Piece) → bytes_of (statement_pieces s ps) ≡ statement_text s ++ bytes_of ps
statement_bytes s ps = rw (said_bytes s.said (stop ∷ line_feed ∷ ps)) (simp append_assoc)

file_bytes : (ss : List WrittenStatement) → bytes_of (file_pieces ss) ≡ file_text ss
file_bytes [] = refl
file_bytes (s ∷ ss) = statement_bytes s (file_pieces ss) ∙ ap (λ t. statement_text s ++ t) (file_bytes ss)

-- ---- their words are those of what is written

more_declarations_words_are : (ds : List Declaration) (ps : List Piece) → words_of (more_declarations_pieces ds ps) ≡ declarations_words ds (words_of ps)
more_declarations_words_are [] ps = refl
more_declarations_words_are (d ∷ ds) ps = rw (more_declarations_words_are ds ps) refl

more_parameters_words_are : (xs : List Text) (ps : List Piece) → words_of (more_parameters_pieces xs ps) ≡ more_parameters_words xs (words_of ps)
more_parameters_words_are [] ps = refl
more_parameters_words_are (x ∷ xs) ps = rw (more_parameters_words_are xs ps) refl

parameters_words_are : (xs : List Text) (ps : List Piece) → words_of (parameters_pieces xs ps) ≡ parameters_words xs (words_of ps)
parameters_words_are [] ps = refl
parameters_words_are (x ∷ xs) ps = rw (more_parameters_words_are xs (right ∷ ps)) refl

said_words_are : (said : Said) (ps : List Piece) → words_of (said_pieces said (stop ∷ ps)) ≡ said_words said (words_of ps)
said_words_are (symbols d ds) ps = rw (more_declarations_words_are ds (stop ∷ ps)) refl
said_words_are (predicate p xs f) ps = rw (parameters_words_are xs (spaced k.Define (codes ":=") (pieces f (stop ∷ ps))), formula_words_are f (stop ∷ ps)) refl
said_words_are (question f) ps = formula_words_are f (stop ∷ ps)

-- ---- what can be read

-- the kind of the word that begins a statement
abbrev pub opening_kind : Manner → TokenKind
opening_kind declares_symbols = k.Symbol
opening_kind defines_predicate = k.Pred
opening_kind asks = k.Solve

abbrev pub DeclarationsHaveWords : List Declaration → Type 0
DeclarationsHaveWords [] = Unit {0}
DeclarationsHaveWords (d ∷ ds) = IsName d.name × (is_number d.digits ≡ true) × DeclarationsHaveWords ds

-- each name, variable and number is one as it is written
abbrev pub SaidHasWords : Said → Type 0
SaidHasWords (symbols d ds) = DeclarationsHaveWords (d ∷ ds)
SaidHasWords (predicate p xs f) = IsName p × AreVariables xs × HasWords f
SaidHasWords (question f) = HasWords f

pub record CanBeRead (s : WrittenStatement) : Type 0 where
  pub first : s.first ≡ mark (opening_kind (manner_of s.said))
  pub words : SaidHasWords s.said
  pub levelled : IsLevelledSaid s.said

abbrev pub AllCanBeRead : List WrittenStatement → Type 0
AllCanBeRead [] = Unit {0}
AllCanBeRead (s ∷ ss) = CanBeRead s × AllCanBeRead ss

opening_word : (manner : Manner) → word (opening_kind manner) (opening_text (opening_kind manner)) ≡ mark (opening_kind manner)
opening_word declares_symbols = refl
opening_word defines_predicate = refl
opening_word asks = refl

opened : (s : WrittenStatement) → CanBeRead s → word s.first.kind (opening_text s.first.kind) ≡ s.first
opened s c = ap (λ (w : Word). word w.kind (opening_text w.kind)) c.first ∙ opening_word (manner_of s.said) ∙ sym c.first

file_words_are : (ss : List WrittenStatement) → AllCanBeRead ss → words_of (file_pieces ss) ≡ statements_words ss []
file_words_are [] c = refl
file_words_are (s ∷ ss) c =
    ap (λ (ws : List Word). word s.first.kind (opening_text s.first.kind) ∷ ws) (said_words_are s.said (line_feed ∷ file_pieces ss))
    ∙ ap (λ (w : Word). w ∷ said_words s.said (words_of (file_pieces ss))) (opened s c.0)
    ∙ ap (λ (ws : List Word). statement_words s ws) (file_words_are ss c.1)

-- ---- each word is a token

more_declarations_end : (ds : List Declaration) (ps : List Piece) → EndsHere ps → EndsHere (more_declarations_pieces ds ps)
more_declarations_end [] ps ends = ends
more_declarations_end (d ∷ ds) ps ends = refl

more_parameters_end : (xs : List Text) (ps : List Piece) → EndsHere ps → EndsHere (more_parameters_pieces xs ps)
more_parameters_end [] ps ends = ends
more_parameters_end (x ∷ xs) ps ends = refl

parameters_end : (xs : List Text) (ps : List Piece) → EndsHere ps → EndsHere (parameters_pieces xs ps)
parameters_end [] ps ends = ends
parameters_end (x ∷ xs) ps ends = refl

declarations_apart : (d : Declaration) (ds : List Declaration) (ps : List Piece) → DeclarationsHaveWords (d ∷ ds) → EndsHere ps → AreApart ps
    → AreApart (declaration_pieces d (more_declarations_pieces ds ps))
declarations_apart d [] ps h ends apart = (name_front d.name _ h.0 refl, (slash_front _, (number_front d.digits _ h.1 ends, apart)))
declarations_apart d (e ∷ ds) ps h ends apart =
    (name_front d.name _ h.0 refl, (slash_front _, (number_front d.digits _ h.1 refl, (comma_front _, declarations_apart e ds ps h.2 ends apart))))

more_parameters_apart : (xs : List Text) (ps : List Piece) → AreVariables xs → EndsHere ps → AreApart ps → AreApart (more_parameters_pieces xs ps)
more_parameters_apart [] ps h ends apart = apart
more_parameters_apart (x ∷ xs) ps h ends apart = (comma_front _, (variable_front x _ h.0 (more_parameters_end xs ps ends), more_parameters_apart xs ps h.1 ends apart))

parameters_apart : (xs : List Text) (ps : List Piece) → AreVariables xs → AreApart ps → AreApart (parameters_pieces xs ps)
parameters_apart [] ps h apart = apart
parameters_apart (x ∷ xs) ps h apart =
    (left_front _, (variable_front x _ h.0 (more_parameters_end xs (right ∷ ps) refl), more_parameters_apart xs (right ∷ ps) h.1 refl (right_front _, apart)))

said_apart : (said : Said) (ps : List Piece) → SaidHasWords said → AreApart ps → AreApart (said_pieces said (stop ∷ ps))
said_apart (symbols d ds) ps h apart = declarations_apart d ds (stop ∷ ps) h refl (stop_front _, apart)
said_apart (predicate p xs f) ps h apart =
    let body = formula_apart f (stop ∷ ps) h.2 refl (stop_front _, apart) in
    (name_front p _ h.0 (parameters_end xs _ refl), parameters_apart xs _ h.1 (define_front _, body))
said_apart (question f) ps h apart = formula_apart f (stop ∷ ps) h refl (stop_front _, apart)

opening_apart : (manner : Manner) (ps : List Piece) → AreApart ps → AreApart (piece (opening_kind manner) (opening_text (opening_kind manner)) ∷ blank ∷ ps)
opening_apart declares_symbols ps apart = (small_front _ _ k.Symbol _ refl refl refl refl, apart)
opening_apart defines_predicate ps apart = (small_front _ _ k.Pred _ refl refl refl refl, apart)
opening_apart asks ps apart = (small_front _ _ k.Solve _ refl refl refl refl, apart)

file_apart : (ss : List WrittenStatement) → AllCanBeRead ss → AreApart (file_pieces ss)
file_apart [] c = tt
file_apart (s ∷ ss) c =
    let said = said_pieces s.said (stop ∷ line_feed ∷ file_pieces ss) in
    let behind : AreApart said = said_apart s.said (line_feed ∷ file_pieces ss) c.0.words (file_apart ss c.1) in
    subst (λ (w : Word). AreApart (piece w.kind (opening_text w.kind) ∷ blank ∷ said)) (sym c.0.first) (opening_apart (manner_of s.said) said behind)

-- ---- the law

pub file_is_written : (ss : List WrittenStatement) → AllCanBeRead ss → IsWritten (file_text ss) (statements_words ss [])
file_is_written ss c =
    let bytes : file_text ss ≡ bytes_of (file_pieces ss) = sym (file_bytes ss) in
    let tokens = has_tokens (file_text ss) (file_pieces ss) 0 (omega arith) bytes (file_apart ss c) in
    subst (IsWritten (file_text ss)) (file_words_are ss c) (record { stop = length (file_text ss); tokens = tokens })

opens : (manner : Manner) → opening files (mark (opening_kind manner)) ≡ Some manner
opens declares_symbols = refl
opens defines_predicate = refl
opens asks = refl

are_statements : (ss : List WrittenStatement) → AllCanBeRead ss → AreStatementsOf files ss
are_statements [] c = tt
are_statements (s ∷ ss) c =
    (record { opened = ap (opening files) c.0.first ∙ opens (manner_of s.said); levelled = c.0.levelled }, are_statements ss c.1)

pub is_file : (ss : List WrittenStatement) → AllCanBeRead ss → IsFile (statements_words ss []) ss
is_file ss c = record { words = refl; each = are_statements ss c }

pub file_is_faultless : (ss : List WrittenStatement) → AllCanBeRead ss → AreNamed [] ss → AreWithin [] ss → length (file_text ss) ≤ most_bytes → file_fault (file_text ss) ≡ None
file_is_faultless ss c named within short =
    (lawful_files (file_text ss) (statements_words ss []) ss short (file_is_written ss c) (is_file ss c)).1 (named, within)
