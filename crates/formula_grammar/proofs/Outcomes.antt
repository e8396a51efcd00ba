-- A text reads, or has a first fault; and it reads in one way.
use Rattle.std.proofs.Common.{◌≡◌, ℕ, ◌≤◌, Bool, true, false, List, [], ◌∷◌, length, nat_lt, Option, Some, None, refl, sym, ◌∙◌, subst, if◌then◌else◌}
use Rattle.std.proofs.lemmas.Bool.{ltb-false}
use Rattle.tree_model.specs.Signatures.{Signature}
use Rattle.formula_ast.specs.declared.token.Token.{Token}
use Rattle.formula_ast.specs.declared.file.File.{File}
use Rattle.formula_ast.specs.declared.statement.Statement.{Statement}
use Rattle.formula_ast.specs.Forms.{form_of}
use Rattle.formula_ast.specs.Tokens.{Stream, end, bad, token, tokens_at, Word}
use Rattle.formula_grammar.specs.declared.fault.Fault.{Fault}
use Rattle.formula_grammar.specs.declared.fault.FaultKind.TheVariants.{Limit}
use Rattle.formula_grammar.specs.Limits.{most_bytes}
use Rattle.formula_grammar.specs.Words.{WrittenStatement}
use Rattle.formula_grammar.specs.Grammar.{files, IsFileOf, IsFormula}
use Rattle.formula_grammar.specs.Machine.{Stack, statements, operand, open_place}
use Rattle.formula_grammar.specs.Begins.{BeginsWith}
use Rattle.formula_grammar.specs.FirstFault.{fault_at, fault_from, fault_of_text, file_fault, formula_fault}
use Rattle.formula_grammar.specs.Reading.{IsWritten, ReadsAsStatements, ReadsWithin, ReadsAs, ReadsAsNamed, ReadsAsFormula}
use Rattle.formula_grammar.proofs.Faultless.{lawful_files, lawful_formulas}
use Rattle.formula_grammar.proofs.OneReading.{one_file_reading, one_formula_reading}
use Rattle.formula_grammar.proofs.Meant.{one_file, one_statement, a_file, a_statement}
use Rattle.formula_grammar.specs.Meaning.{Makes, IsStatement}
use Rattle.formula_grammar.proofs.Standing.{faultless_files_read, faultless_formulas_read}

none_some : {fault : Fault} {o : Option Fault} → o ≡ None → o ≡ Some fault → ⊥
none_some a b = cc (a, b)

pub reads_without_fault : (bytes : List ℕ) (ss : List WrittenStatement) → ReadsWithin bytes ss → file_fault bytes ≡ None
reads_without_fault bytes ss r = (lawful_files bytes r.reads.words ss r.short r.reads.written r.reads.grammar).1 (r.reads.named, r.within)

pub never_both : (bytes : List ℕ) (file : File) (fault : Fault) → ReadsAs bytes file → ¬ (file_fault bytes ≡ Some fault)
never_both bytes file fault r = λ e. none_some (reads_without_fault bytes r.statements r.reads) e

pub never_both_of_formula : (σ : Signature) (bytes : List ℕ) (s : Statement) (fault : Fault) → ReadsAsFormula σ bytes s
    → ¬ (formula_fault σ bytes ≡ Some fault)
never_both_of_formula σ bytes s fault r = λ e.
    none_some ((lawful_formulas σ bytes r.reads.words r.reads.formula r.short r.reads.written r.reads.grammar).1 (r.reads.uses, r.sized)) e

-- a text without a fault is within the limit of size
pub text_short : (σ : Signature) (s : Stack) (bytes : List ℕ) → fault_of_text σ s bytes ≡ None → length bytes ≤ most_bytes
text_short σ s bytes e = by_test (nat_lt most_bytes (length bytes)) refl e
  where
    by_test : (b : Bool) → nat_lt most_bytes (length bytes) ≡ b
        → (if b then fault_at most_bytes Limit else fault_from bytes (tokens_at bytes 0) (record { signature = σ; joints = 0 }) s) ≡ None
        → length bytes ≤ most_bytes
    by_test true h e = absurd (cc e)
    by_test false h e = ltb-false most_bytes (length bytes) h

file_short : (bytes : List ℕ) → file_fault bytes ≡ None → length bytes ≤ most_bytes
unfolding file_fault
file_short bytes e = text_short [] (statements files ∷ []) bytes e

formula_short : (σ : Signature) (bytes : List ℕ) → formula_fault σ bytes ≡ None → length bytes ≤ most_bytes
unfolding formula_fault
formula_short σ bytes e = text_short σ (operand 1 open_place ∷ []) bytes e

pub files_or_fault : (bytes : List ℕ) → file_fault bytes ≡ None → (file : File) × ReadsAs bytes file
files_or_fault bytes e =
    let f = faultless_files_read bytes e in
    let w : IsWritten bytes f.0 = record { stop = f.1; tokens = f.2 } in
    let short : length bytes ≤ most_bytes = file_short bytes e in
    let a = (lawful_files bytes f.0 f.3.0 short w f.3.1).0 e in
    let r : ReadsWithin bytes f.3.0 =
    record { reads = record { words = f.0; written = w; grammar = f.3.1; named = a.0 }; short = short; within = a.1 } in
    let file = a_file f.3.0 [] [] [] in
    (file.0, record { statements = f.3.0; reads = r; makes = file.1 })

pub statements_or_fault : (σ : Signature) (bytes : List ℕ) → formula_fault σ bytes ≡ None → (s : Statement) × ReadsAsFormula σ bytes s
statements_or_fault σ bytes e =
    let f = faultless_formulas_read σ bytes e in
    let w : IsWritten bytes f.0 = record { stop = f.1; tokens = f.2 } in
    let short : length bytes ≤ most_bytes = formula_short σ bytes e in
    let a = (lawful_formulas σ bytes f.0 f.3.0 short w f.3.1).0 e in
    let s = a_statement σ f.3.0 in
    let r : ReadsAsNamed σ bytes s.0.names (form_of s.0.body) =
    record { words = f.0; written = w; formula = f.3.0; grammar = f.3.1; uses = a.0; names_are = s.1.names; stands = s.1.body } in
    (s.0, record { reads = r; short = short; sized = a.1 })

-- ---- the words of a text

no_token : {at : ℕ} {t : Token} {more : Stream} → token t more ≡ end at → ⊥
no_token e = cc e

-- a text is written in one way
pub one_writing : (bytes : List ℕ) (tokens : Stream) (ws vs : List Word) (m n : ℕ) → BeginsWith bytes tokens ws (end m)
    → BeginsWith bytes tokens vs (end n) → ws ≡ vs
one_writing bytes tokens [] [] m n a b = refl
one_writing bytes (token t more) [] (v ∷ vs) m n a b = absurd (no_token a)
one_writing bytes (token t more) (w ∷ ws) [] m n a b = absurd (no_token b)
one_writing bytes (token t more) (w ∷ ws) (v ∷ vs) m n a b =
    let first : w ≡ v = sym a.0 ∙ b.0 in let others : ws ≡ vs = one_writing bytes more ws vs m n a.1 b.1 in cc
one_writing bytes (end at) [] (v ∷ vs) m n a b = absurd b
one_writing bytes (end at) (w ∷ ws) vs m n a b = absurd a
one_writing bytes (bad at) [] (v ∷ vs) m n a b = absurd b
one_writing bytes (bad at) (w ∷ ws) vs m n a b = absurd a

same_words : (bytes : List ℕ) (ws vs : List Word) → IsWritten bytes ws → IsWritten bytes vs → ws ≡ vs
same_words bytes ws vs a b = one_writing bytes (tokens_at bytes 0) ws vs a.stop b.stop a.tokens b.tokens

pub same_statements : (bytes : List ℕ) (ss ts : List WrittenStatement) → ReadsAsStatements bytes ss → ReadsAsStatements bytes ts → ss ≡ ts
same_statements bytes ss ts a b =
    let same : b.words ≡ a.words = same_words bytes b.words a.words b.written a.written in
    one_file_reading files a.words ss ts a.grammar (subst (λ ws. IsFileOf files ws ts) same b.grammar)

pub reads_as_one_file : (bytes : List ℕ) (first other : File) → ReadsAs bytes first → ReadsAs bytes other → first ≡ other
reads_as_one_file bytes first other a b =
    let same : b.statements ≡ a.statements = same_statements bytes b.statements a.statements b.reads.reads a.reads.reads in
    one_file first other a.statements [] [] [] a.makes (subst (λ ss. Makes other [] [] [] ss) same b.makes)

pub reads_as_one_statement : (σ : Signature) (bytes : List ℕ) (first other : Statement) → ReadsAsFormula σ bytes first → ReadsAsFormula σ bytes other
    → first ≡ other
reads_as_one_statement σ bytes first other a b =
    let same : b.reads.words ≡ a.reads.words = same_words bytes b.reads.words a.reads.words b.reads.written a.reads.written in
    let formula : b.reads.formula ≡ a.reads.formula =
    one_formula_reading a.reads.words b.reads.formula a.reads.formula (subst (λ ws. IsFormula ws b.reads.formula) same b.reads.grammar) a.reads.grammar in
    let is : IsStatement σ a.reads.formula first = record { names = a.reads.names_are; body = a.reads.stands } in
    let are : IsStatement σ b.reads.formula other = record { names = b.reads.names_are; body = b.reads.stands } in
    one_statement σ a.reads.formula first other is (subst (λ f. IsStatement σ f other) formula are)
