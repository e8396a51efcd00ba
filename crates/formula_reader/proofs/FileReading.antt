-- How far a text was read, statement by statement, and what it is at its end.
use Rattle.std.proofs.Common.{◌≡◌, ℕ, ◌≤◌, ◌<◌, true, false, List, [], ◌∷◌, ◌++◌, length, Option, Some, None, refl, sym, ap, subst, ◌∙◌, append_assoc, arith, nat_lt}
use Rattle.std.proofs.lemmas.List.{append-nil}
use Rattle.tree_model.specs.Signatures.{Signature}
use Rattle.formula_ast.specs.declared.token.Token.{Token}
use Rattle.formula_ast.specs.declared.file.File.{File}
use Rattle.formula_ast.specs.declared.formula.Formula.{Formula}
use Rattle.formula_ast.specs.declared.statement.Statement.{Statement}
use Rattle.formula_ast.specs.Forms.{form_of}
use Rattle.formula_ast.specs.Tokens.{Stream, end, bad, token, tokens_at, Word}
use Rattle.formula_grammar.specs.declared.fault.Fault.{Fault}
use Rattle.formula_grammar.specs.declared.fault.FaultKind.{FaultKind}
use Rattle.formula_grammar.specs.declared.fault.FaultKind.TheVariants.{Limit}
use Rattle.formula_grammar.specs.Words.{word_of, formula_words, said_words, WrittenStatement, statement_words, statements_words}
use Rattle.formula_grammar.specs.Grammar.{files, IsStatementOf, AreStatementsOf, IsFile, IsFormula}
use Rattle.formula_grammar.specs.Machine as m
use Rattle.formula_grammar.specs.Machine.{Stack, Role, Move, refused, goes, step}
use Rattle.formula_grammar.specs.Checks.{Environment, check_all, update_all}
use Rattle.formula_grammar.specs.FirstFault.{judged, at_move, fault_from, file_fault, formula_fault}
use Rattle.formula_grammar.specs.Begins.{BeginsWith}
use Rattle.formula_grammar.specs.Meaning.{Makes, Stands}
use Rattle.formula_grammar.specs.Reading.{IsWritten, ReadsAs, ReadsAsFormula}
use Rattle.formula_grammar.proofs.Faultless.{lawful_files, lawful_formulas}
use Rattle.formula_reader.specs.declared.error.ReadError.{ReadError}
use Rattle.formula_reader.specs.declared.error.ReadError.TheVariants.{Refused, NoMemory}
use Rattle.formula_reader.specs.Input.{Input, left_of, words_of, words_left}
use Rattle.formula_reader.specs.Faults.{fault_of, fault_with, Refuses}
use Rattle.formula_reader.specs.Reads.{ReadsStatement}
use Rattle.formula_reader.specs.Refusals.{IsRefusedWith}
use Rattle.formula_reader.proofs.StatementReading.{ReadFormula, named, is_operand}
use Rattle.formula_reader.proofs.Steps.{with_none, skipped}

-- ---- the first fault of a text

within : (bytes : List ℕ) → length bytes ≤ 1048576 → nat_lt 1048576 (length bytes) ≡ false
within bytes h = grind arith

beyond : (bytes : List ℕ) → 1048576 < length bytes → nat_lt 1048576 (length bytes) ≡ true
beyond bytes h = grind arith

pub file_fault_from : (bytes : List ℕ) → length bytes ≤ 1048576
    → file_fault bytes ≡ fault_from bytes (tokens_at bytes 0) (record { signature = []; joints = 0 }) (m.statements files ∷ [])
unfolding file_fault
file_fault_from bytes h = rw (within bytes h) refl

pub file_too_long : (bytes : List ℕ) → 1048576 < length bytes → file_fault bytes ≡ Some (record { offset = 1048576; kind = Limit })
unfolding file_fault
file_too_long bytes h = rw (beyond bytes h) refl

pub formula_fault_from : (σ : Signature) (bytes : List ℕ) → length bytes ≤ 1048576
    → formula_fault σ bytes ≡ fault_from bytes (tokens_at bytes 0) (record { signature = σ; joints = 0 }) (m.operand 1 m.open_place ∷ [])
unfolding formula_fault
formula_fault_from σ bytes h = rw (within bytes h) refl

pub formula_too_long : (σ : Signature) (bytes : List ℕ) → 1048576 < length bytes → formula_fault σ bytes ≡ Some (record { offset = 1048576; kind = Limit })
unfolding formula_fault
formula_too_long σ bytes h = rw (beyond bytes h) refl

-- the reader before the first token
abbrev pub Begins : List ℕ → Input → Type 0
Begins bytes i = i ≡ record { bytes = bytes; at = 0; pending = None; joints = 0; scope = record { names = []; bound = [] } }

fault_begins : (σ : Signature) (bytes : List ℕ) (i : Input) (s : Stack) → Begins bytes i → fault_from bytes (tokens_at bytes 0) (record { signature = σ; joints = 0 }) s ≡ fault_of σ i s
fault_begins σ bytes i s begins = with_none bytes (tokens_at bytes 0) (record { signature = σ; joints = 0 }) s ∙ ap (λ j. fault_of σ j s) (sym begins)

-- ---- a text without a fault is one of tokens up to its end

-- how the machine goes on where there is no fault
record Kept (later : Environment → Stack → Option Fault) : Type 0 where
  environment : Environment
  stack : Stack
  none : later environment stack ≡ None

keeps : (E : Environment) (offset : ℕ) (later : Environment → Stack → Option Fault) (move : Move) → at_move E offset later move ≡ None → Kept later
keeps E offset later refused h = cc
keeps E offset later (goes roles s) h = judge (check_all E None roles) h
  where
    judge : (o : Option FaultKind) → judged offset o (later (update_all E roles) s) ≡ None → Kept later
    judge None h = record { environment = update_all E roles; stack = s; none = h }
    judge (Some kind) h = cc

-- the words of a text up to its end
record Whole (bytes : List ℕ) (i : Stream) : Type 0 where
  stop : ℕ
  begins : BeginsWith bytes i (words_of bytes i) (end stop)

faultless : (bytes : List ℕ) (i : Stream) (E : Environment) (s : Stack) → fault_from bytes i E s ≡ None → Whole bytes i
faultless bytes (end at) E s h = record { stop = at; begins = refl }
faultless bytes (bad at) E s h = cc
faultless bytes (token t more) E s h =
    let k = keeps E t.from (λ F u. fault_from bytes more F u) (step s (word_of bytes t)) h in
    let w = faultless bytes more k.environment k.stack k.none in
    record { stop = w.stop; begins = (refl, w.begins) }

written_of : (bytes : List ℕ) (E : Environment) (s : Stack) → fault_from bytes (tokens_at bytes 0) E s ≡ None → IsWritten bytes (words_of bytes (tokens_at bytes 0))
written_of bytes E s h = let w = faultless bytes (tokens_at bytes 0) E s h in record { stop = w.stop; tokens = w.begins }

-- where nothing is expected and there is no fault, no word is left
nothing_from : (wrong : Option FaultKind) (bytes : List ℕ) (i : Stream) (E : Environment) → fault_with wrong bytes i E [] ≡ None → words_of bytes i ≡ []
nothing_from wrong bytes (end at) E h = refl
nothing_from wrong bytes (bad at) E h = refl
nothing_from wrong bytes (token t more) E h = cc

pub nothing_left : (σ : Signature) (i : Input) → fault_of σ i [] ≡ None → words_left i ≡ []
nothing_left σ i h = nothing_from i.pending i.bytes (left_of i) (record { signature = σ; joints = i.joints }) h

-- where no token is left, no statement is expected
pub statements_end : (σ : Signature) (i : Input) → ((t : Token) (more : Stream) → ¬ (left_of i ≡ token t more)) → fault_of σ i (m.statements files ∷ []) ≡ fault_of σ i []
statements_end σ i none = skipped σ i (m.statements files) refl (λ t more is. absurd (none t more is)) []

-- ---- how far a file was read

each_push : (ss : List WrittenStatement) (s : WrittenStatement) → AreStatementsOf files ss → IsStatementOf files s → AreStatementsOf files (ss ++ s ∷ [])
each_push [] s each one = (one, tt)
each_push (u ∷ ss) s each one = (each.0, each_push ss s each.1 one)

statements_push : (ss : List WrittenStatement) (s : WrittenStatement) (ws : List Word) → statements_words (ss ++ s ∷ []) ws ≡ statements_words ss (statement_words s ws)
statements_push [] s ws = refl
statements_push (u ∷ ss) s ws = ap (λ l. u.first ∷ said_words u.said l) (statements_push ss s ws)

-- Statements were read up to this place, and are in the file.
pub record Progress (bytes : List ℕ) (i : Input) (f : File) : Type 0 where
  pub bytes_are : i.bytes ≡ bytes
  pub statements : List WrittenStatement
  pub faults : file_fault bytes ≡ fault_of f.signature i (m.statements files ∷ [])
  pub text : words_of bytes (tokens_at bytes 0) ≡ statements_words statements (words_left i)
  pub each : AreStatementsOf files statements
  pub makes : (whole : File) (more : List WrittenStatement) → Makes whole f.signature f.preds f.solves more → Makes whole [] [] [] (statements ++ more)

pub begun : (bytes : List ℕ) (i : Input) (f : File) → Begins bytes i → f.signature ≡ [] → f.preds ≡ [] → f.solves ≡ [] → length bytes ≤ 1048576 → Progress bytes i f
begun bytes i f begins no_names no_preds no_solves short = record {
  bytes_are = ap (λ (j : Input). j.bytes) begins;
  statements = [];
  faults = file_fault_from bytes short ∙ fault_begins [] bytes i (m.statements files ∷ []) begins ∙ ap (λ σ. fault_of σ i (m.statements files ∷ [])) (sym no_names);
  text = ap (λ (j : Input). words_left j) (sym begins);
  each = tt;
  makes = λ whole more made.
      subst (λ σ. Makes whole σ [] [] more) no_names
      (subst (λ ps. Makes whole f.signature ps [] more) no_preds (subst (λ ss. Makes whole f.signature f.preds ss more) no_solves made));
}

pub stepped : (bytes : List ℕ) (old new : Input) (f h : File) → ReadsStatement old new f h → Progress bytes old f → Progress bytes new h
stepped bytes old new f h r p = record {
  bytes_are = r.bytes ∙ p.bytes_are;
  statements = p.statements ++ r.written ∷ [];
  faults = p.faults ∙ r.faults [];
  text = p.text ∙ ap (statements_words p.statements) r.text ∙ sym (statements_push p.statements r.written (words_left new));
  each = each_push p.statements r.written p.each r.opens;
  makes = λ whole more made. subst (λ l. Makes whole [] [] [] l) (sym (append_assoc p.statements (r.written ∷ []) more)) (p.makes whole (r.written ∷ more) (r.makes whole more made));
}

-- ---- the end

-- nothing is left, and there was no fault
pub file_read : (bytes : List ℕ) (i : Input) (f : File) → length bytes ≤ 1048576 → file_fault bytes ≡ None → words_left i ≡ [] → Progress bytes i f → ReadsAs bytes f
file_read bytes i f short none left p =
    let words : List Word = words_of bytes (tokens_at bytes 0) in
    let written = written_of bytes (record { signature = []; joints = 0 }) (m.statements files ∷ []) (sym (file_fault_from bytes short) ∙ none) in
    let grammar : IsFile words p.statements = record { words = sym (p.text ∙ ap (statements_words p.statements) left); each = p.each } in
    let lawful = (lawful_files bytes words p.statements short written grammar).0 none in
    record {
      statements = p.statements;
      reads = record {
        reads = record { words = words; written = written; grammar = grammar; named = lawful.0 };
        short = short;
        within = lawful.1;
      };
      makes = subst (λ l. Makes f [] [] [] l) (append-nil p.statements) (p.makes f [] (refl, refl, refl));
    }

-- ---- refusals

pub refuses_with : (first : Option Fault) (e : ReadError) (before : Option Fault) → first ≡ before → Refuses e before → IsRefusedWith e (λ fault. first ≡ Some fault)
refuses_with first NoMemory before same h = tt
refuses_with first (Refused fault) before same h = same ∙ h

-- ---- one formula

-- the text is a formula up to its end
pub formula_read : (σ : Signature) (bytes : List ℕ) (old new : Input) (p : Formula) (s : Statement) → length bytes ≤ 1048576 → Begins bytes old
    → formula_fault σ bytes ≡ None → words_left new ≡ [] → ReadFormula σ old new p → s.names ≡ new.scope.names → s.body ≡ p → ReadsAsFormula σ bytes s
formula_read σ bytes old new p s short begins none left r names body =
    let words : List Word = words_of bytes (tokens_at bytes 0) in
    let written = written_of bytes (record { signature = σ; joints = 0 }) (m.operand 1 m.open_place ∷ []) (sym (formula_fault_from σ bytes short) ∙ none) in
    let operand = is_operand r s.names names in
    let text : formula_words r.written [] ≡ words = sym (ap (λ (i : Input). words_left i) (sym begins) ∙ r.text ∙ ap (formula_words r.written) left) in
    let grammar : IsFormula words r.written = record { words = text; levelled = operand.levelled } in
    let lawful = (lawful_formulas σ bytes words r.written short written grammar).0 none in
    record {
      reads = record {
        words = words;
        written = written;
        formula = r.written;
        grammar = grammar;
        uses = lawful.0;
        names_are = named r [] s.names (ap (λ (i : Input). i.scope.names) begins) names;
        stands = subst (λ f. Stands σ s.names r.written (form_of f)) (sym body) operand.stands;
      };
      short = short;
      sized = lawful.1;
    }
