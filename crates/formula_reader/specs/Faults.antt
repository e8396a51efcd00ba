-- Which fault a reading call answers, in terms of the first fault by the grammar's machine.
use Rattle.std.specs.Prelude.{◌≡◌, ◌<◌, ℕ, List, ◌∷◌, Option, Some, None}
use Rattle.tree_model.specs.Signatures.{Signature}
use Rattle.formula_ast.specs.declared.token.Token.{Token}
use Rattle.formula_ast.specs.Tokens.{Stream, end, bad, token, Word}
use Rattle.formula_grammar.specs.declared.fault.Fault.{Fault}
use Rattle.formula_grammar.specs.declared.fault.FaultKind.{FaultKind}
use Rattle.formula_grammar.specs.declared.fault.FaultKind.TheVariants.{Byte, Ended, Syntax}
use Rattle.formula_grammar.specs.Words.{word_of}
use Rattle.formula_grammar.specs.Machine.{Symbol, Stack, Role, Move, refused, goes, step, at_end}
use Rattle.formula_grammar.specs.Checks.{Environment, check_all, update_all, sooner}
use Rattle.formula_grammar.specs.FirstFault.{fault_at, judged, fault_from}
use Rattle.formula_reader.specs.declared.error.ReadError.{ReadError}
use Rattle.formula_reader.specs.declared.error.ReadError.TheVariants.{Refused, NoMemory}
use Rattle.formula_reader.specs.Input.{Input, left_of, words_left, environment}

-- ---- the first fault where something is wrong with the next token already, if the grammar allows it

abbrev pub move_with : Option FaultKind → Environment → ℕ → (Environment → Stack → Option Fault) → Move → Option Fault
move_with wrong E offset later refused = fault_at offset Syntax
move_with wrong E offset later (goes roles s) = judged offset (check_all E wrong roles) (later (update_all E roles) s)

abbrev pub ended_with : Option FaultKind → Environment → ℕ → Option (List Role) → Option Fault
ended_with wrong E offset None = fault_at offset Ended
ended_with wrong E offset (Some roles) = judged offset (check_all E wrong roles) None

abbrev pub fault_with : Option FaultKind → List ℕ → Stream → Environment → Stack → Option Fault
fault_with wrong bytes (end at) E s = ended_with wrong E at (at_end s)
fault_with wrong bytes (bad at) E s = fault_at at Byte
fault_with wrong bytes (token t more) E s = move_with wrong E t.from (λ F u. fault_from bytes more F u) (step s (word_of bytes t))

-- the first fault of what is left, where these symbols are expected and these names declared
abbrev pub fault_of : Signature → Input → Stack → Option Fault
fault_of σ i s = fault_with i.pending i.bytes (left_of i) (environment σ i.joints) s

-- ---- what a call answers

-- the error is this fault, unless memory was wanting
abbrev pub Refuses : ReadError → Option Fault → Type 0
Refuses NoMemory before = Unit {0}
Refuses (Refused fault) before = before ≡ Some fault

-- the error is the first fault where this symbol is expected, and any behind it
abbrev pub RefusesAt : Symbol → Signature → Input → ReadError → Type 0
RefusesAt x σ old e = (s : Stack) → Refuses e (fault_of σ old (x ∷ s))

-- the fault of a token that may not stand next
abbrev pub at_next : FaultKind → Stream → Fault
at_next kind (end at) = record { offset = at; kind = Ended }
at_next kind (bad at) = record { offset = at; kind = Byte }
at_next kind (token t more) = record { offset = t.from; kind = kind }

-- nothing is changed of the variables
pub record KeepsNames (old new : Input) : Type 0 where
  pub scope : new.scope ≡ old.scope

-- the next token was taken, with which nothing else was wrong than what was asked
pub record Takes (wrong : Option FaultKind) (old new : Input) : Type 0 where
  pub taken : Token
  pub left : left_of old ≡ token taken (left_of new)
  pub right : sooner old.pending wrong ≡ None
  pub pending : new.pending ≡ None
  pub bytes : new.bytes ≡ old.bytes
  pub on : old.at < new.at

-- the error is the fault of the next token, with which something was wrong, unless memory was wanting
abbrev pub Stops : Option FaultKind → Input → ReadError → Type 0
Stops wrong i NoMemory = Unit {0}
Stops wrong i (Refused fault) = (kind : FaultKind) × (sooner i.pending wrong ≡ Some kind) × (fault ≡ at_next kind (left_of i))

-- this word was read, as a symbol expects it
pub record TakesWord (x : Symbol) (w : Word) (σ : Signature) (old new : Input) : Type 0 where
  pub faults : (s : Stack) → fault_of σ old (x ∷ s) ≡ fault_of σ new s
  pub words : words_left old ≡ w ∷ words_left new
  pub keeps : KeepsNames old new
  pub bytes : new.bytes ≡ old.bytes
  pub on : old.at < new.at
