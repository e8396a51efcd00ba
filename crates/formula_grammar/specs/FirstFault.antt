-- The first fault of an input.
use Rattle.std.specs.Prelude.{ℕ, List, [], ◌∷◌, length, Option, Some, None, if◌then◌else◌, nat_lt}
use Rattle.formula_ast.specs.Tokens.{Stream, end, bad, token, tokens_at}
use Rattle.tree_model.specs.Signatures.{Signature}
use Rattle.formula_grammar.specs.declared.fault.Fault.{Fault}
use Rattle.formula_grammar.specs.declared.fault.FaultKind.{FaultKind}
use Rattle.formula_grammar.specs.declared.fault.FaultKind.TheVariants.{Byte, Ended, Syntax, Limit}
use Rattle.formula_grammar.specs.Limits.{most_bytes}
use Rattle.formula_grammar.specs.Words.{word_of}
use Rattle.formula_grammar.specs.Grammar.{files}
use Rattle.formula_grammar.specs.Machine.{Stack, statements, operand, open_place, Role, Move, refused, goes, step, at_end}
use Rattle.formula_grammar.specs.Checks.{Environment, start, check_all, update_all}

abbrev pub fault_at : ℕ → FaultKind → Option Fault
fault_at offset kind = Some (record { offset = offset; kind = kind })

-- the fault of this kind, if there is one, else the later one
abbrev pub judged : ℕ → Option FaultKind → Option Fault → Option Fault
judged offset None later = later
judged offset (Some kind) later = fault_at offset kind

-- the first fault from a token on, where the machine moves in this way
abbrev pub at_move : Environment → ℕ → (Environment → Stack → Option Fault) → Move → Option Fault
at_move E offset later refused = fault_at offset Syntax
at_move E offset later (goes roles s) = judged offset (check_all E None roles) (later (update_all E roles) s)

-- the fault of the end of the input, if it has one
abbrev pub ended : Environment → ℕ → Option (List Role) → Option Fault
ended E offset None = fault_at offset Ended
ended E offset (Some roles) = judged offset (check_all E None roles) None

-- the first fault of the tokens of a text that are to be what the symbols ask for
abbrev pub fault_from : List ℕ → Stream → Environment → Stack → Option Fault
fault_from bytes (end at) E s = ended E at (at_end s)
fault_from bytes (bad at) E s = fault_at at Byte
fault_from bytes (token t more) E s = at_move E t.from (λ E' s'. fault_from bytes more E' s') (step s (word_of bytes t))

-- the first fault of a text that is to be what the symbols ask for, where these names are declared
abbrev pub fault_of_text : Signature → Stack → List ℕ → Option Fault
fault_of_text σ s bytes =
    if nat_lt most_bytes (length bytes) then fault_at most_bytes Limit
    else fault_from bytes (tokens_at bytes 0) (start σ) s

-- the first fault of a text as a file
unfoldable pub file_fault : List ℕ → Option Fault
file_fault bytes = fault_of_text [] (statements files ∷ []) bytes

-- the first fault of a text as a formula over declared names
unfoldable pub formula_fault : Signature → List ℕ → Option Fault
formula_fault σ bytes = fault_of_text σ (operand 1 open_place ∷ []) bytes
