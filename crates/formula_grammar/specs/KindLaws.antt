-- Laws of the kinds of faults, and of what a fault depends on.
use Rattle.std.specs.Prelude.{◌≡◌, ◌≢◌, ℕ, ◌≤◌, List, [], ◌∷◌, length, Some}
use Rattle.tree_model.specs.Signatures.{Signature}
use Rattle.formula_ast.specs.declared.token.Token.{Token}
use Rattle.formula_ast.specs.Tokens.{Stream, token, tokens_at, Word}
use Rattle.formula_grammar.specs.declared.fault.Fault.{Fault}
use Rattle.formula_grammar.specs.declared.fault.FaultKind.{FaultKind}
use Rattle.formula_grammar.specs.declared.fault.FaultKind.TheVariants.{Byte, Ended, Syntax}
use Rattle.formula_grammar.specs.Limits.{most_bytes}
use Rattle.formula_grammar.specs.Words.{word_of}
use Rattle.formula_grammar.specs.Grammar.{files}
use Rattle.formula_grammar.specs.Machine.{statements, operand, open_place}
use Rattle.formula_grammar.specs.Checks.{start}
use Rattle.formula_grammar.specs.Begins.{BeginsWith}
use Rattle.formula_grammar.specs.FirstFault.{file_fault, formula_fault}
use Rattle.formula_grammar.specs.Kinds.{StandsBehind}

-- a kind that the grammar alone does not give
pub record LooksFurther (kind : FaultKind) : Type 0 where
  pub syntax : kind ≢ Syntax
  pub ended : kind ≢ Ended
  pub byte : kind ≢ Byte

-- a first fault that is not of the grammar has the first kind of what is wrong where it stands
abbrev pub FileKindsSayWhy : Type 0
FileKindsSayWhy = (bytes : List ℕ) (fault : Fault) → length bytes ≤ most_bytes → file_fault bytes ≡ Some fault → LooksFurther fault.kind
    → StandsBehind (start []) (statements files ∷ []) bytes (tokens_at bytes 0) fault

abbrev pub FormulaKindsSayWhy : Type 0
FormulaKindsSayWhy = (σ : Signature) (bytes : List ℕ) (fault : Fault) → length bytes ≤ most_bytes → formula_fault σ bytes ≡ Some fault
    → LooksFurther fault.kind → StandsBehind (start σ) (operand 1 open_place ∷ []) bytes (tokens_at bytes 0) fault

-- two texts that begin with the same words, and then have a token with the same word each
pub record BeginAlike (bytes other : List ℕ) (t u : Token) : Type 0 where
  pub short : length bytes ≤ most_bytes
  pub short_other : length other ≤ most_bytes
  pub before : List Word
  pub more : Stream
  pub more_other : Stream
  pub tokens : BeginsWith bytes (tokens_at bytes 0) before (token t more)
  pub tokens_other : BeginsWith other (tokens_at other 0) before (token u more_other)
  pub same : word_of bytes t ≡ word_of other u

-- where the first fault stands at a token, what comes behind the token does not count
abbrev pub FileFaultsLookNoFurther : Type 0
FileFaultsLookNoFurther = (bytes other : List ℕ) (t u : Token) (kind : FaultKind) → BeginAlike bytes other t u
    → file_fault bytes ≡ Some (record { offset = t.from; kind = kind }) → file_fault other ≡ Some (record { offset = u.from; kind = kind })

abbrev pub FormulaFaultsLookNoFurther : Type 0
FormulaFaultsLookNoFurther = (σ : Signature) (bytes other : List ℕ) (t u : Token) (kind : FaultKind) → BeginAlike bytes other t u
    → formula_fault σ bytes ≡ Some (record { offset = t.from; kind = kind }) → formula_fault σ other ≡ Some (record { offset = u.from; kind = kind })
