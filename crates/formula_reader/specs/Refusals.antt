-- What a refusal says.
use Rattle.formula_grammar.specs.declared.fault.Fault.{Fault}
use Rattle.formula_reader.specs.declared.error.ReadError.{ReadError}
use Rattle.formula_reader.specs.declared.error.ReadError.TheVariants.{Refused, NoMemory}

-- the error is the refusal of a fault with P, unless memory was wanting
abbrev pub IsRefusedWith : ReadError → (Fault → Type 0) → Type 0
IsRefusedWith (Refused fault) P = P fault
IsRefusedWith NoMemory P = Unit {0}
