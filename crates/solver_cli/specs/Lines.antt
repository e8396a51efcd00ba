-- The line on err and the exit status of each status.
use Rattle.std.specs.Prelude.{ℕ, List, [], ◌++◌, decimal, codes}
use Rattle.solver_cli.specs.Language.{Fault, FaultKind}
use Rattle.formula_grammar.specs.declared.fault.FaultKind.TheVariants.{Byte, Ended, Syntax, Unknown, Twice, Loose, Arity, Sort, Limit}
use Rattle.solver_cli.specs.declared.outcome.Outcome.{Outcome}
use Rattle.solver_cli.specs.declared.outcome.Outcome.TheVariants as outcome
use Rattle.solver_cli.specs.declared.status.Status.{Status}
use Rattle.solver_cli.specs.declared.status.Status.TheVariants.{Done, Refused, Usage, ReadFault, WriteFault, Memory}

abbrev pub kind_word : FaultKind → List ℕ
kind_word Byte = codes "byte"
kind_word Ended = codes "ended"
kind_word Syntax = codes "syntax"
kind_word Unknown = codes "unknown"
kind_word Twice = codes "twice"
kind_word Loose = codes "loose"
kind_word Arity = codes "arity"
kind_word Sort = codes "sort"
kind_word Limit = codes "limit"

-- the line of a fault
abbrev pub fault_line : Fault → List ℕ
fault_line fault = codes "fault " ++ decimal fault.offset ++ codes " " ++ kind_word fault.kind ++ codes "\n"

-- the line of each status other than `Refused`
abbrev pub line_of : Status → List ℕ
line_of Done = []
line_of Refused = []
line_of Usage = codes "fault usage\n"
line_of ReadFault = codes "fault read\n"
line_of WriteFault = codes "fault write\n"
line_of Memory = codes "fault memory\n"

-- the exit status
abbrev pub exit_of : Status → ℕ
exit_of Done = 0
exit_of Refused = 1
exit_of Usage = 2
exit_of ReadFault = 3
exit_of WriteFault = 4
exit_of Memory = 5

-- the status of an outcome
abbrev pub status_of : Outcome → Status
status_of outcome.Done = Done
status_of (outcome.Refused fault) = Refused
status_of outcome.Usage = Usage
status_of outcome.ReadFault = ReadFault
status_of outcome.WriteFault = WriteFault
status_of outcome.Memory = Memory
