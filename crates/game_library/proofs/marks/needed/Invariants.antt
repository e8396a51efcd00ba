use Rattle.formula_ast.specs.Forms.{form_of}
use Rattle.game_library.proofs.Needed.{IsMarkedFrom}
use Rattle.game_library.proofs.marks.needed.Given as goal

abbrev pub invariant-loop-i : goal.invariant-loop-i
invariant-loop-i l = IsMarkedFrom l.file (form_of l.f) l.i l.marks
