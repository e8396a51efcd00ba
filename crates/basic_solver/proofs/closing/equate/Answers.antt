use Rattle.std.proofs.Common.{subst}
use Rattle.std.specs.Prelude.{Contains}
use Rattle.flat_form.specs.Classes.{stated}
use Rattle.basic_solver.proofs.closing.equate.Goals as goal

pub returns-in-VarVar-clause-sound : goal.returns-in-VarVar-clause-sound
returns-in-VarVar-clause-sound c = λ atoms inside sound.
    c.join.ensures.sound atoms (stated (subst (λ z. Contains atoms z) c.in-VarVar.is inside)) sound
