use Rattle.std.proofs.Common.{take}
use Rattle.flat_form.specs.Steps.{WithoutIdle}
use Rattle.cube_reduction.proofs.clearing.busy.Given as goal

abbrev pub invariant-loop-part : goal.invariant-loop-part
invariant-loop-part l = WithoutIdle l.idle (take l.part-index l.parts) l.busy
