use Rattle.std.specs.Prelude.{All}
use Rattle.flat_form.specs.declared.cube.Part.{Part}
use Rattle.numbering.specs.Inner.{IsReached}
use Rattle.numbering.proofs.Finished.{Leads}
use Rattle.numbering.proofs.finishing.finish.Given as goal

abbrev pub invariant-loop-part : goal.invariant-loop-part
invariant-loop-part l = All (λ (part : Part). IsReached l.m part.basic) l.parts → Leads l.m l.parts l.done l.part-index
