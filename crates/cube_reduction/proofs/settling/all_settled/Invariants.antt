use Rattle.cube_reduction.proofs.SettledParts.{AreSettled}
use Rattle.cube_reduction.proofs.settling.all_settled.Given as goal

abbrev pub invariant-loop-part : goal.invariant-loop-part
invariant-loop-part l = AreSettled l.over.count l.over.base l.parts l.part-index l.all
