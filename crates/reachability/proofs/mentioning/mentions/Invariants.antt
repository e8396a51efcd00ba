use Rattle.std.proofs.Common.{take}
use Rattle.std.specs.Prelude.{All, Contains}
use Rattle.flat_form.specs.Parts.{variables_of}
use Rattle.reachability.proofs.mentioning.mentions.Given as goal

abbrev pub invariant-loop-atom : goal.invariant-loop-atom
invariant-loop-atom l = All (λ atom. ¬ Contains (variables_of atom) l.v) (take l.atom-index l.p.basic)
