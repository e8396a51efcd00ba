use Rattle.std.proofs.Common.{List, Bool}
use Rattle.flat_form.specs.declared.atom.Flat.{Flat}
use Rattle.basic_solver.specs.Outcomes.{AreTables, IsListed}
use Rattle.basic_solver.specs.Bases.{AreBound, AreSaid}
use Rattle.basic_solver.proofs.listing.lines.Given as goal

abbrev pub invariant-loop-v : goal.invariant-loop-v
invariant-loop-v l = (leads : List Bool) (base : List Flat) → AreTables leads l.names l.notes.marks.items base l.atoms
    → AreBound base l.notes.bound.items → AreSaid l.names base l.notes.said.items → IsListed l.v base l.atoms l.lines
