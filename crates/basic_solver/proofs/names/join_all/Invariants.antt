use Rattle.std.proofs.Common.{ℕ, ◌≡◌, ◌<◌, List, length}
use Rattle.std.specs.Prelude.{slice_index, MatchBool}
use Rattle.flat_form.specs.declared.atom.Flat.{Flat}
use Rattle.flat_form.specs.Classes.{Class}
use Rattle.basic_solver.specs.Names.{name_in, IsNaming, IsSound, weight}
use Rattle.basic_solver.proofs.names.join_all.Given as goal

abbrev pub invariant-loop-i : goal.invariant-loop-i
invariant-loop-i l = record {
  naming : IsNaming l.leads l.names.items;
  sound : (atoms : List Flat) → ((k : ℕ) → k < length l.xs → Class atoms (slice_index l.xs k) (slice_index l.ys k))
      → IsSound atoms l.initial.names.items → IsSound atoms l.names.items;
  told : MatchBool l.changed (weight l.leads l.names.items < weight l.leads l.initial.names.items)
      ((l.names.items ≡ l.initial.names.items)
      × ((k : ℕ) → k < l.i → name_in l.initial.names.items (slice_index l.xs k) ≡ name_in l.initial.names.items (slice_index l.ys k)));
}
