use Rattle.std.proofs.Common.{◌≡◌, take}
use Rattle.kept_cubes.specs.Asking.{with_atoms}
use Rattle.working_rules.proofs.round.assert_all.Given as goal

abbrev pub invariant-loop-atom : goal.invariant-loop-atom
invariant-loop-atom l = l.store.scopes ≡ with_atoms (take l.atom-index l.atoms) l.fn.store.scopes
