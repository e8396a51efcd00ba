use Rattle.std.proofs.Common.{ℕ, ◌≡◌, ◌+◌, List, refl, subst, sym, ap, ◌∙◌, arith}
use Rattle.std.specs.Prelude.{IfOk}
use Rattle.flat_form.specs.declared.atom.Flat.{Flat}
use Rattle.basic_solver.specs.Stores.{open_in, atoms_of}
use Rattle.kept_cubes.specs.Asking.{HoldsTogether}
use Rattle.kept_cubes.proofs.WithAtoms.{pushed_open, pushed_atoms, popped}
use Rattle.kept_cubes.proofs.asking.holds_together.Goals as goal

pub holds_in_top-found-requires-clause-counted : goal.holds_in_top-found-requires-clause-counted
holds_in_top-found-requires-clause-counted c =
    omega (arith, pushed_open c.args.store.now.scopes c.push.new.self.scopes _ c.in_ok-push.ensures.ok, c.requires.counted, c.requires.free, c.in-Some.ensures)

pub returns-clause-stays : goal.returns-clause-stays
returns-clause-stays c =
    popped c.args.store.now.scopes c.push.new.self.scopes c.holds_in_top-found.new.store.scopes c.pop.new.self.scopes _ c.in_ok-push.ensures.ok c.holds_in_top-found.ensures.lower c.pop.ensures

pub returns-clause-answer : goal.returns-clause-answer
returns-clause-answer c =
    subst (λ (z : List Flat). IfOk c.holds_in_top-found.result (HoldsTogether z c.args.c.now))
    (pushed_atoms c.args.store.now.scopes c.push.new.self.scopes _ c.in_ok-push.ensures.ok refl) c.holds_in_top-found.ensures.answer
