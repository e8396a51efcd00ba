use Rattle.std.proofs.Common.{ℕ, ◌≡◌, ◌+◌, List, subst, sym, ap, ◌∙◌, arith}
use Rattle.std.specs.Prelude.{IfOk}
use Rattle.flat_form.specs.declared.atom.Flat.{Flat}
use Rattle.flat_form.specs.Numbering.{BasicOver}
use Rattle.basic_solver.specs.declared.scope.Scope.{Scope}
use Rattle.basic_solver.specs.Stores.{open_in, atoms_of, below}
use Rattle.kept_cubes.specs.Asking.{FailsSomewhere}
use Rattle.kept_cubes.proofs.WithAtoms.{pushed_over, pushed_open, pushed_top, popped}
use Rattle.kept_cubes.proofs.asking.fails_somewhere.Goals as goal

pub fails_in_top-found-requires-clause-empty : goal.fails_in_top-found-requires-clause-empty
fails_in_top-found-requires-clause-empty c = pushed_top c.args.store.now.scopes c.push.new.self.scopes _ c.in_ok-push.ensures.ok

pub fails_in_top-found-requires-clause-over : goal.fails_in_top-found-requires-clause-over
fails_in_top-found-requires-clause-over c =
    let count : open_in c.push.new.self.scopes ≡ c.args.m + c.args.part.now.inner =
    pushed_open c.args.store.now.scopes c.push.new.self.scopes _ c.in_ok-push.ensures.ok ∙ ap (λ (n : ℕ). n + c.args.part.now.inner) (sym c.requires.counted) in
    subst (λ (z : List Flat). BasicOver (open_in c.push.new.self.scopes) z) (sym c.as_slice.ensures)
    (subst (λ (n : ℕ). BasicOver n c.args.part.now.basic) (sym count) c.requires.over)

pub returns-clause-stays : goal.returns-clause-stays
returns-clause-stays c =
    popped c.args.store.now.scopes c.push.new.self.scopes c.fails_in_top-found.new.store.scopes c.pop.new.self.scopes _ c.in_ok-push.ensures.ok c.fails_in_top-found.ensures.lower c.pop.ensures

pub returns-clause-answer : goal.returns-clause-answer
returns-clause-answer c =
    subst (λ (z : List Flat). IfOk c.fails_in_top-found.result (FailsSomewhere c.args.m (atoms_of c.args.store.now.scopes) z)) c.as_slice.ensures
    (subst (λ (z : List Scope). IfOk c.fails_in_top-found.result (FailsSomewhere c.args.m (atoms_of z) c.as_slice.result.now))
    (pushed_over c.args.store.now.scopes c.push.new.self.scopes _ c.in_ok-push.ensures.ok) c.fails_in_top-found.ensures.answer)
