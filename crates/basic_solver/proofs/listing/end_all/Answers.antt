use Rattle.std.proofs.Common.{List, Bool, subst}
use Rattle.std.specs.Prelude.{All, IsTrue, ◌↔◌}
use Rattle.basic_solver.specs.Outcomes.{IsFiniteDone}
use Rattle.basic_solver.proofs.Answering.{equations_solvable, done_tells}
use Rattle.basic_solver.proofs.listing.end_all.Goals as goal

pub returns-then-are_equations : goal.returns-then-are_equations
returns-then-are_equations c = λ classes. equations_solvable c.args.names.now c.args.atoms.now classes (c.are_equations.ensures.0 c.if-are_equations.true)

pub returns : goal.returns
returns c = λ classes.
    let names = c.args.names.now in
    let atoms = c.args.atoms.now in
    let done = c.in_ok-done.done.items in
    let tells = subst (λ (z : List Bool). IsTrue c.are_finite.result ↔ All (IsFiniteDone names z) atoms) c.as_slice.ensures.value c.are_finite.ensures in
    done_tells c.are_finite.result names atoms done tells c.requires.over classes (c.in_ok-done.ensures.grounded classes)
