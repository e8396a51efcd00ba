-- Atoms in scopes.
use Rattle.std.proofs.Common.{[], ◌++◌}
use Rattle.std.proofs.lemmas.List.Elements.{All-append}
use Rattle.flat_form.specs.Meanings.{BasicHolds}
use Rattle.flat_form.specs.Fitting.{AtomFits, BasicFits}
use Rattle.flat_form.specs.Solved.{IsDirect}
use Rattle.flat_facts.specs.StoreLaws.{TogetherSolvable, AddedMeansMore, NothingAddedToStore}
use Rattle.flat_facts.proofs.Existence.{solvable_solution}
use Rattle.flat_facts.proofs.FiniteReached.{added_suffices}
use Rattle.flat_facts.proofs.Follows.{added_follows, added_fits}
use Rattle.flat_facts.proofs.Lists.{both_hold, later_holds, front_holds}
use Rattle.flat_facts.proofs.Shapes.{solved_form_solved}
use Rattle.flat_facts.proofs.Solutions.{solved_form_means, nothing_where_implied}

pub together_solvable : TogetherSolvable
together_solvable σ below solved more form fits more_fits =
    let fit : BasicFits σ (solved ++ more) = All-append (AtomFits σ) solved more (added_fits σ [] below solved fits form) more_fits in
    let law = solvable_solution σ (solved ++ more) fit in (
      λ some. law.0 (λ none. some (λ (e, (in_below, in_more)).
          none (e, both_hold e solved more ((solved_form_means σ below solved e form).1 in_below) in_more))),
      λ solvable none. law.1 solvable (λ (e, holds).
          none (e, ((solved_form_means σ below solved e form).0 (front_holds e solved more holds), later_holds e solved more holds))),
    )

pub added_means_more : AddedMeansMore
added_means_more σ below solved more added e form adds in_below =
    let in_solved : BasicHolds e solved = (solved_form_means σ below solved e form).1 in_below in
    let direct : IsDirect solved = (solved_form_solved below solved form).direct in (
      λ holds. added_suffices σ solved more added e direct adds in_solved holds,
      λ holds. added_follows σ solved (solved ++ more) added e adds (both_hold e solved more in_solved holds),
    )

pub nothing_to_store : NothingAddedToStore
nothing_to_store σ below solved more added form adds fits =
    let law = nothing_where_implied σ solved more added (solved_form_solved below solved form) (added_fits σ [] below solved fits form) adds in (
      λ empty e in_below. law.0 empty e ((solved_form_means σ below solved e form).1 in_below),
      λ implied. law.1 (λ e in_solved. implied e ((solved_form_means σ below solved e form).0 in_solved)),
    )
