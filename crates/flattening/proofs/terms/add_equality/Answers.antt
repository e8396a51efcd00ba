use Rattle.std.proofs.Common.{ap, ◌∙◌}
use Rattle.flattening.specs.Plain.{term_of}
use Rattle.flattening.proofs.Steps.{both_added}
use Rattle.flattening.proofs.Ties.{applied_term}
use Rattle.flattening.proofs.terms.add_equality.Goals as goal

pub returns-in_ok-after-in-App-App-clause-atoms : goal.returns-in_ok-after-in-App-App-clause-atoms
returns-in_ok-after-in-App-App-clause-atoms c =
    both_added _ _ _ _ _ _ _ _ _ _ _ _ _ (ap term_of c.in-App-App.is-0 ∙ applied_term c.in-App-App.field-0-0 c.in-App-App.field-1-0)
    (ap term_of c.in-App-App.is-1 ∙ applied_term c.in-App-App.field-0-1 c.in-App-App.field-1-1)
    c.in_ok-behind-in-App-App.ensures c.in_ok-middle-in-App-App.ensures.after c.in_ok-middle-in-App-App.ensures.atoms c.in_ok-after-in-App-App.ensures.atoms
