use Rattle.std.proofs.Common.{◌≡◌, arith, codes}
use Rattle.std.proofs.lemmas.Result.{on_ok_weaker}
use Rattle.generator.specs.Drawing.{always}
use Rattle.generator.specs.Generated.{drawn_variable, other_variables}
use Rattle.generator.proofs.Parts.{wrote_choice, wrote_it}
use Rattle.generator.proofs.terms.write_variable.Goals as goal

pub returns-in-0 : goal.returns-in-0
unfolding drawn_variable
returns-in-0 c =
    on_ok_weaker c.push.result (λ e. wrote_choice (λ x. x) (always (codes "X")) other_variables _ _ _ 0 _ _ _ c.draw.ensures.next_state c.draw.ensures.number c.in-0.is
    (wrote_it (λ x. x) (codes "X") _ _ _ e)) c.push.ensures

pub returns-in-1 : goal.returns-in-1
unfolding drawn_variable
returns-in-1 c =
    on_ok_weaker c.push-in-1.result (λ e. wrote_choice (λ x. x) (always (codes "X")) other_variables _ _ _ 1 _ _ _ c.draw.ensures.next_state c.draw.ensures.number c.in-1.is
    (wrote_it (λ x. x) (codes "Y") _ _ _ e)) c.push-in-1.ensures

pub returns-in_default : goal.returns-in_default
unfolding drawn_variable
returns-in_default c =
    let last : c.draw.result ≡ 2 = omega (arith, c.draw.ensures.below) in
    on_ok_weaker c.push-in_default.result (λ e. wrote_choice (λ x. x) (always (codes "X")) other_variables _ _ _ 2 _ _ _ c.draw.ensures.next_state c.draw.ensures.number last
    (wrote_it (λ x. x) (codes "Z") _ _ _ e)) c.push-in_default.ensures
