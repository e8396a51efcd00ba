use Rattle.std.proofs.Common.{◌≡◌, [], add-zero, ap, ◌∙◌, refl}
use Rattle.flat_form.specs.Normals.{norm}
use Rattle.flattening.proofs.Norms.{pushed, none_made, norm_rolled}
use Rattle.flattening.specs.Flattening.{bound_of}
use Rattle.flattening.specs.Plain.{exists, no, and, imply}
use Rattle.flattening.specs.Tables.{cubes_at}
use Rattle.flattening.proofs.ByForm.{plain, plain_true, plain_false, plain_equal, plain_differ, plain_finite, plain_call, plain_win, plain_no, plain_and, plain_or, plain_imp, plain_iff, plain_exists, plain_forall, normal_built, none_bound, bound_same, and_bound, exists_bound, no_parts, still_no_parts, one_part, still_one_part, asked_at, one_number, parts_built, and_added, or_added, imply_added, iff_added, exists_added, forall_added, implied_made, imply_step, same_numbers, turned}
use Rattle.flattening.proofs.conjunctions.+parts.Goals as goal

pub add_parts-returns-in_ok-after-in-Exists-clause-parts : goal.add_parts-returns-in_ok-after-in-Exists-clause-parts
add_parts-returns-in_ok-after-in-Exists-clause-parts t c =
    let e : plain c.args.formula.now ≡ exists c.in-Exists.variable (plain c.get-in-Exists.result.now) =
    ap plain c.in-Exists.is ∙ rw c.get-in-Exists.ensures (plain_exists _ _) in
    exists_added _ _ _ _ _ _ _ _ _ _ _ e c.in_ok-give-in-Exists.ensures.ok c.in_ok-behind-in-Exists.ensures c.in_ok-after-in-Exists.ensures.parts

pub add_parts-returns-in_ok-push-in-Forall-clause-parts : goal.add_parts-returns-in_ok-push-in-Forall-clause-parts
add_parts-returns-in_ok-push-in-Forall-clause-parts t c =
    let e : plain c.args.formula.now ≡ no (exists c.in-Forall.variable (no (plain c.get-in-Forall.result.now))) =
    ap plain c.in-Forall.is ∙ rw c.get-in-Forall.ensures (plain_forall _ _) in
    forall_added _ _ _ _ _ _ _ _ _ _ _ _ _ _ _ e c.in_ok-give-in-Forall.ensures.ok c.in_ok-behind-in-Forall.ensures c.in_ok-part-in-Forall.ensures.normal
    c.in_ok-only-in-Forall.ensures c.new-in-Forall.ensures (norm_rolled _ _ _) (pushed _ _ _ c.in_ok-push-in-Forall.ensures.ok)

pub add_parts-returns-in_ok-push-in-Imp-clause-parts : goal.add_parts-returns-in_ok-push-in-Imp-clause-parts
add_parts-returns-in_ok-push-in-Imp-clause-parts t c =
    let e : plain c.args.formula.now ≡ imply (plain c.get-in-Imp.result.now) (plain c.get-in-Imp-2.result.now) =
    ap plain c.in-Imp.is ∙ rw (c.get-in-Imp.ensures, c.get-in-Imp-2.ensures) (plain_imp _ _) in
    let made = imply_step (cubes_at c.args.table.now) _ _ c.args.scope _ (plain c.get-in-Imp-2.result.now) _ _ c.in_ok-premise-in-Imp.ensures.numbers
    c.in_ok-premise-in-Imp.ensures.normal c.in_ok-implied-in-Imp.ensures.normal in
    imply_added _ _ _ _ _ _ _ _ _ _ e made (pushed _ _ _ c.in_ok-push-in-Imp.ensures.ok)

pub add_parts-returns-in_ok-push-in-Iff-2-clause-parts : goal.add_parts-returns-in_ok-push-in-Iff-2-clause-parts
add_parts-returns-in_ok-push-in-Iff-2-clause-parts t c =
    let e : plain c.args.formula.now ≡ and (imply (plain c.get-in-Iff.result.now) (plain c.get-in-Iff-2.result.now)) (imply (plain c.get-in-Iff-2.result.now) (plain c.get-in-Iff.result.now)) =
    ap plain c.in-Iff.is ∙ rw (c.get-in-Iff.ensures, c.get-in-Iff-2.ensures) (plain_iff _ _) in
    let right : plain c.get-in-Iff-3.result.now ≡ plain c.get-in-Iff-2.result.now = rw (c.get-in-Iff-3.ensures, c.get-in-Iff-2.ensures) refl in
    let left : plain c.get-in-Iff-4.result.now ≡ plain c.get-in-Iff.result.now = rw (c.get-in-Iff-4.ensures, c.get-in-Iff.ensures) refl in
    let first = imply_step (cubes_at c.args.table.now) _ _ c.args.scope _ (plain c.get-in-Iff-2.result.now) _ _ c.in_ok-first-in-Iff.ensures.numbers
    c.in_ok-first-in-Iff.ensures.normal c.in_ok-implied-in-Iff.ensures.normal in
    let second = imply_step (cubes_at c.args.table.now) _ _ c.args.scope _ (plain c.get-in-Iff-4.result.now) _ _ c.in_ok-second-in-Iff.ensures.numbers
    c.in_ok-second-in-Iff.ensures.normal c.in_ok-implied-in-Iff-2.ensures.normal in
    let before = same_numbers (cubes_at c.args.table.now) _ _ c.args.scope _ _ _ (c.in_ok-implied-in-Iff.ensures.numbers ∙ c.in_ok-first-in-Iff.ensures.numbers) second in
    iff_added _ _ _ _ _ _ _ _ _ _ _ _ e first (pushed _ _ _ c.in_ok-push-in-Iff.ensures.ok)
    (turned (cubes_at c.args.table.now) _ c.args.scope _ _ _ _ _ right left before) (pushed _ _ _ c.in_ok-push-in-Iff-2.ensures.ok)

pub implied-returns-clause-normal : goal.implied-returns-clause-normal
implied-returns-clause-normal t c left is =
    implied_made _ _ _ _ _ _ _ _ _ is c.in_ok-after.ensures c.in_ok-conclusion.ensures.normal c.in_ok-implied.ensures

pub add_parts-returns-in-True-clause-after : goal.add_parts-returns-in-True-clause-after
add_parts-returns-in-True-clause-after t c =
    none_bound _ _ (ap bound_of (ap plain c.in-True.is ∙ plain_true))

pub add_parts-returns-in_ok-push-in-False-clause-after : goal.add_parts-returns-in_ok-push-in-False-clause-after
add_parts-returns-in_ok-push-in-False-clause-after t c =
    none_bound _ _ (ap bound_of (ap plain c.in-False.is ∙ plain_false))

pub add_parts-returns-in_ok-push-in-Differ-clause-after : goal.add_parts-returns-in_ok-push-in-Differ-clause-after
add_parts-returns-in_ok-push-in-Differ-clause-after t c =
    none_bound _ _ (ap bound_of (ap plain c.in-Differ.is ∙ plain_differ _ _))

pub add_parts-returns-in_ok-push-in-Not-clause-after : goal.add_parts-returns-in_ok-push-in-Not-clause-after
add_parts-returns-in_ok-push-in-Not-clause-after t c =
    none_bound _ _ (ap bound_of (ap plain c.in-Not.is ∙ plain_no _))

pub add_parts-returns-in_ok-add_some_fails-in-Or-clause-after : goal.add_parts-returns-in_ok-add_some_fails-in-Or-clause-after
add_parts-returns-in_ok-add_some_fails-in-Or-clause-after t c =
    none_bound _ _ (ap bound_of (ap plain c.in-Or.is ∙ plain_or _ _))

pub add_parts-returns-in_ok-push-in-Imp-clause-after : goal.add_parts-returns-in_ok-push-in-Imp-clause-after
add_parts-returns-in_ok-push-in-Imp-clause-after t c =
    none_bound _ _ (ap bound_of (ap plain c.in-Imp.is ∙ plain_imp _ _))

pub add_parts-returns-in_ok-push-in-Iff-2-clause-after : goal.add_parts-returns-in_ok-push-in-Iff-2-clause-after
add_parts-returns-in_ok-push-in-Iff-2-clause-after t c =
    none_bound _ _ (ap bound_of (ap plain c.in-Iff.is ∙ plain_iff _ _))

pub add_parts-returns-in_ok-push-in-Forall-clause-after : goal.add_parts-returns-in_ok-push-in-Forall-clause-after
add_parts-returns-in_ok-push-in-Forall-clause-after t c =
    none_bound _ _ (ap bound_of (ap plain c.in-Forall.is ∙ plain_forall _ _))

pub add_parts-returns-in-Eq-clause-after : goal.add_parts-returns-in-Eq-clause-after
add_parts-returns-in-Eq-clause-after t c =
    bound_same _ _ _ _ (ap bound_of (ap plain c.in-Eq.is ∙ plain_equal _ _)) c.behind_equality.ensures

pub add_parts-returns-in-Finite-clause-after : goal.add_parts-returns-in-Finite-clause-after
add_parts-returns-in-Finite-clause-after t c =
    bound_same _ _ _ _ (ap bound_of (ap plain c.in-Finite.is ∙ plain_finite _)) c.behind_term.ensures

pub add_parts-returns-in_ok-push-in-Call-clause-after : goal.add_parts-returns-in_ok-push-in-Call-clause-after
add_parts-returns-in_ok-push-in-Call-clause-after t c =
    bound_same _ _ _ _ (ap bound_of (ap plain c.in-Call.is ∙ plain_call _ _)) c.behind_terms.ensures

pub add_parts-returns-in_ok-push-in-Win-2-clause-after : goal.add_parts-returns-in_ok-push-in-Win-2-clause-after
add_parts-returns-in_ok-push-in-Win-2-clause-after t c =
    bound_same _ _ _ _ (ap bound_of (ap plain c.in-Win.is ∙ plain_win _ _ _) ∙ add-zero _) c.behind_term-in-Win.ensures

pub add_parts-returns-in_ok-last-in-And-clause-after : goal.add_parts-returns-in_ok-last-in-And-clause-after
add_parts-returns-in_ok-last-in-And-clause-after t c =
    let e : plain c.args.formula.now ≡ and (plain c.get-in-And.result.now) (plain c.get-in-And-2.result.now) =
    ap plain c.in-And.is ∙ rw (c.get-in-And.ensures, c.get-in-And-2.ensures) (plain_and _ _) in
    and_bound _ _ _ _ _ _ e c.in_ok-after-in-And.ensures.after c.in_ok-last-in-And.ensures.after

pub add_parts-returns-in_ok-after-in-Exists-clause-after : goal.add_parts-returns-in_ok-after-in-Exists-clause-after
add_parts-returns-in_ok-after-in-Exists-clause-after t c =
    let e : plain c.args.formula.now ≡ exists c.in-Exists.variable (plain c.get-in-Exists.result.now) =
    ap plain c.in-Exists.is ∙ rw c.get-in-Exists.ensures (plain_exists _ _) in
    exists_bound _ _ _ _ _ _ e c.in_ok-behind-in-Exists.ensures c.in_ok-after-in-Exists.ensures.after

pub add_parts-returns-in-True-clause-parts : goal.add_parts-returns-in-True-clause-parts
add_parts-returns-in-True-clause-parts t c =
    no_parts (cubes_at c.args.table.now) _ _ _ _ _ _ (ap plain c.in-True.is ∙ plain_true) refl

pub add_parts-returns-in-Eq-clause-parts : goal.add_parts-returns-in-Eq-clause-parts
add_parts-returns-in-Eq-clause-parts t c =
    still_no_parts (cubes_at c.args.table.now) _ _ _ _ _ _ _ (ap plain c.in-Eq.is ∙ plain_equal _ _) refl

pub add_parts-returns-in-Finite-clause-parts : goal.add_parts-returns-in-Finite-clause-parts
add_parts-returns-in-Finite-clause-parts t c =
    still_no_parts (cubes_at c.args.table.now) _ _ _ _ _ _ _ (ap plain c.in-Finite.is ∙ plain_finite _) refl

pub add_parts-returns-in_ok-push-in-False-clause-parts : goal.add_parts-returns-in_ok-push-in-False-clause-parts
add_parts-returns-in_ok-push-in-False-clause-parts t c =
    one_part (cubes_at c.args.table.now) _ _ _ _ _ _ _ _ _ (ap plain c.in-False.is ∙ plain_false) refl (c.none_of.ensures ∙ ap (norm 0 []) (none_made _ c.new.ensures)) (pushed _ _ _ c.in_ok-push-in-False.ensures.ok)

pub add_parts-returns-in_ok-push-in-Differ-clause-parts : goal.add_parts-returns-in_ok-push-in-Differ-clause-parts
add_parts-returns-in_ok-push-in-Differ-clause-parts t c =
    one_part (cubes_at c.args.table.now) _ _ _ _ _ _ _ _ _ (ap plain c.in-Differ.is ∙ plain_differ _ _) refl c.in_ok-differ-in-Differ.ensures (pushed _ _ _ c.in_ok-push-in-Differ.ensures.ok)

pub add_parts-returns-in_ok-push-in-Not-clause-parts : goal.add_parts-returns-in_ok-push-in-Not-clause-parts
add_parts-returns-in_ok-push-in-Not-clause-parts t c =
    let e : plain c.args.formula.now ≡ no (plain c.get.result.now) = ap plain c.in-Not.is ∙ rw c.get.ensures (plain_no _) in
    one_part (cubes_at c.args.table.now) _ _ _ _ _ _ _ _ _ e refl c.in_ok-negated-in-Not.ensures.normal (pushed _ _ _ c.in_ok-push-in-Not.ensures.ok)

pub add_parts-returns-in_ok-push-in-Call-clause-parts : goal.add_parts-returns-in_ok-push-in-Call-clause-parts
add_parts-returns-in_ok-push-in-Call-clause-parts t c =
    still_one_part (cubes_at c.args.table.now) _ _ _ _ _ _ _ _ _ _ (ap plain c.in-Call.is ∙ plain_call _ _) refl (asked_at (cubes_at c.args.table.now) _ _ _ _ _ c.in_ok-args-in-Call.ensures c.in_ok-asked-in-Call.ensures)
    (pushed _ _ _ c.in_ok-push-in-Call.ensures.ok)

pub add_parts-returns-in_ok-push-in-Win-2-clause-parts : goal.add_parts-returns-in_ok-push-in-Win-2-clause-parts
add_parts-returns-in_ok-push-in-Win-2-clause-parts t c =
    still_one_part (cubes_at c.args.table.now) _ _ _ _ _ _ _ _ _ _ (ap plain c.in-Win.is ∙ plain_win _ _ _) refl (asked_at (cubes_at c.args.table.now) _ _ _ _ _ (one_number _ _ _ _ c.new-args.ensures c.in_ok-push-in-Win.ensures.ok c.number_of.ensures) c.in_ok-asked-in-Win.ensures)
    (pushed _ _ _ c.in_ok-push-in-Win-2.ensures.ok)

pub add_parts-returns-in_ok-last-in-And-clause-parts : goal.add_parts-returns-in_ok-last-in-And-clause-parts
add_parts-returns-in_ok-last-in-And-clause-parts t c =
    let e : plain c.args.formula.now ≡ and (plain c.get-in-And.result.now) (plain c.get-in-And-2.result.now) =
    ap plain c.in-And.is ∙ rw (c.get-in-And.ensures, c.get-in-And-2.ensures) (plain_and _ _) in
    and_added (cubes_at c.args.table.now) _ _ _ _ _ _ _ _ _ _ _ e c.in_ok-after-in-And.ensures.after c.in_ok-after-in-And.ensures.numbers c.in_ok-after-in-And.ensures.parts c.in_ok-last-in-And.ensures.parts

pub add_parts-returns-in_ok-add_some_fails-in-Or-clause-parts : goal.add_parts-returns-in_ok-add_some_fails-in-Or-clause-parts
add_parts-returns-in_ok-add_some_fails-in-Or-clause-parts t c =
    let e : plain c.args.formula.now ≡ no (and (no (plain c.get-in-Or.result.now)) (no (plain c.get-in-Or-2.result.now))) =
    ap plain c.in-Or.is ∙ rw (c.get-in-Or.ensures, c.get-in-Or-2.ensures) (plain_or _ _) in
    or_added (cubes_at c.args.table.now) _ _ _ _ _ _ _ _ _ _ _ e c.in_ok-first-in-Or.ensures.normal c.in_ok-first-in-Or.ensures.numbers c.in_ok-other-in-Or.ensures.normal c.in_ok-add_some_fails-in-Or.ensures

pub negated-returns-clause-normal : goal.negated-returns-clause-normal
negated-returns-clause-normal t c =
    norm_rolled _ _ _ ∙ normal_built _ _ _ _ _ _ _ _ c.in_ok-after.ensures.after c.new-basic.ensures c.in_ok-after.ensures.atoms
    (parts_built (cubes_at c.args.table.now) _ _ _ _ _ _ _ _ c.in_ok-after.ensures.after (none_made _ c.new-parts.ensures) c.in_ok-after.ensures.numbers c.in_ok-add_parts.ensures.parts)
