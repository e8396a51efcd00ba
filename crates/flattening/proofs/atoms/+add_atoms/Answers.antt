use Rattle.std.proofs.Common.{◌≡◌, ◌+◌, ◌++◌, add-zero, refl, ap, sym, ◌∙◌}
use Rattle.flattening.specs.Flattening.{bound_of, atoms_of}
use Rattle.flattening.specs.Numbers.{number_by}
use Rattle.flattening.specs.Plain.{and, exists}
use Rattle.flattening.proofs.ByForm.{plain, plain_true, plain_false, plain_equal, plain_differ, plain_finite, plain_call, plain_win, plain_no, plain_and, plain_or, plain_imp, plain_iff, plain_exists, plain_forall, none_bound, bound_same, and_bound, exists_bound, no_atoms, same_atoms, and_atoms, finite_atoms, win_atoms, exists_atoms}
use Rattle.flattening.proofs.atoms.+add_atoms.Goals as goal

pub returns-in-True-clause-atoms : goal.returns-in-True-clause-atoms
returns-in-True-clause-atoms t c = no_atoms _ _ _ _ _ (ap plain c.in-True.is ∙ plain_true) refl

pub returns-in-False-clause-atoms : goal.returns-in-False-clause-atoms
returns-in-False-clause-atoms t c = no_atoms _ _ _ _ _ (ap plain c.in-False.is ∙ plain_false) refl

pub returns-in-Differ-clause-atoms : goal.returns-in-Differ-clause-atoms
returns-in-Differ-clause-atoms t c = no_atoms _ _ _ _ _ (ap plain c.in-Differ.is ∙ plain_differ _ _) refl

pub returns-in_ok-push-in-Finite-clause-atoms : goal.returns-in_ok-push-in-Finite-clause-atoms
returns-in_ok-push-in-Finite-clause-atoms t c =
    finite_atoms _ _ _ _ _ _ _ _ (ap plain c.in-Finite.is ∙ plain_finite _) c.in_ok-after-in-Finite.ensures.atoms c.number_of.ensures c.in_ok-push-in-Finite.ensures.ok

pub returns-in_ok-after-in-Win-clause-atoms : goal.returns-in_ok-after-in-Win-clause-atoms
returns-in_ok-after-in-Win-clause-atoms t c = win_atoms _ _ _ _ _ _ _ (ap plain c.in-Win.is ∙ plain_win _ _ _) c.in_ok-after-in-Win.ensures.atoms

pub returns-in-Not-clause-atoms : goal.returns-in-Not-clause-atoms
returns-in-Not-clause-atoms t c = no_atoms _ _ _ _ _ (ap plain c.in-Not.is ∙ plain_no _) refl

pub returns-in_ok-last-in-And-clause-atoms : goal.returns-in_ok-last-in-And-clause-atoms
returns-in_ok-last-in-And-clause-atoms t c =
    let e : plain c.args.formula.now ≡ and (plain c.get.result.now) (plain c.get-in-And.result.now) =
    ap plain c.in-And.is ∙ rw (c.get.ensures, c.get-in-And.ensures) (plain_and _ _) in
    and_atoms _ _ _ _ _ _ _ _ _ e c.in_ok-after-in-And.ensures.after c.in_ok-after-in-And.ensures.atoms
    (c.in_ok-last-in-And.ensures.atoms ∙ ap (λ given. c.add_atoms.new.basic ++ atoms_of (number_by given) c.in_ok-after-in-And.after (plain c.get-in-And.result.now)) c.in_ok-after-in-And.ensures.numbers)

pub returns-in-Or-clause-atoms : goal.returns-in-Or-clause-atoms
returns-in-Or-clause-atoms t c = no_atoms _ _ _ _ _ (ap plain c.in-Or.is ∙ plain_or _ _) refl

pub returns-in-Imp-clause-atoms : goal.returns-in-Imp-clause-atoms
returns-in-Imp-clause-atoms t c = no_atoms _ _ _ _ _ (ap plain c.in-Imp.is ∙ plain_imp _ _) refl

pub returns-in-Iff-clause-atoms : goal.returns-in-Iff-clause-atoms
returns-in-Iff-clause-atoms t c = no_atoms _ _ _ _ _ (ap plain c.in-Iff.is ∙ plain_iff _ _) refl

pub returns-in_ok-after-in-Exists-clause-atoms : goal.returns-in_ok-after-in-Exists-clause-atoms
returns-in_ok-after-in-Exists-clause-atoms t c =
    let e : plain c.args.formula.now ≡ exists c.in-Exists.variable (plain c.get-in-Exists.result.now) =
    ap plain c.in-Exists.is ∙ rw c.get-in-Exists.ensures (plain_exists _ _) in
    exists_atoms _ _ _ _ _ _ _ _ _ e c.in_ok-give-in-Exists.ensures.ok c.in_ok-behind-in-Exists.ensures c.in_ok-after-in-Exists.ensures.atoms

pub returns-in-Forall-clause-atoms : goal.returns-in-Forall-clause-atoms
returns-in-Forall-clause-atoms t c = no_atoms _ _ _ _ _ (ap plain c.in-Forall.is ∙ plain_forall _ _) refl

pub returns-in-True-clause-after : goal.returns-in-True-clause-after
returns-in-True-clause-after t c =
    none_bound _ _ (ap bound_of (ap plain c.in-True.is ∙ plain_true))

pub returns-in-False-clause-after : goal.returns-in-False-clause-after
returns-in-False-clause-after t c =
    none_bound _ _ (ap bound_of (ap plain c.in-False.is ∙ plain_false))

pub returns-in-Differ-clause-after : goal.returns-in-Differ-clause-after
returns-in-Differ-clause-after t c =
    none_bound _ _ (ap bound_of (ap plain c.in-Differ.is ∙ plain_differ _ _))

pub returns-in-Not-clause-after : goal.returns-in-Not-clause-after
returns-in-Not-clause-after t c =
    none_bound _ _ (ap bound_of (ap plain c.in-Not.is ∙ plain_no _))

pub returns-in-Or-clause-after : goal.returns-in-Or-clause-after
returns-in-Or-clause-after t c =
    none_bound _ _ (ap bound_of (ap plain c.in-Or.is ∙ plain_or _ _))

pub returns-in-Imp-clause-after : goal.returns-in-Imp-clause-after
returns-in-Imp-clause-after t c =
    none_bound _ _ (ap bound_of (ap plain c.in-Imp.is ∙ plain_imp _ _))

pub returns-in-Iff-clause-after : goal.returns-in-Iff-clause-after
returns-in-Iff-clause-after t c =
    none_bound _ _ (ap bound_of (ap plain c.in-Iff.is ∙ plain_iff _ _))

pub returns-in-Forall-clause-after : goal.returns-in-Forall-clause-after
returns-in-Forall-clause-after t c =
    none_bound _ _ (ap bound_of (ap plain c.in-Forall.is ∙ plain_forall _ _))

pub returns-in-Eq-clause-after : goal.returns-in-Eq-clause-after
returns-in-Eq-clause-after t c =
    bound_same _ _ _ _ (ap bound_of (ap plain c.in-Eq.is ∙ plain_equal _ _)) c.add_equality.ensures.after

pub returns-in-Call-clause-after : goal.returns-in-Call-clause-after
returns-in-Call-clause-after t c =
    bound_same _ _ _ _ (ap bound_of (ap plain c.in-Call.is ∙ plain_call _ _)) c.add_wholes.ensures.after

pub returns-in_ok-push-in-Finite-clause-after : goal.returns-in_ok-push-in-Finite-clause-after
returns-in_ok-push-in-Finite-clause-after t c =
    c.in_ok-after-in-Finite.ensures.after ∙ ap (λ k. c.args.next + k) (sym (ap bound_of (ap plain c.in-Finite.is ∙ plain_finite _)))

pub returns-in_ok-after-in-Win-clause-after : goal.returns-in_ok-after-in-Win-clause-after
returns-in_ok-after-in-Win-clause-after t c =
    c.in_ok-after-in-Win.ensures.after ∙ ap (λ k. c.args.next + k) (sym (ap bound_of (ap plain c.in-Win.is ∙ plain_win _ _ _) ∙ add-zero _))

pub returns-in_ok-last-in-And-clause-after : goal.returns-in_ok-last-in-And-clause-after
returns-in_ok-last-in-And-clause-after t c =
    let e : plain c.args.formula.now ≡ and (plain c.get.result.now) (plain c.get-in-And.result.now) =
    ap plain c.in-And.is ∙ rw (c.get.ensures, c.get-in-And.ensures) (plain_and _ _) in
    and_bound _ _ _ _ _ _ e c.in_ok-after-in-And.ensures.after c.in_ok-last-in-And.ensures.after

pub returns-in_ok-after-in-Exists-clause-after : goal.returns-in_ok-after-in-Exists-clause-after
returns-in_ok-after-in-Exists-clause-after t c =
    let e : plain c.args.formula.now ≡ exists c.in-Exists.variable (plain c.get-in-Exists.result.now) =
    ap plain c.in-Exists.is ∙ rw c.get-in-Exists.ensures (plain_exists _ _) in
    exists_bound _ _ _ _ _ _ e c.in_ok-behind-in-Exists.ensures c.in_ok-after-in-Exists.ensures.after

pub returns-in-Eq-clause-atoms : goal.returns-in-Eq-clause-atoms
returns-in-Eq-clause-atoms t c =
    same_atoms _ (number_by c.args.given.now) c.args.next _ _ _ (plain c.args.formula.now) (ap (atoms_of (number_by c.args.given.now) c.args.next) (ap plain c.in-Eq.is ∙ plain_equal _ _)) c.add_equality.ensures.atoms

pub returns-in-Call-clause-atoms : goal.returns-in-Call-clause-atoms
returns-in-Call-clause-atoms t c =
    same_atoms _ (number_by c.args.given.now) c.args.next _ _ _ (plain c.args.formula.now) (ap (atoms_of (number_by c.args.given.now) c.args.next) (ap plain c.in-Call.is ∙ plain_call _ _)) c.add_wholes.ensures.atoms
