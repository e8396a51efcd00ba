use Rattle.std.proofs.Common.{rules, length, append_assoc, ap}
use Rattle.std.proofs.lemmas.Result.{IfOk-equal}
use Rattle.formula_ast.specs.declared.formula.Formula.TheViews.{the_lemmas}
use Rattle.formula_printer.specs.Steps.{quantifier_of}
use Rattle.formula_printer.specs.Writing.{text_at}
use Rattle.formula_printer.proofs.Fitting.{fits_equal, fits_differ, fits_finite, fits_call, fits_win, fits_not, fits_and, fits_or, fits_imp, fits_iff, fits_exists, fits_forall, true_text, false_text, equal_text, differ_text, finite_text, call_text, win_text, not_text, and_text, or_text, imp_text, iff_text, exists_text, forall_text}
use Rattle.formula_printer.proofs.Levels.{next_exists, next_forall, last_exists, last_forall}
use Rattle.formula_printer.proofs.formula.+formula.Goals as goal

pub write_formula-write_pair-requires-clause-left : goal.write_formula-write_pair-requires-clause-left
write_formula-write_pair-requires-clause-left t c =
    (fits_equal c.args.sig.now (length c.args.names.now) c.args.f.now c.in-Eq.t c.in-Eq.u c.in-Eq.is c.requires).0

pub write_formula-write_pair-requires-clause-right : goal.write_formula-write_pair-requires-clause-right
write_formula-write_pair-requires-clause-right t c =
    (fits_equal c.args.sig.now (length c.args.names.now) c.args.f.now c.in-Eq.t c.in-Eq.u c.in-Eq.is c.requires).1

pub write_formula-write_pair-requires-in-Differ-clause-left : goal.write_formula-write_pair-requires-in-Differ-clause-left
write_formula-write_pair-requires-in-Differ-clause-left t c =
    (fits_differ c.args.sig.now (length c.args.names.now) c.args.f.now c.in-Differ.t c.in-Differ.u c.in-Differ.is c.requires).0

pub write_formula-write_pair-requires-in-Differ-clause-right : goal.write_formula-write_pair-requires-in-Differ-clause-right
write_formula-write_pair-requires-in-Differ-clause-right t c =
    (fits_differ c.args.sig.now (length c.args.names.now) c.args.f.now c.in-Differ.t c.in-Differ.u c.in-Differ.is c.requires).1

pub write_formula-write_closed-requires : goal.write_formula-write_closed-requires
write_formula-write_closed-requires t c =
    fits_finite c.args.sig.now (length c.args.names.now) c.args.f.now c.in-Finite.t c.in-Finite.is c.requires

pub write_formula-write_name-requires : goal.write_formula-write_name-requires
write_formula-write_name-requires t c =
    (fits_call c.args.sig.now (length c.args.names.now) c.args.f.now c.in-Call.p c.in-Call.ts c.in-Call.is c.requires).0

pub write_formula-write_arguments-requires : goal.write_formula-write_arguments-requires
write_formula-write_arguments-requires t c =
    (fits_call c.args.sig.now (length c.args.names.now) c.args.f.now c.in-Call.p c.in-Call.ts c.in-Call.is c.requires).1

pub write_formula-write_win-requires : goal.write_formula-write_win-requires
write_formula-write_win-requires t c =
    (fits_win c.args.sig.now (length c.args.names.now) c.args.f.now c.in-Win.p c.in-Win.k c.in-Win.t c.in-Win.is c.requires).0

pub write_formula-write_closed-requires-in-Win : goal.write_formula-write_closed-requires-in-Win
write_formula-write_closed-requires-in-Win t c =
    (fits_win c.args.sig.now (length c.args.names.now) c.args.f.now c.in-Win.p c.in-Win.k c.in-Win.t c.in-Win.is c.requires).1

pub write_formula-write_operand-requires : goal.write_formula-write_operand-requires
write_formula-write_operand-requires t c =
    let fits = fits_not c.args.sig.now (length c.args.names.now) c.args.f.now c.get.result.now (rw c.get.ensures c.in-Not.is) c.requires in
    (search (rules, the_lemmas), fits)

pub write_formula-write_left-requires : goal.write_formula-write_left-requires
write_formula-write_left-requires t c =
    let fits = fits_and c.args.sig.now (length c.args.names.now) c.args.f.now c.get-in-And.result.now c.in-And.g (rw c.get-in-And.ensures c.in-And.is) c.requires in
    (search (rules, the_lemmas), fits.0)

pub write_formula-write_operand-requires-in-And : goal.write_formula-write_operand-requires-in-And
write_formula-write_operand-requires-in-And t c =
    let fits = fits_and c.args.sig.now (length c.args.names.now) c.args.f.now c.get-in-And.result.now c.get-in-And-2.result.now (rw (c.get-in-And.ensures, c.get-in-And-2.ensures) c.in-And.is) c.requires in
    (search (rules, the_lemmas), fits.1)

pub write_formula-write_left-requires-in-Or : goal.write_formula-write_left-requires-in-Or
write_formula-write_left-requires-in-Or t c =
    let fits = fits_or c.args.sig.now (length c.args.names.now) c.args.f.now c.get-in-Or.result.now c.in-Or.g (rw c.get-in-Or.ensures c.in-Or.is) c.requires in
    (search (rules, the_lemmas), fits.0)

pub write_formula-write_operand-requires-in-Or : goal.write_formula-write_operand-requires-in-Or
write_formula-write_operand-requires-in-Or t c =
    let fits = fits_or c.args.sig.now (length c.args.names.now) c.args.f.now c.get-in-Or.result.now c.get-in-Or-2.result.now (rw (c.get-in-Or.ensures, c.get-in-Or-2.ensures) c.in-Or.is) c.requires in
    (search (rules, the_lemmas), fits.1)

pub write_formula-write_left-requires-in-Imp : goal.write_formula-write_left-requires-in-Imp
write_formula-write_left-requires-in-Imp t c =
    let fits = fits_imp c.args.sig.now (length c.args.names.now) c.args.f.now c.get-in-Imp.result.now c.in-Imp.g (rw c.get-in-Imp.ensures c.in-Imp.is) c.requires in
    (search (rules, the_lemmas), fits.0)

pub write_formula-write_operand-requires-in-Imp : goal.write_formula-write_operand-requires-in-Imp
write_formula-write_operand-requires-in-Imp t c =
    let fits = fits_imp c.args.sig.now (length c.args.names.now) c.args.f.now c.get-in-Imp.result.now c.get-in-Imp-2.result.now (rw (c.get-in-Imp.ensures, c.get-in-Imp-2.ensures) c.in-Imp.is) c.requires in
    (search (rules, the_lemmas), fits.1)

pub write_formula-write_left-requires-in-Iff : goal.write_formula-write_left-requires-in-Iff
write_formula-write_left-requires-in-Iff t c =
    let fits = fits_iff c.args.sig.now (length c.args.names.now) c.args.f.now c.get-in-Iff.result.now c.in-Iff.g (rw c.get-in-Iff.ensures c.in-Iff.is) c.requires in
    (search (rules, the_lemmas), fits.0)

pub write_formula-write_operand-requires-in-Iff : goal.write_formula-write_operand-requires-in-Iff
write_formula-write_operand-requires-in-Iff t c =
    let fits = fits_iff c.args.sig.now (length c.args.names.now) c.args.f.now c.get-in-Iff.result.now c.get-in-Iff-2.result.now (rw (c.get-in-Iff.ensures, c.get-in-Iff-2.ensures) c.in-Iff.is) c.requires in
    (search (rules, the_lemmas), fits.1)

pub write_formula-write_bound-requires : goal.write_formula-write_bound-requires
write_formula-write_bound-requires t c =
    let fits = fits_exists c.args.sig.now (length c.args.names.now) c.args.f.now c.in-Exists.x c.get-in-Exists.result.now (rw c.get-in-Exists.ensures c.in-Exists.is) c.requires in
    (search (rules, the_lemmas), fits)

pub write_formula-write_bound-requires-in-Forall : goal.write_formula-write_bound-requires-in-Forall
write_formula-write_bound-requires-in-Forall t c =
    let fits = fits_forall c.args.sig.now (length c.args.names.now) c.args.f.now c.in-Forall.x c.get-in-Forall.result.now (rw c.get-in-Forall.ensures c.in-Forall.is) c.requires in
    (search (rules, the_lemmas), fits)

pub write_formula-returns-in-True : goal.write_formula-returns-in-True
write_formula-returns-in-True t c =
    rw (true_text c.args.sig.now c.args.names.now c.args.f.now c.in-True.is) c.write_text.ensures

pub write_formula-returns-in-False : goal.write_formula-returns-in-False
write_formula-returns-in-False t c =
    rw (false_text c.args.sig.now c.args.names.now c.args.f.now c.in-False.is) c.write_text-in-False.ensures

pub write_formula-returns-in-Eq : goal.write_formula-returns-in-Eq
write_formula-returns-in-Eq t c =
    rw (equal_text c.args.sig.now c.args.names.now c.args.f.now c.in-Eq.t c.in-Eq.u c.in-Eq.is) (search (rules, IfOk-equal, append_assoc))

pub write_formula-returns-in-Differ : goal.write_formula-returns-in-Differ
write_formula-returns-in-Differ t c =
    rw (differ_text c.args.sig.now c.args.names.now c.args.f.now c.in-Differ.t c.in-Differ.u c.in-Differ.is) (search (rules, IfOk-equal, append_assoc))

pub write_formula-returns-in_ok-write_text-in-Finite : goal.write_formula-returns-in_ok-write_text-in-Finite
write_formula-returns-in_ok-write_text-in-Finite t c =
    rw (finite_text c.args.sig.now c.args.names.now c.args.f.now c.in-Finite.t c.in-Finite.is) (search (rules, IfOk-equal, append_assoc))

pub write_formula-returns-in_ok-write_name-in-Call : goal.write_formula-returns-in_ok-write_name-in-Call
write_formula-returns-in_ok-write_name-in-Call t c =
    rw (call_text c.args.sig.now c.args.names.now c.args.f.now c.in-Call.p c.in-Call.ts c.in-Call.is) (search (rules, IfOk-equal, append_assoc))

pub write_formula-returns-in_ok-write_win-in-Win : goal.write_formula-returns-in_ok-write_win-in-Win
write_formula-returns-in_ok-write_win-in-Win t c =
    rw (win_text c.args.sig.now c.args.names.now c.args.f.now c.in-Win.p c.in-Win.k c.in-Win.t c.in-Win.is) (search (rules, IfOk-equal, append_assoc))

pub write_formula-returns-in_ok-write_text-in-Not : goal.write_formula-returns-in_ok-write_text-in-Not
write_formula-returns-in_ok-write_text-in-Not t c =
    rw (not_text c.args.sig.now c.args.names.now c.args.f.now c.get.result.now (rw c.get.ensures c.in-Not.is)) (search (rules, IfOk-equal, append_assoc))

pub write_formula-returns-in_ok-write_left-in-And : goal.write_formula-returns-in_ok-write_left-in-And
write_formula-returns-in_ok-write_left-in-And t c =
    rw (and_text c.args.sig.now c.args.names.now c.args.f.now c.get-in-And.result.now c.get-in-And-2.result.now (rw (c.get-in-And.ensures, c.get-in-And-2.ensures) c.in-And.is)) (search (rules, IfOk-equal, append_assoc))

pub write_formula-returns-in_ok-write_left-in-Or : goal.write_formula-returns-in_ok-write_left-in-Or
write_formula-returns-in_ok-write_left-in-Or t c =
    rw (or_text c.args.sig.now c.args.names.now c.args.f.now c.get-in-Or.result.now c.get-in-Or-2.result.now (rw (c.get-in-Or.ensures, c.get-in-Or-2.ensures) c.in-Or.is)) (search (rules, IfOk-equal, append_assoc))

pub write_formula-returns-in_ok-write_left-in-Imp : goal.write_formula-returns-in_ok-write_left-in-Imp
write_formula-returns-in_ok-write_left-in-Imp t c =
    rw (imp_text c.args.sig.now c.args.names.now c.args.f.now c.get-in-Imp.result.now c.get-in-Imp-2.result.now (rw (c.get-in-Imp.ensures, c.get-in-Imp-2.ensures) c.in-Imp.is)) (search (rules, IfOk-equal, append_assoc))

pub write_formula-returns-in_ok-write_left-in-Iff : goal.write_formula-returns-in_ok-write_left-in-Iff
write_formula-returns-in_ok-write_left-in-Iff t c =
    rw (iff_text c.args.sig.now c.args.names.now c.args.f.now c.get-in-Iff.result.now c.get-in-Iff-2.result.now (rw (c.get-in-Iff.ensures, c.get-in-Iff-2.ensures) c.in-Iff.is)) (search (rules, IfOk-equal, append_assoc))

pub write_formula-returns-in_ok-write_text-in-Exists : goal.write_formula-returns-in_ok-write_text-in-Exists
write_formula-returns-in_ok-write_text-in-Exists t c =
    rw (exists_text c.args.sig.now c.args.names.now c.args.f.now c.in-Exists.x c.get-in-Exists.result.now (rw c.get-in-Exists.ensures c.in-Exists.is)) (search (rules, IfOk-equal, append_assoc))

pub write_formula-returns-in_ok-write_text-in-Forall : goal.write_formula-returns-in_ok-write_text-in-Forall
write_formula-returns-in_ok-write_text-in-Forall t c =
    rw (forall_text c.args.sig.now c.args.names.now c.args.f.now c.in-Forall.x c.get-in-Forall.result.now (rw c.get-in-Forall.ensures c.in-Forall.is)) (search (rules, IfOk-equal, append_assoc))

pub write_bound-write_bound-requires : goal.write_bound-write_bound-requires
write_bound-write_bound-requires t c =
    let fits = fits_exists c.args.sig.now (length c.args.names.now) c.args.f.now c.in-Exists-f.y c.get.result.now (rw c.get.ensures c.in-Exists-f.is) c.requires.body in
    (search (rules, the_lemmas), fits)

pub write_bound-write_bound-requires-in-Forall-f : goal.write_bound-write_bound-requires-in-Forall-f
write_bound-write_bound-requires-in-Forall-f t c =
    let fits = fits_forall c.args.sig.now (length c.args.names.now) c.args.f.now c.in-Forall-f.y c.get-in-Forall-f.result.now (rw c.get-in-Forall-f.ensures c.in-Forall-f.is) c.requires.body in
    (search (rules, the_lemmas), fits)

pub write_bound-returns-in-Exists-f : goal.write_bound-returns-in-Exists-f
write_bound-returns-in-Exists-f t c =
    let x = text_at c.args.names.now c.args.x in
    rw (next_exists c.args.sig.now c.args.names.now (quantifier_of c.args.quantifier) x c.args.f.now c.in-Exists-f.y c.get.result.now (ap quantifier_of c.in-Exists.is) (rw c.get.ensures c.in-Exists-f.is))
    (search (rules, IfOk-equal, append_assoc))

pub write_bound-returns-in_default : goal.write_bound-returns-in_default
write_bound-returns-in_default t c =
    let x = text_at c.args.names.now c.args.x in
    rw (last_exists c.args.sig.now c.args.names.now (quantifier_of c.args.quantifier) x c.args.f.now (ap quantifier_of c.in-Exists.is) c.in_default.not-Exists)
    (search (rules, IfOk-equal, append_assoc))

pub write_bound-returns-in-Forall-f : goal.write_bound-returns-in-Forall-f
write_bound-returns-in-Forall-f t c =
    let x = text_at c.args.names.now c.args.x in
    rw (next_forall c.args.sig.now c.args.names.now (quantifier_of c.args.quantifier) x c.args.f.now c.in-Forall-f.y c.get-in-Forall-f.result.now (ap quantifier_of c.in-Forall.is) (rw c.get-in-Forall-f.ensures c.in-Forall-f.is))
    (search (rules, IfOk-equal, append_assoc))

pub write_bound-returns-in_default-f : goal.write_bound-returns-in_default-f
write_bound-returns-in_default-f t c =
    let x = text_at c.args.names.now c.args.x in
    rw (last_forall c.args.sig.now c.args.names.now (quantifier_of c.args.quantifier) x c.args.f.now (ap quantifier_of c.in-Forall.is) c.in_default-f.not-Forall)
    (search (rules, IfOk-equal, append_assoc))
