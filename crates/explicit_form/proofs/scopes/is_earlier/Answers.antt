use Rattle.std.proofs.Common.{sym, ◌∙◌}
use Rattle.formula_ast.specs.Forms.{form_of}
use Rattle.explicit_form.specs.Pieces.{bound_of}
use Rattle.explicit_form.proofs.Scoping.{met_outside, met_inside, decided, undecided}
use Rattle.explicit_form.proofs.Truth.{nope}
use Rattle.explicit_form.proofs.scopes.is_earlier.Goals as goal

pub returns-in-Some : goal.returns-in-Some
returns-in-Some c = decided _ c.args.v c.args.u c.in-Some.first (met_outside (bound_of (form_of c.args.outer.now)) (bound_of (form_of c.args.inner.now)) c.args.v c.args.u c.in-Some.first (sym c.meets_first.ensures ∙ c.in-Some.is))

pub returns-in-Some-meets_first : goal.returns-in-Some-meets_first
returns-in-Some-meets_first c =
    decided _ c.args.v c.args.u c.in-Some-meets_first.first
    (met_inside (bound_of (form_of c.args.outer.now)) (bound_of (form_of c.args.inner.now)) c.args.v c.args.u (sym c.meets_first.ensures ∙ c.in-None.is)
    ∙ sym c.meets_first-in-None.ensures ∙ c.in-Some-meets_first.is)

pub returns-in-None-meets_first : goal.returns-in-None-meets_first
returns-in-None-meets_first c =
    nope (undecided _ c.args.v c.args.u
    (met_inside (bound_of (form_of c.args.outer.now)) (bound_of (form_of c.args.inner.now)) c.args.v c.args.u (sym c.meets_first.ensures ∙ c.in-None.is)
    ∙ sym c.meets_first-in-None.ensures ∙ c.in-None-meets_first.is))
