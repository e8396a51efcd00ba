use Rattle.std.specs.Prelude.{All}
use Rattle.formula_ast.specs.Forms.{form_of}
use Rattle.flat_form.specs.declared.atom.Flat.{Flat}
use Rattle.explicit_form.specs.Pieces.{basic_of}
use Rattle.explicit_form.specs.Shape.{AreApart}
use Rattle.explicit_form.proofs.Arms.{all_and, all_body, all_nowhere}
use Rattle.explicit_form.proofs.Fitting.{equation_apart, mark_apart}
use Rattle.explicit_form.proofs.Truth.{yes, along, it_is, with_first, without_first}
use Rattle.explicit_form.proofs.blocks.+are_apart.Goals as goal

pub returns-then-are_apart : goal.returns-then-are_apart
returns-then-are_apart t c =
    with_first c.are_apart-then-are_apart.result c.are_apart-then-are_apart.ensures (it_is c.are_apart.result c.are_apart.ensures c.if-are_apart.true)
    (all_and (λ (atom : Flat). All (AreApart atom) (basic_of (form_of c.args.g.now))) c.args.f.now c.get.result.now c.get-then-are_apart.result.now (rw (c.get.ensures, c.get-then-are_apart.ensures) c.in-And.is))

pub returns-else-are_apart : goal.returns-else-are_apart
returns-else-are_apart t c =
    without_first c.are_apart.result c.are_apart.ensures c.if-are_apart.false (all_and (λ (atom : Flat). All (AreApart atom) (basic_of (form_of c.args.g.now))) c.args.f.now c.get.result.now c.in-And.k (rw c.get.ensures c.in-And.is))

pub returns-in-Exists : goal.returns-in-Exists
returns-in-Exists t c =
    along c.are_apart-in-Exists.result c.are_apart-in-Exists.ensures
    (all_body (λ (atom : Flat). All (AreApart atom) (basic_of (form_of c.args.g.now))) c.args.f.now c.in-Exists.field-0 c.get-in-Exists.result.now (rw c.get-in-Exists.ensures c.in-Exists.is))

pub returns-in-Eq : goal.returns-in-Eq
returns-in-Eq t c =
    along c.is_apart.result c.is_apart.ensures (equation_apart c.args.f.now c.args.g.now c.in-Eq.t c.in-Eq.s c.variable_in.result c.variable_in.ensures c.in-Eq.is)

pub returns-in-Finite : goal.returns-in-Finite
returns-in-Finite t c =
    along c.lacks_variable.result c.lacks_variable.ensures
    (mark_apart c.args.f.now c.args.g.now c.in-Finite.t c.variable_in-in-Finite.result c.variable_in-in-Finite.ensures c.in-Finite.is)

pub returns-in_default : goal.returns-in_default
returns-in_default t c = yes (all_nowhere (λ (atom : Flat). All (AreApart atom) (basic_of (form_of c.args.g.now))) c.args.f.now c.in_default.not-And c.in_default.not-Exists c.in_default.not-Eq c.in_default.not-Finite)
