use Rattle.std.proofs.Common.{ℕ, ◌++◌}
use Rattle.formula_ast.specs.Forms.{form_of}
use Rattle.explicit_form.specs.Pieces.{bound_of, basic_of}
use Rattle.explicit_form.specs.Shape.{SomeAtom, Meets}
use Rattle.explicit_form.proofs.Binding.{each_bound, none_bound}
use Rattle.explicit_form.proofs.Truth.{yes, it_is, with_first, without_first}
use Rattle.explicit_form.proofs.blocks.+all_met.Goals as goal

pub returns-then-is_met : goal.returns-then-is_met
returns-then-is_met t c =
    with_first c.all_met.result (rw c.get.ensures at c.all_met.ensures) (it_is c.is_met.result c.is_met.ensures c.if-is_met.true)
    (each_bound (λ (x : ℕ). SomeAtom (Meets c.args.free (bound_of (form_of c.args.outer.now) ++ bound_of (form_of c.args.inner.now)) x) (basic_of (form_of c.args.inner.now))) c.args.f.now c.in-Exists.x c.in-Exists.g c.in-Exists.is)

pub returns-else-is_met : goal.returns-else-is_met
returns-else-is_met t c = without_first c.is_met.result c.is_met.ensures c.if-is_met.false (each_bound (λ (x : ℕ). SomeAtom (Meets c.args.free (bound_of (form_of c.args.outer.now) ++ bound_of (form_of c.args.inner.now)) x) (basic_of (form_of c.args.inner.now))) c.args.f.now c.in-Exists.x c.in-Exists.g c.in-Exists.is)

pub returns-in_default : goal.returns-in_default
returns-in_default t c = yes (none_bound (λ (x : ℕ). SomeAtom (Meets c.args.free (bound_of (form_of c.args.outer.now) ++ bound_of (form_of c.args.inner.now)) x) (basic_of (form_of c.args.inner.now))) c.args.f.now c.in_default.not-Exists)
