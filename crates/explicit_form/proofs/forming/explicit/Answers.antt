use Rattle.std.proofs.Common.{length, sym, subst}
use Rattle.std.specs.Prelude.{◌↔◌}
use Rattle.formula_ast.specs.Forms.{Form}
use Rattle.formula_ast.specs.Satisfaction.{Holds, meaning_of}
use Rattle.flat_form.specs.Meanings.{SomeHolds}
use Rattle.explicit_form.specs.Shape.{IsExplicit}
use Rattle.explicit_form.proofs.Means.{explicit_means}
use Rattle.explicit_form.proofs.Reduced.{reduced_is_explicit}
use Rattle.explicit_form.proofs.WellFormed.{well_formed}
use Rattle.explicit_form.proofs.forming.explicit.Goals as goal

pub returns-clause-shape : goal.returns-clause-shape
returns-clause-shape c =
    subst (IsExplicit (length c.args.names.now)) (sym c.in_ok-disjunction_of.ensures)
    (reduced_is_explicit (length c.args.names.now) c.args.cubes.now c.requires.some c.requires.over c.requires.reduced c.requires.distinct c.requires.nonempty)

pub returns-clause-meaning : goal.returns-clause-meaning
returns-clause-meaning c = λ σ preds e.
    subst (λ (f : Form). Holds σ (meaning_of σ preds) f e ↔ SomeHolds e c.args.cubes.now) (sym c.in_ok-disjunction_of.ensures)
    (explicit_means σ preds c.args.cubes.now e (λ k d w. (c.requires.over k d w).1))

pub returns-clause-well_formed : goal.returns-clause-well_formed
returns-clause-well_formed c = λ σ fits.
    well_formed σ c.args.names.now _ c.args.cubes.now _ c.requires.words c.requires.apart c.requires.over c.in_ok-all_names.ensures c.in_ok-disjunction_of.ensures fits
