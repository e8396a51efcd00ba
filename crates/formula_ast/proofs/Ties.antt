-- The form of each formula, one layer at a time.
use Rattle.std.proofs.Common.{ℕ, ◌≡◌, refl}
use Rattle.formula_ast.specs.declared.formula.Formula.{Formula}
use Rattle.formula_ast.specs.declared.formula.Formula.TheVariants as v
use Rattle.formula_ast.specs.declared.term.Term.{Term}
use Rattle.formula_ast.specs.declared.term.Terms.{Terms}
use Rattle.formula_ast.specs.Forms.{form_of, part_of, always, never, equal, differ, finite, call, win, no, and, or, imp, iff, exists, forall}
use Rattle.formula_ast.specs.Terms.{list_of}

pub always_form : form_of v.True ≡ always
unfolding form_of
always_form = refl

pub never_form : form_of v.False ≡ never
unfolding form_of
never_form = refl

pub equal_form : (t s : Term) → form_of (v.Eq t s) ≡ equal t s
unfolding form_of
equal_form t s = refl

pub differ_form : (t s : Term) → form_of (v.Differ t s) ≡ differ t s
unfolding form_of
differ_form t s = refl

pub finite_form : (t : Term) → form_of (v.Finite t) ≡ finite t
unfolding form_of
finite_form t = refl

pub call_form : (p : ℕ) (ts : Terms) → form_of (v.Call p ts) ≡ call p (list_of ts)
unfolding form_of
call_form p ts = refl

pub win_form : (p k : ℕ) (t : Term) → form_of (v.Win p k t) ≡ win p k t
unfolding form_of
win_form p k t = refl

pub no_form : (f : Formula) → form_of (v.Not f) ≡ no (form_of f)
unfolding form_of part_of Rattle.formula_ast.specs.declared.formula.Formula.TheBlock.hidden-the_row-Formula-0 denote.Hole.Carrier.hidden
no_form f = refl

pub and_form : (f g : Formula) → form_of (v.And f g) ≡ and (form_of f) (form_of g)
unfolding form_of part_of Rattle.formula_ast.specs.declared.formula.Formula.TheBlock.hidden-the_row-Formula-0 denote.Hole.Carrier.hidden
and_form f g = refl

pub or_form : (f g : Formula) → form_of (v.Or f g) ≡ or (form_of f) (form_of g)
unfolding form_of part_of Rattle.formula_ast.specs.declared.formula.Formula.TheBlock.hidden-the_row-Formula-0 denote.Hole.Carrier.hidden
or_form f g = refl

pub imp_form : (f g : Formula) → form_of (v.Imp f g) ≡ imp (form_of f) (form_of g)
unfolding form_of part_of Rattle.formula_ast.specs.declared.formula.Formula.TheBlock.hidden-the_row-Formula-0 denote.Hole.Carrier.hidden
imp_form f g = refl

pub iff_form : (f g : Formula) → form_of (v.Iff f g) ≡ iff (form_of f) (form_of g)
unfolding form_of part_of Rattle.formula_ast.specs.declared.formula.Formula.TheBlock.hidden-the_row-Formula-0 denote.Hole.Carrier.hidden
iff_form f g = refl

pub exists_form : (x : ℕ) (f : Formula) → form_of (v.Exists x f) ≡ exists x (form_of f)
unfolding form_of part_of Rattle.formula_ast.specs.declared.formula.Formula.TheBlock.hidden-the_row-Formula-0 denote.Hole.Carrier.hidden
exists_form x f = refl

pub forall_form : (x : ℕ) (f : Formula) → form_of (v.Forall x f) ≡ forall x (form_of f)
unfolding form_of part_of Rattle.formula_ast.specs.declared.formula.Formula.TheBlock.hidden-the_row-Formula-0 denote.Hole.Carrier.hidden
forall_form x f = refl

pub ruleset form_rules = (always_form, never_form, equal_form, differ_form, finite_form, call_form, win_form, no_form, and_form, or_form, imp_form, iff_form, exists_form, forall_form)
