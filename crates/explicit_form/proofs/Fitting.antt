-- What may stand in a block.
use Rattle.std.proofs.Common.{◌≡◌, ℕ, ◌≤◌, List, [], ◌∷◌, ◌++◌, map, sym, ap, subst, ◌∙◌}
use Rattle.std.specs.Prelude.{All, Contains, ◌↔◌}
use Rattle.std.proofs.lemmas.List.Elements.{All-nil, All-cons, All-head, All-weaker, All-contains}
use Rattle.lists.specs.Distinct.{IsDistinct}
use Rattle.tree_model.specs.declared.tree.Symbol.{Symbol}
use Rattle.formula_ast.specs.declared.formula.Formula.{Formula}
use Rattle.formula_ast.specs.declared.formula.Formula.TheVariants as v
use Rattle.formula_ast.specs.declared.term.Term.{Term}
use Rattle.formula_ast.specs.declared.term.Terms.{Terms}
use Rattle.formula_ast.specs.declared.term.Term.TheVariants.{Var, App}
use Rattle.formula_ast.specs.Forms.{Form, form_of, always}
use Rattle.formula_ast.specs.Terms.{list_of}
use Rattle.formula_ast.proofs.Ties.{always_form}
use Rattle.flat_form.specs.declared.atom.Flat.{Flat}
use Rattle.flat_form.specs.declared.atom.Flat.TheVariants.{VarVar, Finite}
use Rattle.flat_form.specs.Solved.{variable_of}
use Rattle.flat_form.proofs.Symbols.{each_of}
use Rattle.explicit_form.specs.Pieces.{Fits, variable_in, equation, bound_of, basic_of}
use Rattle.explicit_form.specs.Shape.{InScope, SomeAtom, IsLeftOf, HaveSameTerm, Meets, IsPlaced, IsNew, AreApart, AllApart, IsBlock}
use Rattle.explicit_form.proofs.Arms.{form_and, form_exists, form_equal, form_differ, form_finite, var_equation, app_equation, all_equation, all_mark_at}
use Rattle.explicit_form.proofs.Layers.{no_atoms}
use Rattle.explicit_form.proofs.Sides.{variable_is}
use Rattle.explicit_form.proofs.Walking.{apart_is, finite_apart, apart_both, Each}

-- ---- equations

pub pair_is : (T : Flat → Type 0) (t s : Term) (u x : ℕ) → u ≡ variable_in t → s ≡ Var x → T (VarVar u x) ↔ T (equation t s)
pair_is T t s u x same is = subst (λ (w : ℕ). T (VarVar w x) ↔ T (equation t s)) (sym same) (subst T (sym (var_equation t s x is)), subst T (var_equation t s x is))

module _ (free : ℕ) (outer inner : Form) where
  abbrev block : List ℕ
  block = bound_of outer ++ bound_of inner

  abbrev TermFits : ℕ → List ℕ → Flat → Type 0
  TermFits u xs e = (InScope free block u × All (InScope free block) xs) × ((¬ SomeAtom (IsLeftOf u) (basic_of outer)) × (¬ SomeAtom (HaveSameTerm e) (basic_of outer)))

  pub term_is : (t s : Term) (u : ℕ) (a : Symbol) (ts : Terms) → u ≡ variable_in t → s ≡ App a ts → TermFits u (map variable_in (list_of ts)) (equation t s) ↔ Fits free outer inner (equation t s)
  term_is t s u a ts same is =
      subst (λ (w : ℕ). TermFits w (map variable_in (list_of ts)) (equation t s) ↔ Fits free outer inner (equation t s)) (sym same)
      (subst (λ (e : Flat). TermFits (variable_in t) (map variable_in (list_of ts)) e ↔ Fits free outer inner e) (sym (app_equation t s a ts is)) (λ h. h, λ h. h))

-- ---- atoms that are apart

pub equation_apart : (f g : Formula) (t s : Term) (u : ℕ) → u ≡ variable_in t → f ≡ v.Eq t s
    → ((¬ SomeAtom (λ other. variable_of other ≡ u) (basic_of (form_of g))) × (¬ SomeAtom (HaveSameTerm (equation t s)) (basic_of (form_of g))))
    ↔ Each (basic_of (form_of f)) (basic_of (form_of g))
equation_apart f g t s u same is =
    let ys = basic_of (form_of g) in
    let here = apart_is (equation t s) ys in
    let all = all_equation (λ atom. All (AreApart atom) ys) f t s is in
    let one : u ≡ variable_of (equation t s) = same ∙ sym (variable_is t s) in (
      λ both. all.0 (here.1 (subst (λ (w : ℕ). ¬ SomeAtom (λ other. variable_of other ≡ w) ys) one both.0, both.1)),
      λ each. let both = here.0 (all.1 each) in (subst (λ (w : ℕ). ¬ SomeAtom (λ other. variable_of other ≡ w) ys) (sym one) both.0, both.1),
    )

pub mark_apart : (f g : Formula) (t : Term) (u : ℕ) → u ≡ variable_in t → f ≡ v.Finite t
    → (¬ SomeAtom (λ other. variable_of other ≡ u) (basic_of (form_of g))) ↔ Each (basic_of (form_of f)) (basic_of (form_of g))
mark_apart f g t u same is =
    let ys = basic_of (form_of g) in
    let here = finite_apart u ys in
    let all = all_mark_at (λ atom. All (AreApart atom) ys) f t u same is in
    (λ none. all.0 (here.1 none), λ each. here.0 (all.1 each))

pub apart_and : (f g h : Formula) → f ≡ v.And g h
    → (Each (basic_of (form_of g)) (basic_of (form_of h)) × (AllApart (basic_of (form_of g)) × AllApart (basic_of (form_of h)))) ↔ AllApart (basic_of (form_of f))
apart_and f g h is =
    let both = apart_both (basic_of (form_of g)) (basic_of (form_of h)) in (
      λ x. subst (λ (w : Form). AllApart (basic_of w)) (sym (form_and f g h is)) (both.1 (x.1.0, x.1.1, x.0)),
      λ x. let all = both.0 (subst (λ (w : Form). AllApart (basic_of w)) (form_and f g h is) x) in (all.2, (all.0, all.1)),
    )

pub apart_body : (f : Formula) (x : ℕ) (g : Formula) → f ≡ v.Exists x g → AllApart (basic_of (form_of g)) ↔ AllApart (basic_of (form_of f))
apart_body f x g is = (subst (λ (w : Form). AllApart (basic_of w)) (sym (form_exists f x g is)), subst (λ (w : Form). AllApart (basic_of w)) (form_exists f x g is))

one_apart : (atom : Flat) → AllApart (atom ∷ [])
one_apart atom = (All-nil (AreApart atom), tt)

pub apart_equation : (f : Formula) (t s : Term) → f ≡ v.Eq t s → AllApart (basic_of (form_of f))
apart_equation f t s is = subst (λ (w : Form). AllApart (basic_of w)) (sym (form_equal f t s is)) (one_apart (equation t s))

pub apart_mark : (f : Formula) (t : Term) → f ≡ v.Finite t → AllApart (basic_of (form_of f))
apart_mark f t is = subst (λ (w : Form). AllApart (basic_of w)) (sym (form_finite f t is)) (one_apart (Finite (variable_in t)))

pub apart_none : (f : Formula) → ((g h : Formula) → ¬ (f ≡ v.And g h)) → ((x : ℕ) (g : Formula) → ¬ (f ≡ v.Exists x g)) → ((t s : Term) → ¬ (f ≡ v.Eq t s))
    → ((t : Term) → ¬ (f ≡ v.Finite t)) → AllApart (basic_of (form_of f))
apart_none f a x e m = subst AllApart (sym (no_atoms f a x e m)) tt

-- ---- blocks

module _ (free : ℕ) (outer inner : Form) where
  abbrev GoodNames : Type 0
  GoodNames = (IsDistinct (bound_of inner) × All (λ x. (free ≤ x) × (¬ Contains (bound_of outer) x)) (bound_of inner))
      × All (λ x. SomeAtom (Meets free (bound_of outer ++ bound_of inner) x) (basic_of inner)) (bound_of inner)

  abbrev GoodAtoms : Type 0
  GoodAtoms = All (Fits free outer inner) (basic_of inner) × AllApart (basic_of inner)

  pub block_is : (GoodNames × GoodAtoms) ↔ IsBlock free (basic_of outer) (bound_of outer) (bound_of inner) (basic_of inner)
  block_is = (
    λ both. record {
      distinct = both.0.0.0;
      new_names = both.0.0.1;
      placed = All-weaker (Fits free outer inner) (IsPlaced free (basic_of outer) (bound_of outer ++ bound_of inner) (bound_of inner)) (λ atom fits. fits.0) (basic_of inner) both.1.0;
      new_atoms = All-weaker (Fits free outer inner) (IsNew (basic_of outer)) (λ atom fits. fits.1) (basic_of inner) both.1.0;
      all_apart = both.1.1;
      met = both.0.1;
    },
    λ it. (
      ((it.distinct, it.new_names), it.met),
      (
        each_of (Fits free outer inner) (basic_of inner) (λ atom c. (
          All-contains (IsPlaced free (basic_of outer) (bound_of outer ++ bound_of inner) (bound_of inner)) (basic_of inner) atom it.placed c,
          All-contains (IsNew (basic_of outer)) (basic_of inner) atom it.new_atoms c,
        )),
        it.all_apart,
      ),
    ),
  )

-- the atom may stand behind quantifiers for these variables
abbrev FitsBehind : ℕ → Form → Flat → List ℕ → Type 0
FitsBehind free outer atom bound = IsPlaced free (basic_of outer) (bound_of outer ++ bound) bound atom × IsNew (basic_of outer) atom

-- one equation that binds nothing, where the second formula binds nothing either
pub equation_block : (free : ℕ) (outer inner : Form) (atom : Flat) → bound_of inner ≡ [] → Fits free outer inner atom ↔ IsBlock free (basic_of outer) (bound_of outer) [] (atom ∷ [])
equation_block free outer inner atom none = by (bound_of inner) none
  where
    alone : FitsBehind free outer atom [] ↔ IsBlock free (basic_of outer) (bound_of outer) [] (atom ∷ [])
    alone = (
      λ fits. record {
        distinct = tt;
        new_names = All-nil (λ x. (free ≤ x) × (¬ Contains (bound_of outer) x));
        placed = All-cons (IsPlaced free (basic_of outer) (bound_of outer ++ []) []) atom [] fits.0 (All-nil (IsPlaced free (basic_of outer) (bound_of outer ++ []) []));
        new_atoms = All-cons (IsNew (basic_of outer)) atom [] fits.1 (All-nil (IsNew (basic_of outer)));
        all_apart = one_apart atom;
        met = All-nil (λ x. SomeAtom (Meets free (bound_of outer ++ []) x) (atom ∷ []));
      },
      λ it. (All-head (IsPlaced free (basic_of outer) (bound_of outer ++ []) []) atom [] it.placed, All-head (IsNew (basic_of outer)) atom [] it.new_atoms),
    )

    by : (bound : List ℕ) → bound ≡ [] → FitsBehind free outer atom bound ↔ IsBlock free (basic_of outer) (bound_of outer) [] (atom ∷ [])
    by bound e = subst (λ (l : List ℕ). FitsBehind free outer atom l ↔ IsBlock free (basic_of outer) (bound_of outer) [] (atom ∷ [])) (sym e) alone

pub differ_binds : (f : Formula) (t s : Term) → f ≡ v.Differ t s → bound_of (form_of f) ≡ []
differ_binds f t s is = ap bound_of (form_differ f t s is)

-- a block over nothing
pub over_nothing : (free : ℕ) (nothing : Formula) (bound : List ℕ) (atoms : List Flat) → nothing ≡ v.True
    → IsBlock free (basic_of (form_of nothing)) (bound_of (form_of nothing)) bound atoms ↔ IsBlock free [] [] bound atoms
over_nothing free nothing bound atoms is =
    let e : form_of nothing ≡ always = ap form_of is ∙ always_form in
    subst (λ (w : Form). IsBlock free (basic_of w) (bound_of w) bound atoms ↔ IsBlock free [] [] bound atoms) (sym e) (λ h. h, λ h. h)
