-- What formulas of each kind are made of.
use Rattle.std.proofs.Common.{◌≡◌, ℕ, [], ◌∷◌, map, sym, ap, subst, ◌∙◌, ◌⊎◌, inl, inr, arith}
use Rattle.std.specs.Prelude.{◌↔◌, All}
use Rattle.tree_model.specs.declared.tree.Symbol.{Symbol}
use Rattle.formula_ast.specs.declared.formula.Formula.{Formula}
use Rattle.formula_ast.specs.declared.formula.Formula.TheVariants as v
use Rattle.formula_ast.specs.declared.term.Term.{Term}
use Rattle.formula_ast.specs.declared.term.Terms.{Terms}
use Rattle.formula_ast.specs.declared.term.Term.TheVariants.{Var, App}
use Rattle.formula_ast.specs.declared.term.Term.TheViews.{out-Term}
use Rattle.formula_ast.specs.declared.term.Term.TheViews as views
use Rattle.formula_ast.specs.Forms.{Form, form_of, equal, differ, finite, no, and, or, exists}
use Rattle.formula_ast.specs.Terms.{list_of}
use Rattle.formula_ast.proofs.Ties.{and_form, or_form, exists_form, equal_form, differ_form, finite_form, no_form}
use Rattle.flat_form.specs.declared.atom.Flat.{Flat}
use Rattle.flat_form.specs.declared.atom.Flat.TheVariants.{VarVar, VarTerm, Finite}
use Rattle.explicit_form.specs.Explicit.{Denied}
use Rattle.explicit_form.specs.Pieces.{layer_variable, layer_equation, variable_in, equation, bound_of, basic_of, parts_of}
use Rattle.explicit_form.specs.Shape.{SomeAtom}
use Rattle.explicit_form.specs.Shaped.{LayerIsVariable, IsVariable, LayerIsFlat, IsFlat}
use Rattle.explicit_form.proofs.Layers.{no_atoms, no_parts}
use Rattle.explicit_form.proofs.Walking.{none_there, one_there, some_left, some_right, some_cases, all_both, all_one}

-- ---- terms

pub var_number : (t : Term) (x : ℕ) → t ≡ Var x → variable_in t ≡ x
var_number t x is = ap layer_variable (ap out-Term is ∙ views.outs-Var x)

pub app_number : (t : Term) (s : Symbol) (ts : Terms) → t ≡ App s ts → variable_in t ≡ 0
app_number t s ts is = ap layer_variable (ap out-Term is ∙ views.outs-App s ts)

pub var_equation : (t s : Term) (x : ℕ) → s ≡ Var x → equation t s ≡ VarVar (variable_in t) x
var_equation t s x is = ap (layer_equation (variable_in t)) (ap out-Term is ∙ views.outs-Var x)

pub app_equation : (t s : Term) (a : Symbol) (ts : Terms) → s ≡ App a ts → equation t s ≡ VarTerm (variable_in t) a (map variable_in (list_of ts))
app_equation t s a ts is = ap (layer_equation (variable_in t)) (ap out-Term is ∙ views.outs-App a ts)

pub var_variable : (t : Term) (x : ℕ) → t ≡ Var x → IsVariable t
var_variable t x is = subst LayerIsVariable (sym (ap out-Term is ∙ views.outs-Var x)) tt

pub app_variable : (t : Term) (s : Symbol) (ts : Terms) → t ≡ App s ts → ¬ IsVariable t
app_variable t s ts is h = subst LayerIsVariable (ap out-Term is ∙ views.outs-App s ts) h

pub var_flat : (t : Term) (x : ℕ) → t ≡ Var x → IsFlat t
var_flat t x is = subst LayerIsFlat (sym (ap out-Term is ∙ views.outs-Var x)) tt

pub app_flat : (t : Term) (s : Symbol) (ts : Terms) → t ≡ App s ts → IsFlat t ↔ All IsVariable (list_of ts)
app_flat t s ts is = (
  subst LayerIsFlat (ap out-Term is ∙ views.outs-App s ts),
  subst LayerIsFlat (sym (ap out-Term is ∙ views.outs-App s ts)),
)

-- ---- formulas

pub form_and : (f g h : Formula) → f ≡ v.And g h → form_of f ≡ and (form_of g) (form_of h)
form_and f g h is = ap form_of is ∙ and_form g h

pub form_or : (f g h : Formula) → f ≡ v.Or g h → form_of f ≡ or (form_of g) (form_of h)
form_or f g h is = ap form_of is ∙ or_form g h

pub form_exists : (f : Formula) (x : ℕ) (g : Formula) → f ≡ v.Exists x g → form_of f ≡ exists x (form_of g)
form_exists f x g is = ap form_of is ∙ exists_form x g

pub form_no : (f g : Formula) → f ≡ v.Not g → form_of f ≡ no (form_of g)
form_no f g is = ap form_of is ∙ no_form g

pub form_equal : (f : Formula) (t s : Term) → f ≡ v.Eq t s → form_of f ≡ equal t s
form_equal f t s is = ap form_of is ∙ equal_form t s

pub form_differ : (f : Formula) (t s : Term) → f ≡ v.Differ t s → form_of f ≡ differ t s
form_differ f t s is = ap form_of is ∙ differ_form t s

pub form_finite : (f : Formula) (t : Term) → f ≡ v.Finite t → form_of f ≡ finite t
form_finite f t is = ap form_of is ∙ finite_form t

-- ---- one of the atoms

module _ (P : Flat → Type 0) (f : Formula) where
  abbrev pub There : Formula → Type 0
  There g = SomeAtom P (basic_of (form_of g))

  pub in_left : (g h : Formula) → f ≡ v.And g h → There g → There f
  in_left g h is there = subst (λ w. SomeAtom P (basic_of w)) (sym (form_and f g h is)) (some_left P (basic_of (form_of g)) (basic_of (form_of h)) there)

  pub in_right : (g h : Formula) → f ≡ v.And g h → ¬ There g → There h ↔ There f
  in_right g h is none = (
    λ there. subst (λ w. SomeAtom P (basic_of w)) (sym (form_and f g h is)) (some_right P (basic_of (form_of g)) (basic_of (form_of h)) there),
    λ there. by (some_cases P (basic_of (form_of g)) (basic_of (form_of h)) (subst (λ w. SomeAtom P (basic_of w)) (form_and f g h is) there)),
  )
    where
      by : There g ⊎ There h → There h
      by (inl left) = absurd (none left)
      by (inr right) = right

  pub in_body : (x : ℕ) (g : Formula) → f ≡ v.Exists x g → There g ↔ There f
  in_body x g is = (subst (λ w. SomeAtom P (basic_of w)) (sym (form_exists f x g is)), subst (λ w. SomeAtom P (basic_of w)) (form_exists f x g is))

  pub in_equation : (t s : Term) → f ≡ v.Eq t s → P (equation t s) ↔ There f
  in_equation t s is = (
    λ p. subst (λ w. SomeAtom P (basic_of w)) (sym (form_equal f t s is)) ((one_there P (equation t s)).1 p),
    λ there. (one_there P (equation t s)).0 (subst (λ w. SomeAtom P (basic_of w)) (form_equal f t s is) there),
  )

  pub in_mark : (t : Term) → f ≡ v.Finite t → P (Finite (variable_in t)) ↔ There f
  in_mark t is = (
    λ p. subst (λ w. SomeAtom P (basic_of w)) (sym (form_finite f t is)) ((one_there P (Finite (variable_in t))).1 p),
    λ there. (one_there P (Finite (variable_in t))).0 (subst (λ w. SomeAtom P (basic_of w)) (form_finite f t is) there),
  )

  pub nowhere : ((g h : Formula) → ¬ (f ≡ v.And g h)) → ((x : ℕ) (g : Formula) → ¬ (f ≡ v.Exists x g)) → ((t s : Term) → ¬ (f ≡ v.Eq t s))
      → ((t : Term) → ¬ (f ≡ v.Finite t)) → ¬ There f
  nowhere a x e m there = none_there P (subst (SomeAtom P) (no_atoms f a x e m) there)

  -- ---- all atoms

  abbrev pub Everywhere : Formula → Type 0
  Everywhere g = All P (basic_of (form_of g))

  pub all_and : (g h : Formula) → f ≡ v.And g h → (Everywhere g × Everywhere h) ↔ Everywhere f
  all_and g h is = (
    λ both. subst (λ w. All P (basic_of w)) (sym (form_and f g h is)) ((all_both P (basic_of (form_of g)) (basic_of (form_of h))).1 both),
    λ all. (all_both P (basic_of (form_of g)) (basic_of (form_of h))).0 (subst (λ w. All P (basic_of w)) (form_and f g h is) all),
  )

  pub all_body : (x : ℕ) (g : Formula) → f ≡ v.Exists x g → Everywhere g ↔ Everywhere f
  all_body x g is = (subst (λ w. All P (basic_of w)) (sym (form_exists f x g is)), subst (λ w. All P (basic_of w)) (form_exists f x g is))

  pub all_equation : (t s : Term) → f ≡ v.Eq t s → P (equation t s) ↔ Everywhere f
  all_equation t s is = (
    λ p. subst (λ w. All P (basic_of w)) (sym (form_equal f t s is)) ((all_one P (equation t s)).1 p),
    λ all. (all_one P (equation t s)).0 (subst (λ w. All P (basic_of w)) (form_equal f t s is) all),
  )

  pub all_mark : (t : Term) → f ≡ v.Finite t → P (Finite (variable_in t)) ↔ Everywhere f
  all_mark t is = (
    λ p. subst (λ w. All P (basic_of w)) (sym (form_finite f t is)) ((all_one P (Finite (variable_in t))).1 p),
    λ all. (all_one P (Finite (variable_in t))).0 (subst (λ w. All P (basic_of w)) (form_finite f t is) all),
  )

  pub all_mark_at : (t : Term) (u : ℕ) → u ≡ variable_in t → f ≡ v.Finite t → P (Finite u) ↔ Everywhere f
  all_mark_at t u same is = subst (λ (w : ℕ). P (Finite w) ↔ Everywhere f) (sym same) (all_mark t is)

  pub all_nowhere : ((g h : Formula) → ¬ (f ≡ v.And g h)) → ((x : ℕ) (g : Formula) → ¬ (f ≡ v.Exists x g)) → ((t s : Term) → ¬ (f ≡ v.Eq t s))
      → ((t : Term) → ¬ (f ≡ v.Finite t)) → Everywhere f
  all_nowhere a x e m = subst (All P) (sym (no_atoms f a x e m)) (λ k d w. absurd (omega (arith, w)))

-- ---- all parts

module _ (P : Denied → Type 0) (f : Formula) where
  abbrev AllParts : Form → Type 0
  AllParts w = All P (parts_of w)

  pub parts_and : (g h : Formula) → f ≡ v.And g h → (All P (parts_of (form_of g)) × All P (parts_of (form_of h))) ↔ All P (parts_of (form_of f))
  parts_and g h is = (
    λ both. subst AllParts (sym (form_and f g h is)) ((all_both P (parts_of (form_of g)) (parts_of (form_of h))).1 both),
    λ all. (all_both P (parts_of (form_of g)) (parts_of (form_of h))).0 (subst AllParts (form_and f g h is) all),
  )

  pub parts_body : (x : ℕ) (g : Formula) → f ≡ v.Exists x g → All P (parts_of (form_of g)) ↔ All P (parts_of (form_of f))
  parts_body x g is = (subst AllParts (sym (form_exists f x g is)), subst AllParts (form_exists f x g is))

  pub parts_differ : (t s : Term) → f ≡ v.Differ t s → P (record { bound = []; basic = equation t s ∷ [] }) ↔ All P (parts_of (form_of f))
  parts_differ t s is = (
    λ p. subst AllParts (sym (form_differ f t s is)) ((all_one P (record { bound = []; basic = equation t s ∷ [] })).1 p),
    λ all. (all_one P (record { bound = []; basic = equation t s ∷ [] })).0 (subst AllParts (form_differ f t s is) all),
  )

  pub parts_no : (g : Formula) → f ≡ v.Not g → P (record { bound = bound_of (form_of g); basic = basic_of (form_of g) }) ↔ All P (parts_of (form_of f))
  parts_no g is = (
    λ p. subst AllParts (sym (form_no f g is)) ((all_one P (record { bound = bound_of (form_of g); basic = basic_of (form_of g) })).1 p),
    λ all. (all_one P (record { bound = bound_of (form_of g); basic = basic_of (form_of g) })).0 (subst AllParts (form_no f g is) all),
  )

  pub parts_nowhere : ((g h : Formula) → ¬ (f ≡ v.And g h)) → ((x : ℕ) (g : Formula) → ¬ (f ≡ v.Exists x g)) → ((t s : Term) → ¬ (f ≡ v.Differ t s))
      → ((g : Formula) → ¬ (f ≡ v.Not g)) → All P (parts_of (form_of f))
  parts_nowhere a x d n = subst (All P) (sym (no_parts f a x d n)) (λ k e w. absurd (omega (arith, w)))
