-- When equations have the same terms, and flat terms are equal.
use Rattle.std.proofs.Common.{◌≡◌, ℕ, List, map, refl, sym, ap, subst, ◌∙◌}
use Rattle.std.specs.Prelude.{Contains, ◌↔◌, IsTrue, nat_eq}
use Rattle.std.proofs.lemmas.Bool.{eqb-true, eq-eqb}
use Rattle.tree_model.specs.declared.tree.Symbol.{Symbol}
use Rattle.formula_ast.specs.declared.term.Term.{Term}
use Rattle.formula_ast.specs.declared.term.Terms.{Terms}
use Rattle.formula_ast.specs.declared.term.Term.TheVariants.{Var, App}
use Rattle.formula_ast.specs.declared.term.Term.TheOpen.{Term-F}
use Rattle.formula_ast.specs.declared.term.Term.TheOpen as layer
use Rattle.formula_ast.specs.declared.term.Term.TheViews.{out-Term}
use Rattle.formula_ast.specs.Terms.{list_of}
use Rattle.flat_form.specs.declared.atom.Flat.{Flat}
use Rattle.flat_form.specs.declared.atom.Flat.TheVariants.{VarTerm, Finite}
use Rattle.flat_form.specs.Solved.{variable_of}
use Rattle.explicit_form.specs.Pieces.{layer_equation, variable_in, equation}
use Rattle.explicit_form.specs.Shape.{IsSmaller, SomeAtom, IsLeftOf, HaveSameTerm, Meets}
use Rattle.explicit_form.specs.Shaped.{IsVariable, IsFlat}
use Rattle.explicit_form.proofs.Arms.{var_number, var_equation, app_equation, var_variable, app_variable, app_flat}
use Rattle.explicit_form.proofs.Shaping.{flat_terms}

pub left_pair : (t s : Term) (x : ℕ) (other : Flat) → s ≡ Var x → ¬ HaveSameTerm (equation t s) other
left_pair t s x other is same = subst (λ (a : Flat). HaveSameTerm a other) (var_equation t s x is) same

pub right_pair : (t s u r : Term) (a : Symbol) (ts : Terms) (x : ℕ) → s ≡ App a ts → r ≡ Var x → ¬ HaveSameTerm (equation t s) (equation u r)
right_pair t s u r a ts x is that same =
    subst (λ (e : Flat). HaveSameTerm (VarTerm (variable_in t) a (map variable_in (list_of ts))) e) (var_equation u r x that)
    (subst (λ (e : Flat). HaveSameTerm e (equation u r)) (app_equation t s a ts is) same)

pub same_terms : (t s u r : Term) (a b : Symbol) (ts us : Terms) → s ≡ App a ts → r ≡ App b us
    → HaveSameTerm (equation t s) (equation u r) ↔ ((a ≡ b) × (map variable_in (list_of ts) ≡ map variable_in (list_of us)))
same_terms t s u r a b ts us is that = (
  λ same. subst (λ (e : Flat). HaveSameTerm (VarTerm (variable_in t) a (map variable_in (list_of ts))) e) (app_equation u r b us that)
      (subst (λ (e : Flat). HaveSameTerm e (equation u r)) (app_equation t s a ts is) same),
  λ same. subst (λ (e : Flat). HaveSameTerm e (equation u r)) (sym (app_equation t s a ts is))
      (subst (λ (e : Flat). HaveSameTerm (VarTerm (variable_in t) a (map variable_in (list_of ts))) e) (sym (app_equation u r b us that)) same),
)

-- ---- equal terms

pub same_vars : (t s : Term) (x y : ℕ) → t ≡ Var x → s ≡ Var y → (x ≡ y) ↔ (t ≡ s)
same_vars t s x y is that = (λ e. is ∙ ap (λ n. Var n) e ∙ sym that, λ e. sym (var_number t x is) ∙ ap variable_in e ∙ var_number s y that)

pub var_app : (t s : Term) (x : ℕ) (a : Symbol) (ts : Terms) → t ≡ Var x → s ≡ App a ts → ¬ (t ≡ s)
var_app t s x a ts is that e = app_variable s a ts that (subst IsVariable e (var_variable t x is))

pub same_apps : (t s : Term) (a b : Symbol) (ts us : Terms) → t ≡ App a ts → s ≡ App b us → IsFlat t → IsFlat s
    → ((a ≡ b) × (map variable_in (list_of ts) ≡ map variable_in (list_of us))) ↔ (t ≡ s)
same_apps t s a b ts us is that left right = (
  λ both. is ∙ ap (λ c. App c ts) both.0 ∙ ap (App b) (flat_terms ts us ((app_flat t a ts is).0 left) ((app_flat s b us that).0 right) both.1) ∙ sym that,
  λ e. (same_terms t t t s a b ts us is that).0 (subst (λ (u : Term). HaveSameTerm (equation t t) (equation t u)) e ((same_terms t t t t a a ts ts is is).1 (refl, refl))),
)

-- ---- left sides of equations

left_by : (u v : ℕ) (l : Term-F Term Terms) → (u ≡ v) ↔ IsLeftOf v (layer_equation u l)
left_by u v (layer.Var w) = (λ e. e, λ e. e)
left_by u v (layer.App s ts) = (λ e. e, λ e. e)

pub left_is : (t s : Term) (v : ℕ) → (variable_in t ≡ v) ↔ IsLeftOf v (equation t s)
left_is t s v = left_by (variable_in t) v (out-Term s)

variable_by : (u : ℕ) (l : Term-F Term Terms) → variable_of (layer_equation u l) ≡ u
variable_by u (layer.Var w) = refl
variable_by u (layer.App s ts) = refl

pub variable_is : (t s : Term) → variable_of (equation t s) ≡ variable_in t
variable_is t s = variable_by (variable_in t) (out-Term s)

mark_by : (u v : ℕ) (l : Term-F Term Terms) → ¬ (layer_equation u l ≡ Finite v)
mark_by u v (layer.Var w) e = absurd (cc e)
mark_by u v (layer.App s ts) e = absurd (cc e)

pub no_mark : (t s : Term) (v : ℕ) → ¬ (equation t s ≡ Finite v)
no_mark t s v e = mark_by (variable_in t) v (out-Term s) e

-- ---- tests of numbers

pub equal_test : (a b c : ℕ) → a ≡ c → IsTrue (nat_eq a b) ↔ (c ≡ b)
equal_test a b c is = (λ t. sym is ∙ eqb-true a b t, λ e. eq-eqb a b (is ∙ e))

pub mark_test : (u v : ℕ) → (u ≡ v) ↔ (Finite u ≡ Finite v)
mark_test u v = (λ e. ap (λ w. Finite w) e, λ e. cc e)

-- a finite atom is one of those that are so
pub contains_is : (xs : List Flat) (atom : Flat) → SomeAtom (λ other. other ≡ atom) xs ↔ Contains xs atom
contains_is xs atom = (λ (other, c, is). subst (Contains xs) is c, λ c. (atom, c, refl))

no_term_by : (u v : ℕ) (l : Term-F Term Terms) → ¬ HaveSameTerm (layer_equation u l) (Finite v)
no_term_by u v (layer.Var w) same = same
no_term_by u v (layer.App s ts) same = same

pub no_term_mark : (t s : Term) (v : ℕ) → ¬ HaveSameTerm (equation t s) (Finite v)
no_term_mark t s v same = no_term_by (variable_in t) v (out-Term s) same

-- ---- what is met in an equation

pub meets_pair : (free : ℕ) (block : List ℕ) (v : ℕ) (t s : Term) (x : ℕ) → s ≡ Var x → ¬ Meets free block v (equation t s)
meets_pair free block v t s x is met = subst (Meets free block v) (var_equation t s x is) met

pub meets_term : (free : ℕ) (block : List ℕ) (v u : ℕ) (t s : Term) (a : Symbol) (ts : Terms) → u ≡ variable_in t → s ≡ App a ts
    → (Contains (map variable_in (list_of ts)) v × IsSmaller free block u v) ↔ Meets free block v (equation t s)
meets_term free block v u t s a ts is that =
    subst (λ (w : ℕ). (Contains (map variable_in (list_of ts)) v × IsSmaller free block w v) ↔ Meets free block v (equation t s)) (sym is)
    (subst (Meets free block v) (sym (app_equation t s a ts that)), subst (Meets free block v) (app_equation t s a ts that))
