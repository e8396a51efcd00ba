-- What stands in terms and formulas, one layer at a time.
use Rattle.std.proofs.Common.{◌≡◌, ℕ, ◌+◌, List, [], ◌∷◌, ◌++◌, take, refl, ap, ◌∙◌, ◌⊎◌, inl, inr, Some}
use Rattle.std.specs.Prelude.{flat_map, slice_get}
use Rattle.std.proofs.lemmas.Grind.{flat_map-append}
use Rattle.std.proofs.lemmas.List.{append-nil}
use Rattle.tree_model.specs.declared.tree.Symbol.{Symbol}
use Rattle.formula_ast.specs.declared.formula.Formula.{Formula}
use Rattle.formula_ast.specs.declared.formula.Formula.TheVariants as v
use Rattle.formula_ast.specs.declared.term.Term.{Term, Var}
use Rattle.formula_ast.specs.declared.term.Term.TheVariants as term
use Rattle.formula_ast.specs.declared.term.Term.TheBlock.{hidden-the_row-Term-0 as row}
use Rattle.formula_ast.specs.declared.term.Terms.{Terms}
use Rattle.formula_ast.specs.Forms.{form_of}
use Rattle.formula_ast.specs.Occurrences.{index_of, variables_in, variables_among, indexes_in, indexes_among, without, free_occurrences, index_occurrences}
use Rattle.formula_ast.specs.Terms.{list_of}
use Rattle.formula_ast.proofs.Lists.{take_more_got}
use Rattle.formula_ast.proofs.Ties.{always_form, never_form, equal_form, differ_form, finite_form, call_form, win_form, no_form, and_form, or_form, imp_form, iff_form, exists_form, forall_form}

pub variables-var : (x : ℕ) → variables_in (term.Var x) ≡ x ∷ []
unfolding variables_in
variables-var x = refl

variables_row : (ts : List Term) → variables_among (row ts) ≡ flat_map variables_in ts
unfolding variables_in variables_among row denote.Hole.Carrier.hidden
variables_row [] = refl
variables_row (t ∷ ts) = ap (λ l. variables_in t ++ l) (variables_row ts)

pub variables-app : (s : Symbol) (ts : Terms) → variables_in (term.App s ts) ≡ flat_map variables_in (list_of ts)
unfolding variables_in
variables-app s ts = variables_row (list_of ts)

pub indexes-var : (x : ℕ) → indexes_in (term.Var x) ≡ []
unfolding indexes_in
indexes-var x = refl

indexes_row : (ts : List Term) → indexes_among (row ts) ≡ flat_map indexes_in ts
unfolding indexes_in indexes_among row denote.Hole.Carrier.hidden
indexes_row [] = refl
indexes_row (t ∷ ts) = ap (λ l. indexes_in t ++ l) (indexes_row ts)

pub indexes-app : (s : Symbol) (ts : Terms) → indexes_in (term.App s ts) ≡ index_of s ++ flat_map indexes_in (list_of ts)
unfolding indexes_in
indexes-app s ts = ap (λ l. index_of s ++ l) (indexes_row (list_of ts))

-- what one more of the terms adds
pub flat_map-got : (f : Term → List ℕ) (ts : List Term) (i : ℕ) (t : Term) → slice_get ts i ≡ Some t → flat_map f (take (i + 1) ts) ≡ flat_map f (take i ts) ++ f t
flat_map-got f ts i t got =
    ap (flat_map f) (take_more_got ts i t got) ∙ flat_map-append f (take i ts) (t ∷ []) ∙ ap (λ l. flat_map f (take i ts) ++ l) (append-nil (f t))

-- the free occurrences of each form
pub of_nothing : (f : Formula) → (f ≡ v.True) ⊎ (f ≡ v.False) → free_occurrences (form_of f) ≡ []
of_nothing f (inl is) = rw (is, always_form) refl
of_nothing f (inr is) = rw (is, never_form) refl

pub of_pair : (f : Formula) (t s : Term) → (f ≡ v.Eq t s) ⊎ (f ≡ v.Differ t s) → free_occurrences (form_of f) ≡ variables_in t ++ variables_in s
of_pair f t s (inl is) = rw (is, equal_form) refl
of_pair f t s (inr is) = rw (is, differ_form) refl

pub of_call : (f : Formula) (p : ℕ) (ts : Terms) → f ≡ v.Call p ts → free_occurrences (form_of f) ≡ flat_map variables_in (list_of ts)
of_call f p ts is = rw (is, call_form) refl

pub of_not : (f g : Formula) → f ≡ v.Not g → free_occurrences (form_of f) ≡ free_occurrences (form_of g)
of_not f g is = rw (is, no_form) refl

pub of_bound : (f g : Formula) (x : ℕ) → (f ≡ v.Exists x g) ⊎ (f ≡ v.Forall x g) → free_occurrences (form_of f) ≡ without x (free_occurrences (form_of g))
of_bound f g x (inl is) = rw (is, exists_form) refl
of_bound f g x (inr is) = rw (is, forall_form) refl

pub of_term : (f : Formula) (t : Term) → (f ≡ v.Finite t) ⊎ ((p : ℕ) × (k : ℕ) × (f ≡ v.Win p k t)) → free_occurrences (form_of f) ≡ variables_in t
of_term f t (inl is) = rw (is, finite_form) refl
of_term f t (inr (p, k, is)) = rw (is, win_form) refl

pub of_both : (f g h : Formula) → (f ≡ v.And g h) ⊎ ((f ≡ v.Or g h) ⊎ ((f ≡ v.Imp g h) ⊎ (f ≡ v.Iff g h)))
    → free_occurrences (form_of f) ≡ free_occurrences (form_of g) ++ free_occurrences (form_of h)
of_both f g h (inl is) = rw (is, and_form) refl
of_both f g h (inr (inl is)) = rw (is, or_form) refl
of_both f g h (inr (inr (inl is))) = rw (is, imp_form) refl
of_both f g h (inr (inr (inr is))) = rw (is, iff_form) refl

-- the indexes of each form
pub indexes_of_nothing : (f : Formula) → (f ≡ v.True) ⊎ (f ≡ v.False) → index_occurrences (form_of f) ≡ []
indexes_of_nothing f (inl is) = rw (is, always_form) refl
indexes_of_nothing f (inr is) = rw (is, never_form) refl

pub indexes_of_pair : (f : Formula) (t s : Term) → (f ≡ v.Eq t s) ⊎ (f ≡ v.Differ t s) → index_occurrences (form_of f) ≡ indexes_in t ++ indexes_in s
indexes_of_pair f t s (inl is) = rw (is, equal_form) refl
indexes_of_pair f t s (inr is) = rw (is, differ_form) refl

pub indexes_of_term : (f : Formula) (t : Term) → (f ≡ v.Finite t) ⊎ ((p : ℕ) × (k : ℕ) × (f ≡ v.Win p k t)) → index_occurrences (form_of f) ≡ indexes_in t
indexes_of_term f t (inl is) = rw (is, finite_form) refl
indexes_of_term f t (inr (p, k, is)) = rw (is, win_form) refl

pub indexes_of_call : (f : Formula) (p : ℕ) (ts : Terms) → f ≡ v.Call p ts → index_occurrences (form_of f) ≡ flat_map indexes_in (list_of ts)
indexes_of_call f p ts is = rw (is, call_form) refl

pub indexes_of_one : (f g : Formula) → (f ≡ v.Not g) ⊎ (((x : ℕ) × (f ≡ v.Exists x g)) ⊎ ((x : ℕ) × (f ≡ v.Forall x g)))
    → index_occurrences (form_of f) ≡ index_occurrences (form_of g)
indexes_of_one f g (inl is) = rw (is, no_form) refl
indexes_of_one f g (inr (inl (x, is))) = rw (is, exists_form) refl
indexes_of_one f g (inr (inr (x, is))) = rw (is, forall_form) refl

pub indexes_of_both : (f g h : Formula) → (f ≡ v.And g h) ⊎ ((f ≡ v.Or g h) ⊎ ((f ≡ v.Imp g h) ⊎ (f ≡ v.Iff g h)))
    → index_occurrences (form_of f) ≡ index_occurrences (form_of g) ++ index_occurrences (form_of h)
indexes_of_both f g h (inl is) = rw (is, and_form) refl
indexes_of_both f g h (inr (inl is)) = rw (is, or_form) refl
indexes_of_both f g h (inr (inr (inl is))) = rw (is, imp_form) refl
indexes_of_both f g h (inr (inr (inr is))) = rw (is, iff_form) refl
