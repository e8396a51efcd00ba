-- The keys that each formula asks for, one layer at a time.
use Rattle.std.proofs.Common.{◌≡◌, ℕ, [], ◌∷◌, ◌++◌, refl, ◌⊎◌, inl, inr}
use Rattle.formula_ast.specs.declared.formula.Formula.{Formula}
use Rattle.formula_ast.specs.declared.formula.Formula.TheVariants as v
use Rattle.formula_ast.specs.declared.term.Term.{Term}
use Rattle.formula_ast.specs.declared.term.Terms.{Terms}
use Rattle.formula_ast.specs.Forms.{form_of}
use Rattle.formula_ast.proofs.Ties.{always_form, never_form, equal_form, differ_form, finite_form, call_form, win_form, no_form, and_form, or_form, imp_form, iff_form, exists_form, forall_form}
use Rattle.flattening.specs.declared.solved.Key.TheVariants.{Call, Win}
use Rattle.game_library.specs.Needs.{asked_keys}

pub asked_nothing : (f : Formula) → (f ≡ v.True) ⊎ (f ≡ v.False) → asked_keys (form_of f) ≡ []
asked_nothing f (inl is) = rw (is, always_form) refl
asked_nothing f (inr is) = rw (is, never_form) refl

pub asked_atom : (f : Formula) → ((t : Term) × (s : Term) × (f ≡ v.Eq t s)) ⊎ (((t : Term) × (s : Term) × (f ≡ v.Differ t s)) ⊎ ((t : Term) × (f ≡ v.Finite t)))
    → asked_keys (form_of f) ≡ []
asked_atom f (inl (t, s, is)) = rw (is, equal_form) refl
asked_atom f (inr (inl (t, s, is))) = rw (is, differ_form) refl
asked_atom f (inr (inr (t, is))) = rw (is, finite_form) refl

pub asked_call : (f : Formula) (p : ℕ) (ts : Terms) → f ≡ v.Call p ts → asked_keys (form_of f) ≡ Call p ∷ []
asked_call f p ts is = rw (is, call_form) refl

pub asked_win : (f : Formula) (p k : ℕ) (t : Term) → f ≡ v.Win p k t → asked_keys (form_of f) ≡ Win p k ∷ []
asked_win f p k t is = rw (is, win_form) refl

pub asked_one : (f g : Formula) → (f ≡ v.Not g) ⊎ (((x : ℕ) × (f ≡ v.Exists x g)) ⊎ ((x : ℕ) × (f ≡ v.Forall x g)))
    → asked_keys (form_of f) ≡ asked_keys (form_of g)
asked_one f g (inl is) = rw (is, no_form) refl
asked_one f g (inr (inl (x, is))) = rw (is, exists_form) refl
asked_one f g (inr (inr (x, is))) = rw (is, forall_form) refl

pub asked_both : (f g h : Formula) → (f ≡ v.And g h) ⊎ ((f ≡ v.Or g h) ⊎ ((f ≡ v.Imp g h) ⊎ (f ≡ v.Iff g h)))
    → asked_keys (form_of f) ≡ asked_keys (form_of g) ++ asked_keys (form_of h)
asked_both f g h (inl is) = rw (is, and_form) refl
asked_both f g h (inr (inl is)) = rw (is, or_form) refl
asked_both f g h (inr (inr (inl is))) = rw (is, imp_form) refl
asked_both f g h (inr (inr (inr is))) = rw (is, iff_form) refl
