-- The free variables of a formula are among those that it is over.
use Rattle.std.proofs.Common.{inl, inr, ℕ, ◌<◌, Option, subst}
use Rattle.std.specs.Prelude.{IfSome}
use Rattle.std.proofs.lemmas.List.Elements.{All-contains}
use Rattle.std.proofs.lemmas.Option.{slice_get_within, get_or_from_slice_get}
use Rattle.tree_model.specs.Signatures.{Signature}
use Rattle.formula_ast.specs.declared.term.Term.{Term}
use Rattle.formula_ast.specs.declared.term.Term.TheViews.{out-Term}
use Rattle.formula_ast.specs.Forms.{Form, always, never, equal, differ, finite, call, win, no, and, or, imp, iff, exists, forall}
use Rattle.formula_ast.specs.WellFormed.{LayerOver, TermOver, FormOver, OccursIn, IsFreeIn}

module _ (σ callable : Signature) (n : ℕ) where
  -- a variable of a term over n variables is one of them
  below : (x : ℕ) (t : Term) → TermOver σ n t → OccursIn x t → x < n
  unfolding out-Term denote.Hole.Carrier.out
  below x t over (path, is) = subst (λ (o : Option Term). IfSome o (λ u. LayerOver σ n (out-Term u))) is (over path)

  pub free_below : (x : ℕ) (f : Form) → FormOver σ callable n f → IsFreeIn x f → x < n
  free_below x always over free = absurd free
  free_below x never over free = absurd free
  free_below x (equal t s) over (inl o) = below x t over.0 o
  free_below x (equal t s) over (inr o) = below x s over.1 o
  free_below x (differ t s) over (inl o) = below x t over.0 o
  free_below x (differ t s) over (inr o) = below x s over.1 o
  free_below x (finite t) over o = below x t over o
  free_below x (call p ts) over (i, t, stands, o) =
      below x t (All-contains (TermOver σ n) ts t over.1 (i, slice_get_within ts i t stands, get_or_from_slice_get ts i t t stands)) o
  free_below x (win p k t) over o = below x t over.1 o
  free_below x (no f) over free = free_below x f over free
  free_below x (and f g) over (inl free) = free_below x f over.0 free
  free_below x (and f g) over (inr free) = free_below x g over.1 free
  free_below x (or f g) over (inl free) = free_below x f over.0 free
  free_below x (or f g) over (inr free) = free_below x g over.1 free
  free_below x (imp f g) over (inl free) = free_below x f over.0 free
  free_below x (imp f g) over (inr free) = free_below x g over.1 free
  free_below x (iff f g) over (inl free) = free_below x f over.0 free
  free_below x (iff f g) over (inr free) = free_below x g over.1 free
  free_below x (exists y f) over free = free_below x f over.1 free.1
  free_below x (forall y f) over free = free_below x f over.1 free.1
