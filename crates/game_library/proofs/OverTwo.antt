-- Terms over two variables, of their parts.
use Rattle.std.proofs.Common.{◌≡◌, ℕ, zero, suc, ◌<◌, ◌≤◌, List, [], ◌∷◌, length, sym, subst, arith}
use Rattle.std.specs.Prelude.{All, IfSome, Option, slice_get, option_and_then}
use Rattle.std.proofs.lemmas.List.Elements.{All-nil, All-cons}
use Rattle.tree_model.specs.declared.tree.Symbol.TheVariants.{Further}
use Rattle.tree_model.specs.Signatures.{Signature}
use Rattle.formula_ast.specs.declared.term.Term.{Term}
use Rattle.formula_ast.specs.declared.term.Terms.{Terms}
use Rattle.formula_ast.specs.declared.term.Term.TheVariants.{Var, App, outs-App}
use Rattle.formula_ast.specs.declared.term.Term.TheOpen.{Term-F}
use Rattle.formula_ast.specs.declared.term.Term.TheViews.{out-Term}
use Rattle.formula_ast.specs.Terms.{list_of, argument, subterm}
use Rattle.formula_ast.specs.WellFormed.{LayerOver, TermOver}

few_terms : (ts : Terms) (us : List Term) → list_of ts ≡ us → length us ≤ 8 → length (list_of ts) ≤ 8
few_terms ts us e few = subst (λ (l : List Term). length l ≤ 8) (sym e) few

module _ (σ : Signature) where
  pub variable_over : (v : ℕ) → v < 2 → TermOver σ 2 (Var v)
  unfolding out-Term denote.Hole.Carrier.out
  variable_over v less [] = less
  variable_over v less (i ∷ path) = tt

  -- the i-th of some arguments is over the signature, at a path
  abbrev ArgumentOver : List Term → ℕ → List ℕ → Type 0
  ArgumentOver ts i path = IfSome (option_and_then {T = Term} {U = Term} (λ u. subterm u path) (slice_get ts i)) (λ u. LayerOver σ 2 (out-Term u))

  abbrev LayerArgumentOver : Term-F Term Terms → ℕ → List ℕ → Type 0
  LayerArgumentOver l i path = IfSome (option_and_then {T = Term} {U = Term} (λ u. subterm u path) (argument l i)) (λ u. LayerOver σ 2 (out-Term u))

  -- an application of a further symbol to these terms
  below_root : (index : ℕ) (ts : Terms) (us : List Term) → list_of ts ≡ us → (i : ℕ) (path : List ℕ) → ArgumentOver us i path
      → LayerArgumentOver (out-Term (App (Further index) ts)) i path
  below_root index ts us e i path over =
      subst (λ (l : Term-F Term Terms). LayerArgumentOver l i path) (sym (outs-App (Further index) ts))
      (subst (λ (l : List Term). ArgumentOver l i path) (sym e) over)

  root_over : (index : ℕ) (ts : Terms) (us : List Term) → list_of ts ≡ us → length us ≤ 8 → LayerOver σ 2 (out-Term (App (Further index) ts))
  root_over index ts us e few = subst (LayerOver σ 2) (sym (outs-App (Further index) ts)) (tt, few_terms ts us e few)

  pub constant_over : (index : ℕ) (ts : Terms) → list_of ts ≡ [] → TermOver σ 2 (App (Further index) ts)
  constant_over index ts e [] = root_over index ts [] e (omega arith)
  constant_over index ts e (i ∷ path) = below_root index ts [] e i path tt

  pub applied_over : (index : ℕ) (ts : Terms) (t : Term) → list_of ts ≡ t ∷ [] → TermOver σ 2 t → TermOver σ 2 (App (Further index) ts)
  applied_over index ts t e over [] = root_over index ts (t ∷ []) e (omega arith)
  applied_over index ts t e over (zero ∷ path) = below_root index ts (t ∷ []) e 0 path (over path)
  applied_over index ts t e over (suc i ∷ path) = below_root index ts (t ∷ []) e (suc i) path tt

  pub pair_over : (t s : Term) → TermOver σ 2 t → TermOver σ 2 s → All (TermOver σ 2) (t ∷ s ∷ [])
  pair_over t s a b = All-cons (TermOver σ 2) t (s ∷ []) a (All-cons (TermOver σ 2) s [] b (All-nil (TermOver σ 2)))
