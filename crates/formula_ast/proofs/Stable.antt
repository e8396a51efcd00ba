-- Every meaning is stable.
use Rattle.std.proofs.Common.{ℕ, zero, suc, ◌≡◌, List, [], ◌∷◌, Bool, true, false, inl, inr, ◌⊎◌, refl}
use Rattle.std.specs.Prelude.{Option, MatchBool, nat_eq}
use Rattle.std.specs.Coded.{Coded, code_by, coded_option, coded×, coded⊎, coded_ℕ}
use Rattle.classical.specs.Classical.{IsStable}
use Rattle.classical.proofs.Codes.{coded_stable}
use Rattle.classical.proofs.Stable.{not_stable, all_stable, and_stable, imp_stable, unit_stable, false_stable}
use Rattle.tree_model.specs.declared.tree.Symbol.{Symbol}
use Rattle.tree_model.specs.declared.tree.Symbol.TheVariants.{Named, Further}
use Rattle.tree_model.specs.Signatures.{Signature, TreeOver}
use Rattle.tree_model.specs.Valuations.{Valuation, update}
use Rattle.formula_ast.specs.declared.pred.Pred.{Pred}
use Rattle.formula_ast.specs.declared.term.Term.{Term}
use Rattle.formula_ast.specs.Forms.{Form, form_of, always, never, equal, differ, finite, call, win, no, and, or, imp, iff, exists, forall}
use Rattle.formula_ast.specs.Satisfaction.{Relations, Holds, Wins, ReadsAs, parameters, no_predicates, with_predicate, with_predicates, meaning_of}

abbrev sides : Symbol → ℕ ⊎ ℕ
sides (Named i) = inl i
sides (Further k) = inr k

abbrev symbol : ℕ ⊎ ℕ → Symbol
symbol (inl i) = Named i
symbol (inr k) = Further k

back : (s : Symbol) → symbol (sides s) ≡ s
back (Named i) = refl
back (Further k) = refl

abbrev symbol_code : Coded Symbol
symbol_code = code_by (ℕ ⊎ ℕ) (coded⊎ coded_ℕ coded_ℕ) sides symbol back

-- whether two readings are equal is decided
pub read_stable : (a b : Option (Symbol × ℕ)) → IsStable (a ≡ b)
read_stable = coded_stable (coded_option (coded× symbol_code coded_ℕ))

module _ (σ : Signature) where
  pub Holds_stable : (ρ : Relations σ) (f : Form) (e : Valuation σ) → IsStable (Holds σ ρ f e)
  Holds_stable ρ always e = unit_stable
  Holds_stable ρ never e = false_stable
  Holds_stable ρ (equal t s) e = all_stable (λ path. read_stable _ _)
  Holds_stable ρ (differ t s) e = not_stable
  Holds_stable ρ (finite t) e = not_stable
  Holds_stable ρ (call p ts) e = not_stable
  Holds_stable ρ (win p k t) e = not_stable
  Holds_stable ρ (no f) e = not_stable
  Holds_stable ρ (and f g) e = and_stable (Holds_stable ρ f e) (Holds_stable ρ g e)
  Holds_stable ρ (or f g) e = not_stable
  Holds_stable ρ (imp f g) e = imp_stable (Holds_stable ρ g e)
  Holds_stable ρ (iff f g) e = and_stable (imp_stable (Holds_stable ρ g e)) (imp_stable (Holds_stable ρ f e))
  Holds_stable ρ (exists x f) e = not_stable
  Holds_stable ρ (forall x f) e = all_stable (λ t. Holds_stable ρ f (update e x t))

  pub Wins_stable : (move : List (TreeOver σ) → Type 0) (k : ℕ) (t : TreeOver σ) → IsStable (Wins σ move k t)
  Wins_stable move zero t = false_stable
  Wins_stable move (suc k) t = not_stable

  pub ReadsAs_stable : (e : Valuation σ) (t : Term) (tree : TreeOver σ) → IsStable (ReadsAs σ e t tree)
  ReadsAs_stable e t tree = all_stable (λ path. read_stable _ _)

  pub with_predicate_stable : (ρ : Relations σ) → ((p : ℕ) (trees : List (TreeOver σ)) → IsStable (ρ p trees)) → (pred : Pred)
      → (p : ℕ) (trees : List (TreeOver σ)) → IsStable (with_predicate σ ρ pred p trees)
  with_predicate_stable ρ s pred p trees = by_test (nat_eq p pred.place)
    where
      by_test : (b : Bool) → IsStable (MatchBool b (Holds σ ρ (form_of pred.body) (parameters σ trees)) (ρ p trees))
      by_test true = Holds_stable ρ (form_of pred.body) (parameters σ trees)
      by_test false = s p trees

  pub with_predicates_stable : (ρ : Relations σ) → ((p : ℕ) (trees : List (TreeOver σ)) → IsStable (ρ p trees)) → (preds : List Pred)
      → (p : ℕ) (trees : List (TreeOver σ)) → IsStable (with_predicates σ ρ preds p trees)
  with_predicates_stable ρ s [] = s
  with_predicates_stable ρ s (pred ∷ later) = with_predicates_stable (with_predicate σ ρ pred) (with_predicate_stable ρ s pred) later

  pub meaning_stable : (preds : List Pred) (p : ℕ) (trees : List (TreeOver σ)) → IsStable (meaning_of σ preds p trees)
  meaning_stable preds = with_predicates_stable (no_predicates σ) (λ p trees. false_stable) preds
