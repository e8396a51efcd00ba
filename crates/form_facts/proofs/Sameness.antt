-- Meanings depend on trees, and not on the graphs that they are read from.
use Rattle.std.proofs.Common.{◌≡◌, ◌≢◌, ℕ, zero, suc, Bool, true, false, cond, eqb, List, [], ◌∷◌, refl, sym, ap, ◌∙◌, subst, ◌⊎◌, inl, inr, Option, Some, None}
use Rattle.std.specs.Prelude.{slice_get, option_and_then, IsSome, MatchBool, nat_eq}
use Rattle.std.proofs.lemmas.Bool.{eqb-false}
use Rattle.tree_model.specs.declared.tree.Symbol.{Symbol}
use Rattle.tree_model.specs.Signatures.{Signature, TreeOver, Alike}
use Rattle.tree_model.specs.Valuations.{Valuation, update}
use Rattle.formula_ast.specs.declared.pred.Pred.{Pred}
use Rattle.formula_ast.specs.declared.term.Term.{Term, Var}
use Rattle.formula_ast.specs.declared.term.Term.TheOpen.{Term-F}
use Rattle.formula_ast.specs.declared.term.Term.TheOpen as layer
use Rattle.formula_ast.specs.declared.term.Term.TheViews as views
use Rattle.formula_ast.specs.declared.term.Term.TheViews.{out-Term, roll-Term}
use Rattle.formula_ast.specs.declared.term.Terms.{Terms}
use Rattle.formula_ast.specs.Forms.{Form, form_of, always, never, equal, differ, finite, call, win, no, and, or, imp, iff, exists, forall}
use Rattle.formula_ast.specs.Terms.{list_of, subterm, argument, layer_reads}
use Rattle.formula_ast.specs.WellFormed.{OccursIn, IsFreeIn}
use Rattle.formula_ast.specs.Satisfaction.{Relations, Holds, Wins, AreEqual, ReadsAs, AllReadAs, term_reads, parameters, no_predicates, with_predicate, with_predicates, meaning_of}
use Rattle.form_facts.specs.Sameness.{AllAlike}

either : {A B C : Type 0} → (A → C) → (B → C) → A ⊎ B → C
either f g (inl a) = f a
either f g (inr b) = g b

rolled : (v : ℕ) → roll-Term (layer.Var v) ≡ Var v
unfolding roll-Term denote.Hole.Carrier.roll
rolled v = refl

-- the argument of a term whose outermost layer has these arguments
argument_of : (t : Term) (s : Symbol) (ts : Terms) (i : ℕ) (u : Term) → out-Term t ≡ layer.App s ts → slice_get (list_of ts) i ≡ Some u
    → (x : ℕ) → OccursIn x u → OccursIn x t
argument_of t s ts i u is got x (path, there) = (
  i ∷ path,
  ap (λ l. option_and_then {T = Term} {U = Term} (λ u. subterm u path) (argument l i)) is
      ∙ ap (λ o. option_and_then {T = Term} {U = Term} (λ u. subterm u path) o) got ∙ there,
)

-- x stands in one of the terms
abbrev StandsIn : ℕ → List Term → Type 0
StandsIn x ts = (i : ℕ) × (t : Term) × (slice_get ts i ≡ Some t) × OccursIn x t

module _ {σ : Signature} where
  -- both give the variables that P names the same trees
  abbrev pub Agree : (ℕ → Type 0) → Valuation σ → Valuation σ → Type 0
  Agree P d e = (x : ℕ) → P x → Alike (d x) (e x)

  agree_turned : (P : ℕ → Type 0) (d e : Valuation σ) → Agree P d e → Agree P e d
  agree_turned P d e agree x p path = sym (agree x p path)

  -- a term reads its own variables alone
  pub reads_alike : (path : List ℕ) (t : Term) (d e : Valuation σ) → Agree (λ x. OccursIn x t) d e → term_reads σ d t path ≡ term_reads σ e t path
  reads_alike [] t d e agree = by (out-Term t) refl
    where
      by : (l : Term-F Term Terms) → out-Term t ≡ l → layer_reads (λ v. (d v).graph) l [] ≡ layer_reads (λ v. (e v).graph) l []
      by (layer.Var v) is = agree v ([], ap Some (sym (views.roll-out-Term t) ∙ ap roll-Term is ∙ rolled v)) []
      by (layer.App s ts) is = refl
  reads_alike (i ∷ path) t d e agree = by (λ u agree. reads_alike path u d e agree) (out-Term t) refl
    where
      found : ((u : Term) → Agree (λ x. OccursIn x u) d e → term_reads σ d u path ≡ term_reads σ e u path)
          → (o : Option Term) → ((u : Term) → o ≡ Some u → Agree (λ x. OccursIn x u) d e)
          → option_and_then {T = Term} {U = Symbol × ℕ} (λ u. term_reads σ d u path) o ≡ option_and_then {T = Term} {U = Symbol × ℕ} (λ u. term_reads σ e u path) o
      found rest None inner = refl
      found rest (Some u) inner = rest u (inner u refl)

      by : ((u : Term) → Agree (λ x. OccursIn x u) d e → term_reads σ d u path ≡ term_reads σ e u path) → (l : Term-F Term Terms) → out-Term t ≡ l
          → layer_reads (λ v. (d v).graph) l (i ∷ path) ≡ layer_reads (λ v. (e v).graph) l (i ∷ path)
      by rest (layer.Var v) is = agree v ([], ap Some (sym (views.roll-out-Term t) ∙ ap roll-Term is ∙ rolled v)) (i ∷ path)
      by rest (layer.App s ts) is = found rest (slice_get (list_of ts) i) (λ u got x there. agree x (argument_of t s ts i u is got x there))

  -- a tree reads as a term where it does so by other values that agree
  pub reads_as_alike : (t : Term) (d e : Valuation σ) → Agree (λ x. OccursIn x t) d e → (tree : TreeOver σ) → ReadsAs σ d t tree → ReadsAs σ e t tree
  reads_as_alike t d e agree tree is path = is path ∙ reads_alike path t d e agree

  all_read_alike : (ts : List Term) (d e : Valuation σ) → Agree (λ x. StandsIn x ts) d e → (trees : List (TreeOver σ)) → AllReadAs σ d ts trees → AllReadAs σ e ts trees
  all_read_alike [] d e agree [] all = tt
  all_read_alike [] d e agree (tree ∷ trees) all = all
  all_read_alike (t ∷ ts) d e agree [] all = all
  all_read_alike (t ∷ ts) d e agree (tree ∷ trees) all = (
    reads_as_alike t d e (λ x there. agree x (0, t, refl, there)) tree all.0,
    all_read_alike ts d e (λ x (i, u, got, there). agree x (suc i, u, got, there)) trees all.1,
  )

  -- with one more value they agree behind a quantifier
  agree_under : (P : ℕ → Type 0) (d e : Valuation σ) (x : ℕ) (t : TreeOver σ) → Agree (λ y. (y ≢ x) × P y) d e → Agree P (update d x t) (update e x t)
  agree_under P d e x t agree y p = by (eqb x y) refl
    where
      by : (b : Bool) → eqb x y ≡ b → Alike {σ = σ} (cond b t (d y)) (cond b t (e y))
      by true is = λ path. refl
      by false is = agree y ((λ same. eqb-false x y is (sym same)), p)

  equal_alike : (t s : Term) (d e : Valuation σ) → Agree (λ x. OccursIn x t ⊎ OccursIn x s) d e → AreEqual σ d t s → AreEqual σ e t s
  equal_alike t s d e agree h path =
      sym (reads_alike path t d e (λ x there. agree x (inl there))) ∙ h path ∙ reads_alike path s d e (λ x there. agree x (inr there))

  module _ (ρ : Relations σ) where
    pub holds_alike : (f : Form) (d e : Valuation σ) → Agree (λ x. IsFreeIn x f) d e → Holds σ ρ f d → Holds σ ρ f e
    holds_alike always d e agree h = h
    holds_alike never d e agree h = h
    holds_alike (equal t s) d e agree h = equal_alike t s d e agree h
    holds_alike (differ t s) d e agree h = λ k. h (equal_alike t s e d (agree_turned (λ x. OccursIn x t ⊎ OccursIn x s) d e agree) k)
    holds_alike (finite t) d e agree h =
        λ k. h (λ (bound, all). k (bound, λ path is. all path (subst (λ (o : Option (Symbol × ℕ)). IsSome o) (sym (reads_alike path t d e agree)) is)))
    holds_alike (call p ts) d e agree h = λ k. h (λ (trees, (all, holds)). k (trees, (all_read_alike ts d e agree trees all, holds)))
    holds_alike (win p n t) d e agree h = λ k. h (λ (tree, (is, wins)). k (tree, (reads_as_alike t d e agree tree is, wins)))
    holds_alike (no f) d e agree h = λ k. h (holds_alike f e d (agree_turned (λ x. IsFreeIn x f) d e agree) k)
    holds_alike (and f g) d e agree h = (holds_alike f d e (λ x k. agree x (inl k)) h.0, holds_alike g d e (λ x k. agree x (inr k)) h.1)
    holds_alike (or f g) d e agree h = λ k. h (either (λ p. k (inl (holds_alike f d e (λ x k. agree x (inl k)) p))) (λ q. k (inr (holds_alike g d e (λ x k. agree x (inr k)) q))))
    holds_alike (imp f g) d e agree h =
        λ p. holds_alike g d e (λ x k. agree x (inr k)) (h (holds_alike f e d (λ x k path. sym (agree x (inl k) path)) p))
    holds_alike (iff f g) d e agree h = (
      λ p. holds_alike g d e (λ x k. agree x (inr k)) (h.0 (holds_alike f e d (λ x k path. sym (agree x (inl k) path)) p)),
      λ q. holds_alike f d e (λ x k. agree x (inl k)) (h.1 (holds_alike g e d (λ x k path. sym (agree x (inr k) path)) q)),
    )
    holds_alike (exists x f) d e agree h = λ k. h (λ (t, holds). k (t, holds_alike f (update d x t) (update e x t) (agree_under (λ y. IsFreeIn y f) d e x t agree) holds))
    holds_alike (forall x f) d e agree h = λ t. holds_alike f (update d x t) (update e x t) (agree_under (λ y. IsFreeIn y f) d e x t agree) (h t)

  -- ---- predicates

  -- lists of trees that are alike give the parameters values that are
  parameters_alike : (ts us : List (TreeOver σ)) → AllAlike ts us → (x : ℕ) → Alike (parameters σ ts x) (parameters σ us x)
  parameters_alike [] [] alike x = λ path. refl
  parameters_alike [] (u ∷ us) alike x = absurd alike
  parameters_alike (t ∷ ts) [] alike x = absurd alike
  parameters_alike (t ∷ ts) (u ∷ us) alike zero = alike.0
  parameters_alike (t ∷ ts) (u ∷ us) alike (suc x) = parameters_alike ts us alike.1 x

  -- the relations hold of the same trees, however they are given
  abbrev pub Respects : Relations σ → Type 0
  Respects ρ = (p : ℕ) (ts us : List (TreeOver σ)) → AllAlike ts us → ρ p ts → ρ p us

  one_respects : (ρ : Relations σ) → Respects ρ → (pred : Pred) → Respects (with_predicate σ ρ pred)
  one_respects ρ respects pred p ts us alike = by (nat_eq p pred.place)
    where
      by : (b : Bool) → MatchBool b (Holds σ ρ (form_of pred.body) (parameters σ ts)) (ρ p ts) → MatchBool b (Holds σ ρ (form_of pred.body) (parameters σ us)) (ρ p us)
      by true h = holds_alike ρ (form_of pred.body) (parameters σ ts) (parameters σ us) (λ x free. parameters_alike ts us alike x) h
      by false h = respects p ts us alike h

  all_respect : (ρ : Relations σ) → Respects ρ → (preds : List Pred) → Respects (with_predicates σ ρ preds)
  all_respect ρ respects [] = respects
  all_respect ρ respects (pred ∷ later) = all_respect (with_predicate σ ρ pred) (one_respects ρ respects pred) later

  pub meaning_respects : (preds : List Pred) → Respects (meaning_of σ preds)
  meaning_respects preds = all_respect (no_predicates σ) (λ p ts us alike h. h) preds

  -- ---- wins

  pub itself_alike : (t : TreeOver σ) → Alike t t
  itself_alike t path = refl

  pub wins_alike : (preds : List Pred) (p k : ℕ) (t u : TreeOver σ) → Alike t u → Wins σ (meaning_of σ preds p) k t → Wins σ (meaning_of σ preds p) k u
  wins_alike preds p zero t u alike h = h
  wins_alike preds p (suc k) t u alike h =
      λ n. h (λ (y, (moves, wins)). n (y, (meaning_respects preds p (t ∷ y ∷ []) (u ∷ y ∷ []) (alike, (itself_alike y, tt)) moves, wins)))
