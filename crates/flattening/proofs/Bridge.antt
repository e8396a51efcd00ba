-- Formulas mean what their plain forms do, and have the same free variables.
use Rattle.std.proofs.Common.{ℕ, suc, ◌≡◌, List, [], ◌∷◌, refl, ap, sym, subst, ◌∙◌, inl, inr}
use Rattle.std.specs.Prelude.{Option, Some, IsSome, slice_get, option_and_then}
use Rattle.classical.proofs.Stable.{◌>>=◌}
use Rattle.tree_model.specs.Signatures.{Signature, TreeOver}
use Rattle.tree_model.specs.Trees.{at, ReadsFinite}
use Rattle.tree_model.specs.Valuations.{Valuation, update}
use Rattle.formula_ast.specs.declared.pred.Pred.{Pred}
use Rattle.formula_ast.specs.declared.term.Term.{Term, Var}
use Rattle.formula_ast.specs.declared.term.Terms.{Terms}
use Rattle.formula_ast.specs.declared.term.Term.TheOpen.{Term-F}
use Rattle.formula_ast.specs.declared.term.Term.TheOpen as layer
use Rattle.formula_ast.specs.declared.term.Term.TheViews as views
use Rattle.formula_ast.specs.declared.term.Term.TheViews.{out-Term, roll-Term}
use Rattle.formula_ast.specs.Forms.{Form}
use Rattle.formula_ast.specs.Forms as form
use Rattle.formula_ast.specs.Terms.{list_of, subterm, argument}
use Rattle.formula_ast.specs.Satisfaction.{Holds, AllReadAs, term_reads, meaning_of}
use Rattle.formula_ast.specs.WellFormed.{IsFreeIn, OccursIn}
use Rattle.formula_ast.proofs.Stable.{Holds_stable}
use Rattle.flattening.specs.declared.solved.Key.TheVariants.{Win}
use Rattle.flattening.specs.Plain.{PlainTerm, PlainTerms, variable, apply, no_terms, one_more, term_of, terms_of, plain_of}
use Rattle.flattening.specs.Conditions.{KeyHolds}
use Rattle.flattening.proofs.Readings.{reading, layer_plain, by_layer}
use Rattle.flattening.proofs.Values.{In, InSome, value}
use Rattle.flattening.proofs.Meaning.{PlainHolds, ReadAll, IsFree}

module _ (σ : Signature) (preds : List Pred) where
  read_on : (e : Valuation σ) (t : Term) (path : List ℕ) → term_reads σ e t path ≡ value e (term_of t) path
  read_on e t path = reading (λ v. (e v).graph) t path

  all_on : (e : Valuation σ) (ts : List Term) (trees : List (TreeOver σ)) → AllReadAs σ e ts trees → ReadAll σ preds e (terms_of ts) trees
  all_on e [] [] all = tt
  all_on e [] (tree ∷ trees) all = all
  all_on e (t ∷ ts) [] all = all
  all_on e (t ∷ ts) (tree ∷ trees) all = ((λ path. all.0 path ∙ read_on e t path), all_on e ts trees all.1)

  all_back : (e : Valuation σ) (ts : List Term) (trees : List (TreeOver σ)) → ReadAll σ preds e (terms_of ts) trees → AllReadAs σ e ts trees
  all_back e [] [] all = tt
  all_back e [] (tree ∷ trees) all = all
  all_back e (t ∷ ts) [] all = all
  all_back e (t ∷ ts) (tree ∷ trees) all = ((λ path. all.0 path ∙ sym (read_on e t path)), all_back e ts trees all.1)

  finite_on : (f g : List ℕ → Option _) → ((path : List ℕ) → f path ≡ g path) → ReadsFinite f → ReadsFinite g
  finite_on f g same is_finite n = is_finite (λ b. n (b.0, λ path reads. b.1 path (subst IsSome (sym (same path)) reads)))

  won : (e : Valuation σ) (p k : ℕ) (t : PlainTerm) (trees : List (TreeOver σ)) → ReadAll σ preds e (one_more t no_terms) trees → KeyHolds σ preds (Win p k) trees
      → (tree : TreeOver σ) × (((path : List ℕ) → at tree.graph path ≡ value e t path) × KeyHolds σ preds (Win p k) (tree ∷ []))
  won e p k t [] all holds = absurd all
  won e p k t (tree ∷ []) all holds = (tree, (all.0, holds))
  won e p k t (tree ∷ other ∷ trees) all holds = absurd all.1

  mutual
    pub to_plain : (f : Form) (e : Valuation σ) → Holds σ (meaning_of σ preds) f e → PlainHolds σ preds (plain_of f) e
    to_plain form.always e h = tt
    to_plain form.never e h = λ u. h
    to_plain (form.equal t s) e h = λ path. sym (read_on e t path) ∙ h path ∙ read_on e s path
    to_plain (form.differ t s) e h = λ same. h (λ path. read_on e t path ∙ same path ∙ sym (read_on e s path))
    to_plain (form.finite t) e h = finite_on (term_reads σ e t) (value e (term_of t)) (read_on e t) h
    to_plain (form.call p ts) e h = λ n. do
      (trees, (all, holds)) ← h
      n (trees, (all_on e ts trees all, holds))
    to_plain (form.win p k t) e h = λ n. do
      (tree, (reads, holds)) ← h
      n (tree ∷ [], (((λ path. reads path ∙ read_on e t path), tt), holds))
    to_plain (form.no f) e h = λ p. h (from_plain f e p)
    to_plain (form.and f g) e h = (to_plain f e h.0, to_plain g e h.1)
    to_plain (form.or f g) e h = λ both. do
      one ← h
      elim one [ inl a ↦ both.0 (to_plain f e a) | inr b ↦ both.1 (to_plain g e b) ]
    to_plain (form.imp f g) e h = λ p. p.1 (to_plain g e (h (from_plain f e p.0)))
    to_plain (form.iff f g) e h = ((λ p. p.1 (to_plain g e (h.0 (from_plain f e p.0)))), λ p. p.1 (to_plain f e (h.1 (from_plain g e p.0))))
    to_plain (form.exists x f) e h = λ n. do
      (t, holds) ← h
      n (t, to_plain f (update e x t) holds)
    to_plain (form.forall x f) e h = λ some. do
      (t, fails) ← some
      fails (to_plain f (update e x t) (h t))

    pub from_plain : (f : Form) (e : Valuation σ) → PlainHolds σ preds (plain_of f) e → Holds σ (meaning_of σ preds) f e
    from_plain form.always e h = tt
    from_plain form.never e h = h tt
    from_plain (form.equal t s) e h = λ path. read_on e t path ∙ h path ∙ sym (read_on e s path)
    from_plain (form.differ t s) e h = λ same. h (λ path. sym (read_on e t path) ∙ same path ∙ read_on e s path)
    from_plain (form.finite t) e h = finite_on (value e (term_of t)) (term_reads σ e t) (λ path. sym (read_on e t path)) h
    from_plain (form.call p ts) e h = λ n. do
      (trees, (all, holds)) ← h
      n (trees, (all_back e ts trees all, holds))
    from_plain (form.win p k t) e h = λ n. do
      (trees, (all, holds)) ← h
      let one = won e p k (term_of t) trees all holds in n (one.0, ((λ path. one.1.0 path ∙ sym (read_on e t path)), one.1.1))
    from_plain (form.no f) e h = λ p. h (to_plain f e p)
    from_plain (form.and f g) e h = (from_plain f e h.0, from_plain g e h.1)
    from_plain (form.or f g) e h = λ n. h ((λ a. n (inl (from_plain f e a))), λ b. n (inr (from_plain g e b)))
    from_plain (form.imp f g) e h = λ a. (Holds_stable σ (meaning_of σ preds) g e).holds (λ n. h (to_plain f e a, λ b. n (from_plain g e b)))
    from_plain (form.iff f g) e h = (
      (λ a. (Holds_stable σ (meaning_of σ preds) g e).holds (λ n. h.0 (to_plain f e a, λ b. n (from_plain g e b)))),
      λ a. (Holds_stable σ (meaning_of σ preds) f e).holds (λ n. h.1 (to_plain g e a, λ b. n (from_plain f e b))),
    )
    from_plain (form.exists x f) e h = λ n. do
      (t, holds) ← h
      n (t, from_plain f (update e x t) holds)
    from_plain (form.forall x f) e h = λ t. (Holds_stable σ (meaning_of σ preds) f (update e x t)).holds (λ n. h (λ m. m (t, λ p. n (from_plain f (update e x t) p))))

rolled_variable : (v : ℕ) → roll-Term (layer.Var v) ≡ Var v
unfolding roll-Term denote.Hole.Carrier.roll
rolled_variable v = refl

-- a variable, by the outermost layer
var_there : (x : ℕ) (t : Term) (l : Term-F Term Terms) (v : ℕ) → out-Term t ≡ l → layer_plain l ≡ variable v → x ≡ v → OccursIn x t
var_there x t (layer.Var w) v e is same =
    let w_is : w ≡ v = cc in
    ([], ap Some (sym (views.roll-out-Term t) ∙ ap roll-Term e ∙ rolled_variable w ∙ ap Var (w_is ∙ sym same)))
var_there x t (layer.App s ts) v e is same = absurd (cc is)

in_layer : (x : ℕ) (t : Term) (l : Term-F Term Terms) (s : _) (ps : PlainTerms) → out-Term t ≡ l → layer_plain l ≡ apply s ps
    → ((ts : List Term) → terms_of ts ≡ ps → (i : ℕ) × (u : Term) × (slice_get ts i ≡ Some u) × OccursIn x u) → OccursIn x t
in_layer x t (layer.Var w) s ps e is some = absurd (cc is)
in_layer x t (layer.App r ts) s ps e is some =
    let same : terms_of (list_of ts) ≡ ps = cc in
    let (i, u, got, (path, there)) = some (list_of ts) same in (
      i ∷ path,
      ap (λ l. option_and_then {T = Term} {U = Term} (λ u. subterm u path) (argument l i)) e
          ∙ ap (λ o. option_and_then {T = Term} {U = Term} (λ u. subterm u path) o) got ∙ there,
    )

mutual
  occurs : (x : ℕ) (p : PlainTerm) (t : Term) → term_of t ≡ p → In x p → OccursIn x t
  occurs x (variable v) t is same = var_there x t (out-Term t) v refl (sym (by_layer t) ∙ is) same
  occurs x (apply s ps) t is some = in_layer x t (out-Term t) s ps refl (sym (by_layer t) ∙ is) (λ ts e. occurs_some x ps ts e some)

  occurs_some : (x : ℕ) (ps : PlainTerms) (ts : List Term) → terms_of ts ≡ ps → InSome x ps → (i : ℕ) × (u : Term) × (slice_get ts i ≡ Some u) × OccursIn x u
  occurs_some x no_terms ts is some = absurd some
  occurs_some x (one_more p ps) [] is some = absurd (cc is)
  occurs_some x (one_more p ps) (t ∷ ts) is (inl here) = let e : term_of t ≡ p = cc in (0, t, refl, occurs x p t e here)
  occurs_some x (one_more p ps) (t ∷ ts) is (inr later) =
      let e : terms_of ts ≡ ps = cc in let (i, u, got, there) = occurs_some x ps ts e later in (suc i, u, got, there)

pub free_in : (x : ℕ) (f : Form) → IsFree x (plain_of f) → IsFreeIn x f
free_in x form.always k = k
free_in x form.never k = k
free_in x (form.equal t s) (inl k) = inl (occurs x (term_of t) t refl k)
free_in x (form.equal t s) (inr k) = inr (occurs x (term_of s) s refl k)
free_in x (form.differ t s) (inl k) = inl (occurs x (term_of t) t refl k)
free_in x (form.differ t s) (inr k) = inr (occurs x (term_of s) s refl k)
free_in x (form.finite t) k = occurs x (term_of t) t refl k
free_in x (form.call p ts) k = occurs_some x (terms_of ts) ts refl k
free_in x (form.win p m t) (inl k) = occurs x (term_of t) t refl k
free_in x (form.win p m t) (inr k) = absurd k
free_in x (form.no f) k = free_in x f k
free_in x (form.and f g) (inl k) = inl (free_in x f k)
free_in x (form.and f g) (inr k) = inr (free_in x g k)
free_in x (form.or f g) (inl k) = inl (free_in x f k)
free_in x (form.or f g) (inr k) = inr (free_in x g k)
free_in x (form.imp f g) (inl k) = inl (free_in x f k)
free_in x (form.imp f g) (inr k) = inr (free_in x g k)
free_in x (form.iff f g) (inl (inl k)) = inl (free_in x f k)
free_in x (form.iff f g) (inl (inr k)) = inr (free_in x g k)
free_in x (form.iff f g) (inr (inl k)) = inr (free_in x g k)
free_in x (form.iff f g) (inr (inr k)) = inl (free_in x f k)
free_in x (form.exists y f) k = (k.0, free_in x f k.1)
free_in x (form.forall y f) k = (k.0, free_in x f k.1)
