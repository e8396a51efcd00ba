-- A predicate of a well formed file is its body, by what all predicates of the file mean.
use Rattle.std.proofs.Common.{◌≡◌, ℕ, zero, suc, ◌+◌, ◌<◌, ◌≤◌, true, false, List, [], ◌∷◌, ◌++◌, map, take, sym, ap, subst, ◌⊎◌, inl, inr, arith, Some}
use Rattle.std.specs.Prelude.{◌↔◌, All, Contains, nat_eq, length}
use Rattle.std.proofs.lemmas.Bool.Decides.{nat_tests}
use Rattle.std.proofs.lemmas.List.Elements.{All-head, All-tail}
use Rattle.tree_model.specs.declared.kind.Kind.{Kind}
use Rattle.tree_model.specs.declared.kind.Kind.TheVariants as kind
use Rattle.tree_model.specs.Signatures.{Signature, Entry, TreeOver, declared_at}
use Rattle.tree_model.specs.Valuations.{Valuation, update}
use Rattle.formula_ast.specs.declared.pred.Pred.{Pred}
use Rattle.formula_ast.specs.Forms.{Form, form_of, always, never, equal, differ, finite, call, win, no, and, or, imp, iff, exists, forall}
use Rattle.formula_ast.specs.WellFormed.{FormOver, IsPredOver, predicate_at, predicates_from}
use Rattle.formula_ast.specs.Satisfaction.{Relations, Holds, Wins, parameters, no_predicates, with_predicate, with_predicates}
use Rattle.form_facts.specs.Sameness.{PredicateIsItsBody}

-- ---- a formula reads the predicates that it may call

either : {A B C : Type 0} → (A → C) → (B → C) → A ⊎ B → C
either f g (inl a) = f a
either f g (inr b) = g b

-- the first places alone declare something there
declared_before : (σ : Signature) (place p : ℕ) (arity : ℕ) → declared_at (take place σ) p ≡ Some (kind.Pred, arity) → p < place
declared_before [] zero p arity e = absurd (cc)
declared_before [] (suc place) p arity e = absurd (cc)
declared_before (entry ∷ σ) zero p arity e = absurd (cc)
declared_before (entry ∷ σ) (suc place) zero arity e = omega arith
declared_before (entry ∷ σ) (suc place) (suc p) arity e = omega (arith, declared_before σ place p arity e)

module _ {σ : Signature} where
  -- what ρ says of the places below n, τ says too
  abbrev Within : ℕ → Relations σ → Relations σ → Type 0
  Within n ρ τ = (p : ℕ) → p < n → (trees : List (TreeOver σ)) → ρ p trees ↔ τ p trees

  within_turned : (n : ℕ) (ρ τ : Relations σ) → Within n ρ τ → Within n τ ρ
  within_turned n ρ τ w p less trees = let h = w p less trees in (h.1, h.0)

  wins_within : (n : ℕ) (ρ τ : Relations σ) → Within n ρ τ → (p : ℕ) → p < n → (k : ℕ) (t : TreeOver σ) → Wins σ (ρ p) k t → Wins σ (τ p) k t
  wins_within n ρ τ w p less zero t h = h
  wins_within n ρ τ w p less (suc k) t h =
      λ m. h (λ (y, (moves, wins)). m (y, ((w p less (t ∷ y ∷ [])).0 moves, λ z back. wins_within n ρ τ w p less k z (wins z ((w p less (y ∷ z ∷ [])).1 back)))))

  holds_within : (place n : ℕ) (f : Form) → FormOver σ (take place σ) n f → (ρ τ : Relations σ) → Within place ρ τ → (e : Valuation σ) → Holds σ ρ f e → Holds σ τ f e
  holds_within place n always over ρ τ w e h = h
  holds_within place n never over ρ τ w e h = h
  holds_within place n (equal t s) over ρ τ w e h = h
  holds_within place n (differ t s) over ρ τ w e h = h
  holds_within place n (finite t) over ρ τ w e h = h
  holds_within place n (call p ts) over ρ τ w e h = λ k. h (λ (trees, (all, holds)). k (trees, (all, (w p (declared_before σ place p (length ts) over.0) trees).0 holds)))
  holds_within place n (win p m t) over ρ τ w e h =
      λ k. h (λ (tree, (is, wins)). k (tree, (is, wins_within place ρ τ w p (declared_before σ place p 2 over.0) m tree wins)))
  holds_within place n (no f) over ρ τ w e h = λ k. h (holds_within place n f over τ ρ (within_turned place ρ τ w) e k)
  holds_within place n (and f g) over ρ τ w e h = (holds_within place n f over.0 ρ τ w e h.0, holds_within place n g over.1 ρ τ w e h.1)
  holds_within place n (or f g) over ρ τ w e h =
      λ k. h (either (λ p. k (inl (holds_within place n f over.0 ρ τ w e p))) (λ q. k (inr (holds_within place n g over.1 ρ τ w e q))))
  holds_within place n (imp f g) over ρ τ w e h =
      λ p. holds_within place n g over.1 ρ τ w e (h (holds_within place n f over.0 τ ρ (within_turned place ρ τ w) e p))
  holds_within place n (iff f g) over ρ τ w e h = (
    λ p. holds_within place n g over.1 ρ τ w e (h.0 (holds_within place n f over.0 τ ρ (within_turned place ρ τ w) e p)),
    λ q. holds_within place n f over.0 ρ τ w e (h.1 (holds_within place n g over.1 τ ρ (within_turned place ρ τ w) e q)),
  )
  holds_within place n (exists x f) over ρ τ w e h = λ k. h (λ (t, holds). k (t, holds_within place n f over.1 ρ τ w (update e x t) holds))
  holds_within place n (forall x f) over ρ τ w e h = λ t. holds_within place n f over.1 ρ τ w (update e x t) (h t)

-- ---- the predicates of a file are in ascending order of their places

-- the places ascend, and none is below n
abbrev Ascend : ℕ → List Pred → Type 0
Ascend n [] = Unit {0}
Ascend n (pred ∷ later) = (n ≤ pred.place) × Ascend (pred.place + 1) later

lower : (m n : ℕ) (preds : List Pred) → m ≤ n → Ascend n preds → Ascend m preds
lower m n [] le ascend = tt
lower m n (pred ∷ later) le ascend = (omega (arith, ascend.0), ascend.1)

-- the places and numbers of parameters
abbrev pub places : List Pred → List (ℕ × ℕ)
places preds = map {A = Pred} {B = ℕ × ℕ} (λ pred. (pred.place, pred.params)) preds

pub head_is : {x y : ℕ × ℕ} {xs ys : List (ℕ × ℕ)} → x ∷ xs ≡ y ∷ ys → x ≡ y
head_is e = cc

pub tail_is : {x y : ℕ × ℕ} {xs ys : List (ℕ × ℕ)} → x ∷ xs ≡ y ∷ ys → xs ≡ ys
tail_is e = cc

declared_ascend : (entries : List Entry) (n : ℕ) (preds : List Pred)
    → places preds ≡ predicates_from n entries → Ascend n preds
declared_ascend [] n [] e = tt
declared_ascend [] n (pred ∷ later) e = absurd (cc)
declared_ascend (entry ∷ entries) n preds e = by (λ preds e. declared_ascend entries (n + 1) preds e) entry.kind preds e
  where
    by : ((preds : List Pred) → places preds ≡ predicates_from (n + 1) entries → Ascend (n + 1) preds)
        → (k : Kind) (preds : List Pred) → places preds ≡ predicate_at n k entry.arity ++ predicates_from (n + 1) entries → Ascend n preds
    by rest kind.Symbol preds e = lower n (n + 1) preds (omega arith) (rest preds e)
    by rest kind.Pred [] e = tt
    by rest kind.Pred (pred ∷ later) e =
        let here : pred.place ≡ n = ap (λ d. d.0) (head_is e) in
        (omega arith, subst (λ (m : ℕ). Ascend (m + 1) later) (sym here) (rest later (tail_is e)))

-- ---- later predicates change nothing

test_self : (p : ℕ) → nat_eq p p ≡ true
test_self p = grind (arith, nat_tests)

test_less : (p q : ℕ) → p < q → nat_eq p q ≡ false
test_less p q less = grind (arith, nat_tests)

module _ {σ : Signature} where
  -- one predicate more changes nothing below its place
  one_more_within : (ρ : Relations σ) (pred : Pred) → Within pred.place ρ (with_predicate σ ρ pred)
  one_more_within ρ pred p less trees = rw (test_less p pred.place less) (λ h. h, λ h. h)

  more_within : (ρ : Relations σ) (n : ℕ) (preds : List Pred) → Ascend n preds → Within n ρ (with_predicates σ ρ preds)
  more_within ρ n [] ascend p less trees = (λ h. h, λ h. h)
  more_within ρ n (pred ∷ later) ascend p less trees =
      let one = one_more_within ρ pred p (omega (arith, ascend.0)) trees in
      let more = more_within (with_predicate σ ρ pred) (pred.place + 1) later ascend.1 p (omega (arith, ascend.0)) trees in
      (λ h. more.0 (one.0 h), λ h. one.1 (more.1 h))

  -- the last of the predicates is its body
  last_is : (ρ : Relations σ) (pred : Pred) (trees : List (TreeOver σ)) → with_predicate σ ρ pred pred.place trees ↔ Holds σ ρ (form_of pred.body) (parameters σ trees)
  last_is ρ pred trees = rw (test_self pred.place) (λ h. h, λ h. h)

  first_holds : (ρ : Relations σ) (pred : Pred) (later : List Pred) → Ascend (pred.place + 1) later → IsPredOver σ pred → (trees : List (TreeOver σ))
      → with_predicates σ ρ (pred ∷ later) pred.place trees ↔ Holds σ (with_predicates σ ρ (pred ∷ later)) (form_of pred.body) (parameters σ trees)
  first_holds ρ pred later ascend over trees =
      let more = more_within (with_predicate σ ρ pred) (pred.place + 1) later ascend in
      let all : Within pred.place ρ (with_predicates σ (with_predicate σ ρ pred) later) = λ p less trees.
      let one = one_more_within ρ pred p less trees in
      let rest = more p (omega arith) trees in (λ h. rest.0 (one.0 h), λ h. one.1 (rest.1 h)) in
      let here = more pred.place (omega arith) trees in
      let last = last_is ρ pred trees in
      let body = over.body.formula in (
        λ h. holds_within pred.place (length pred.names) (form_of pred.body) body _ _ all (parameters σ trees) (last.0 (here.1 h)),
        λ h. here.0 (last.1 (holds_within pred.place (length pred.names) (form_of pred.body) body _ _ (within_turned pred.place _ _ all) (parameters σ trees) h)),
      )

  body_holds : (ρ : Relations σ) (n : ℕ) (preds : List Pred) → Ascend n preds → All (λ pred. IsPredOver σ pred) preds → (pred : Pred) → Contains preds pred → (trees : List (TreeOver σ))
      → with_predicates σ ρ preds pred.place trees ↔ Holds σ (with_predicates σ ρ preds) (form_of pred.body) (parameters σ trees)
  body_holds ρ n [] ascend all pred c trees = absurd (omega (arith, c.1))
  body_holds ρ n (pred ∷ later) ascend all it (zero, less, is) trees =
      subst (λ (it : Pred). with_predicates σ ρ (pred ∷ later) it.place trees ↔ Holds σ (with_predicates σ ρ (pred ∷ later)) (form_of it.body) (parameters σ trees)) is
      (first_holds ρ pred later ascend.1 (All-head (λ pred. IsPredOver σ pred) pred later all) trees)
  body_holds ρ n (pred ∷ later) ascend all it (suc i, less, is) trees =
      body_holds (with_predicate σ ρ pred) (pred.place + 1) later ascend.1 (All-tail (λ pred. IsPredOver σ pred) pred later all) it (i, omega (arith, less), is) trees

pub predicate_is_its_body : PredicateIsItsBody
predicate_is_its_body file pred trees formed c =
    body_holds (no_predicates file.signature) 0 file.preds (declared_ascend file.signature 0 file.preds formed.declared) formed.preds pred c trees
