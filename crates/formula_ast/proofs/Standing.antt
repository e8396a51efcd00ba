-- What is free in a formula is among its free occurrences.
use Rattle.std.proofs.Common.{◌≡◌, ◌≢◌, ℕ, zero, suc, Bool, true, false, cond, not, ◌==◌, List, [], ◌∷◌, ◌++◌, refl, sym, ap, ◌∙◌, subst, ◌⊎◌, inl, inr, arith, Option, Some, None}
use Rattle.std.specs.Prelude.{is_some, Contains, ◌↔◌, flat_map, slice_get, option_and_then}
use Rattle.std.proofs.lemmas.Bool.{false≢true, eqb-true, eqb-false, cases_eq}
use Rattle.tree_model.specs.declared.tree.Symbol.{Symbol}
use Rattle.formula_ast.specs.declared.term.Term.{Term, App', Var, Row_of-Term, more_of-Term, end_of-Term}
use Rattle.formula_ast.specs.declared.term.Term.TheBlock.{shown-the_row-Term-0 as shown}
use Rattle.formula_ast.specs.declared.term.Term.TheViews.{out-Term}
use Rattle.formula_ast.specs.Forms.{Form, always, never, equal, differ, finite, call, win, no, and, or, imp, iff, exists, forall}
use Rattle.formula_ast.specs.Occurrences.{variables_in, variables_among, without, first_occurrences, free_occurrences}
use Rattle.formula_ast.specs.Terms.{subterm, argument}
use Rattle.formula_ast.specs.WellFormed.{OccursIn, IsFreeIn}
use mathlib.Core.Former.{arity, this}
use Rattle.sqlite_items.specs.formers.items.Items.{the_former}

-- x is in the list
abbrev pub Has : {A : Type 0} → A → List A → Type 0
Has x [] = ⊥
Has x (y ∷ ys) = (y ≡ x) ⊎ Has x ys

pub contained : {A : Type 0} (x : A) (xs : List A) → Has x xs → Contains xs x
contained x [] h = absurd h
contained x (y ∷ ys) (inl e) = (0, omega arith, e)
contained x (y ∷ ys) (inr h) = let c = contained x ys h in (suc c.0, omega (arith, c.1), c.2)

pub from_contained : {A : Type 0} (x : A) (xs : List A) → Contains xs x → Has x xs
from_contained x [] c = absurd (omega (arith, c.1))
from_contained x (y ∷ ys) (zero, w, e) = inl e
from_contained x (y ∷ ys) (suc k, w, e) = inr (from_contained x ys (k, omega (arith, w), e))

pub has_left : (x : ℕ) (xs ys : List ℕ) → Has x xs → Has x (xs ++ ys)
has_left x [] ys h = absurd h
has_left x (z ∷ zs) ys (inl e) = inl e
has_left x (z ∷ zs) ys (inr h) = inr (has_left x zs ys h)

pub has_right : (x : ℕ) (xs ys : List ℕ) → Has x ys → Has x (xs ++ ys)
has_right x [] ys h = h
has_right x (z ∷ zs) ys h = inr (has_right x zs ys h)

has_parts : (x : ℕ) (xs ys : List ℕ) → Has x (xs ++ ys) → Has x xs ⊎ Has x ys
has_parts x [] ys h = inr h
has_parts x (z ∷ zs) ys (inl e) = inl (inl e)
has_parts x (z ∷ zs) ys (inr h) = by (has_parts x zs ys h)
  where
    by : Has x zs ⊎ Has x ys → Has x (z ∷ zs) ⊎ Has x ys
    by (inl k) = inl (inr k)
    by (inr k) = inr k

has_joined : (x : ℕ) (xs ys : List ℕ) → Has x xs ⊎ Has x ys → Has x (xs ++ ys)
has_joined x xs ys (inl h) = has_left x xs ys h
has_joined x xs ys (inr h) = has_right x xs ys h

-- without y the list has what it had but for y
pub has_without : (x y : ℕ) (xs : List ℕ) → Has x (without y xs) → (x ≢ y) × Has x xs
has_without x y [] h = absurd h
has_without x y (z ∷ zs) h = by (has_without x y zs) (y == z) refl h
  where
    by : (Has x (without y zs) → (x ≢ y) × Has x zs) → (b : Bool) → (y == z) ≡ b → Has x (cond (not b) (z ∷ without y zs) (without y zs)) → (x ≢ y) × Has x (z ∷ zs)
    by rest true e k = let r = rest k in (r.0, inr r.1)
    by rest false e (inl is) = (λ same. eqb-false y z e (sym same ∙ sym is), inl is)
    by rest false e (inr k) = let r = rest k in (r.0, inr r.1)

has_still : (x y : ℕ) (xs : List ℕ) → x ≢ y → Has x xs → Has x (without y xs)
has_still x y [] ne h = absurd h
has_still x y (z ∷ zs) ne h = by (has_still x y zs ne) (y == z) refl h
  where
    by : (Has x zs → Has x (without y zs)) → (b : Bool) → (y == z) ≡ b → Has x (z ∷ zs) → Has x (cond (not b) (z ∷ without y zs) (without y zs))
    by rest true e (inl is) = absurd (ne (sym is ∙ sym (eqb-true y z e)))
    by rest true e (inr k) = rest k
    by rest false e (inl is) = inl is
    by rest false e (inr k) = inr (rest k)

-- the first occurrences have what the list has
has_first : (x : ℕ) (xs : List ℕ) → Has x (first_occurrences xs) → Has x xs
has_first x [] h = h
has_first x (y ∷ ys) (inl e) = inl e
has_first x (y ∷ ys) (inr h) = inr (has_first x ys (has_without x y (first_occurrences ys) h).1)

pub first_has : (x : ℕ) (xs : List ℕ) → Has x xs → Has x (first_occurrences xs)
first_has x [] h = h
first_has x (y ∷ ys) (inl e) = inl e
first_has x (y ∷ ys) (inr h) = by (first_has x ys h) (cases_eq x y)
  where
    by : Has x (first_occurrences ys) → (x ≡ y) ⊎ (x ≡ y → ⊥) → Has x (first_occurrences (y ∷ ys))
    by rest (inl e) = inl (sym e)
    by rest (inr ne) = inr (has_still x y (first_occurrences ys) ne rest)

-- x stands in one of the terms
abbrev pub StandsIn : ℕ → List Term → Type 0
StandsIn x ts = (i : ℕ) × (t : Term) × (slice_get ts i ≡ Some t) × OccursIn x t

stands_later : (x : ℕ) (t : Term) (ts : List Term) → StandsIn x ts → StandsIn x (t ∷ ts)
stands_later x t ts (i, u, at_i, there) = (suc i, u, at_i, there)

stands_here : (x : ℕ) (t : Term) (ts : List Term) (xs ys : List ℕ) → (Has x xs → OccursIn x t) → (Has x ys → StandsIn x ts) → Has x xs ⊎ Has x ys
    → StandsIn x (t ∷ ts)
stands_here x t ts xs ys here there (inl h) = (0, t, refl, here h)
stands_here x t ts xs ys here there (inr h) = stands_later x t ts (there h)

-- the terms of a list, as Rattle keeps them
terms_among : {m : _} → Row_of-Term m → List Term
terms_among end_of-Term = []
terms_among (more_of-Term t r) = t ∷ terms_among r

shown_is : (a : List (this {0}).Shape) (r : Row_of-Term (arity (the_former (this {0})) a)) → shown a r ≡ terms_among r
unfolding terms_among shown denote.Hole.Carrier.shown
shown_is [] end_of-Term = refl
shown_is (b ∷ a) (more_of-Term t r) = ap (λ l. t ∷ l) (shown_is a r)

argument_is : (s : Symbol) (a : _) (r : Row_of-Term (arity (the_former (this {0})) a)) (i : ℕ) → argument (out-Term (App' s a r)) i ≡ slice_get (terms_among r) i
unfolding out-Term denote.Hole.Carrier.out
argument_is s a r i = ap (λ l. slice_get l i) (shown_is a r)

no_argument : (y i : ℕ) → argument (out-Term (Var y)) i ≡ None
unfolding out-Term denote.Hole.Carrier.out
no_argument y i = refl

nothing : {A B : Type 0} {x : A} → ◌≡◌ {A = Option A} None (Some x) → B
nothing e = absurd (false≢true (ap is_some e))

mutual
  unfolding variables_in variables_among terms_among

  -- what is among the variables of a term stands in it
  pub stands : (x : ℕ) (t : Term) → Has x (variables_in t) → OccursIn x t
  stands x (Var y) (inl e) = ([], ap (λ z. Some (Var z)) e)
  stands x (Var y) (inr h) = absurd h
  stands x (App' s a r) h =
      let q = stands_among x r h in
      (q.0 ∷ q.3.0, ap (λ o. option_and_then {T = Term} {U = Term} (λ u. subterm u q.3.0) o) (argument_is s a r q.0 ∙ q.2) ∙ q.3.1)

  stands_among : (x : ℕ) {m : _} (r : Row_of-Term m) → Has x (variables_among r) → StandsIn x (terms_among r)
  stands_among x end_of-Term h = absurd h
  stands_among x (more_of-Term t r) h =
      stands_here x t (terms_among r) (variables_in t) (variables_among r) (λ k. stands x t k) (λ k. stands_among x r k) (has_parts x (variables_in t) (variables_among r) h)

some_is : {A : Type 0} {x y : A} → ◌≡◌ {A = Option A} (Some x) (Some y) → x ≡ y
some_is e = cc

-- the variables of one of the terms are among those of all
pub among : (x : ℕ) (ts : List Term) (i : ℕ) (t : Term) → slice_get ts i ≡ Some t → Has x (variables_in t) → Has x (flat_map variables_in ts)
among x [] i t at_i h = nothing at_i
among x (u ∷ ts) zero t at_i h = has_left x (variables_in u) (flat_map variables_in ts) (subst (λ (w : Term). Has x (variables_in w)) (sym (some_is at_i)) h)
among x (u ∷ ts) (suc i) t at_i h = has_right x (variables_in u) (flat_map variables_in ts) (among x ts i t at_i h)

variables_among_is : {m : _} (r : Row_of-Term m) → variables_among r ≡ flat_map variables_in (terms_among r)
unfolding variables_in variables_among terms_among
variables_among_is end_of-Term = refl
variables_among_is (more_of-Term t r) = ap (λ l. variables_in t ++ l) (variables_among_is r)

-- what stands in a term is among its variables
pub stood : (x : ℕ) (path : List ℕ) (t : Term) → subterm t path ≡ Some (Var x) → Has x (variables_in t)
unfolding variables_in
stood x [] t e = subst (λ (w : Term). Has x (variables_in w)) (sym (some_is e)) (inl refl)
stood x (i ∷ path) (Var y) e = nothing (sym (ap (λ o. option_and_then {T = Term} {U = Term} (λ u. subterm u path) o) (no_argument y i)) ∙ e)
stood x (i ∷ path) (App' s a r) e =
    by (λ u k. stood x path u k) (slice_get (terms_among r) i) refl (sym (ap (λ o. option_and_then {T = Term} {U = Term} (λ u. subterm u path) o) (argument_is s a r i)) ∙ e)
  where
    by : ((u : Term) → subterm u path ≡ Some (Var x) → Has x (variables_in u)) → (o : Option Term) → slice_get (terms_among r) i ≡ o
        → option_and_then {T = Term} {U = Term} (λ u. subterm u path) o ≡ Some (Var x) → Has x (variables_among r)
    by rest None is e = nothing e
    by rest (Some u) is e = subst (Has x) (sym (variables_among_is r)) (among x (terms_among r) i u is (rest u e))

-- and for a list of terms
pub stands_in_all : (x : ℕ) (ts : List Term) → Has x (flat_map variables_in ts) → StandsIn x ts
stands_in_all x [] h = absurd h
stands_in_all x (t ∷ ts) h =
    stands_here x t ts (variables_in t) (flat_map variables_in ts) (stands x t) (stands_in_all x ts) (has_parts x (variables_in t) (flat_map variables_in ts) h)

either : {A B C D : Type 0} → (A → C) → (B → D) → A ⊎ B → C ⊎ D
either f g (inl a) = inl (f a)
either f g (inr b) = inr (g b)

-- what is among the free occurrences is free
pub free_here : (x : ℕ) (f : Form) → Has x (free_occurrences f) → IsFreeIn x f
free_here x always h = absurd h
free_here x never h = absurd h
free_here x (equal t s) h = either (stands x t) (stands x s) (has_parts x (variables_in t) (variables_in s) h)
free_here x (differ t s) h = either (stands x t) (stands x s) (has_parts x (variables_in t) (variables_in s) h)
free_here x (finite t) h = stands x t h
free_here x (call p ts) h = stands_in_all x ts h
free_here x (win p k t) h = stands x t h
free_here x (no f) h = free_here x f h
free_here x (and f g) h = either (free_here x f) (free_here x g) (has_parts x (free_occurrences f) (free_occurrences g) h)
free_here x (or f g) h = either (free_here x f) (free_here x g) (has_parts x (free_occurrences f) (free_occurrences g) h)
free_here x (imp f g) h = either (free_here x f) (free_here x g) (has_parts x (free_occurrences f) (free_occurrences g) h)
free_here x (iff f g) h = either (free_here x f) (free_here x g) (has_parts x (free_occurrences f) (free_occurrences g) h)
free_here x (exists y f) h = let k = has_without x y (free_occurrences f) h in (k.0, free_here x f k.1)
free_here x (forall y f) h = let k = has_without x y (free_occurrences f) h in (k.0, free_here x f k.1)

-- what is free is among the free occurrences
pub free_there : (x : ℕ) (f : Form) → IsFreeIn x f → Has x (free_occurrences f)
free_there x always h = h
free_there x never h = h
free_there x (equal t s) h = has_joined x (variables_in t) (variables_in s) (either (λ o. stood x o.0 t o.1) (λ o. stood x o.0 s o.1) h)
free_there x (differ t s) h = has_joined x (variables_in t) (variables_in s) (either (λ o. stood x o.0 t o.1) (λ o. stood x o.0 s o.1) h)
free_there x (finite t) h = stood x h.0 t h.1
free_there x (call p ts) h = among x ts h.0 h.1 h.2 (stood x h.3.0 h.1 h.3.1)
free_there x (win p k t) h = stood x h.0 t h.1
free_there x (no f) h = free_there x f h
free_there x (and f g) h = has_joined x (free_occurrences f) (free_occurrences g) (either (free_there x f) (free_there x g) h)
free_there x (or f g) h = has_joined x (free_occurrences f) (free_occurrences g) (either (free_there x f) (free_there x g) h)
free_there x (imp f g) h = has_joined x (free_occurrences f) (free_occurrences g) (either (free_there x f) (free_there x g) h)
free_there x (iff f g) h = has_joined x (free_occurrences f) (free_occurrences g) (either (free_there x f) (free_there x g) h)
free_there x (exists y f) h = has_still x y (free_occurrences f) h.0 (free_there x f h.1)
free_there x (forall y f) h = has_still x y (free_occurrences f) h.0 (free_there x f h.1)

-- a variable is listed exactly where it is free
pub listed_free : (f : Form) (x : ℕ) → Contains (first_occurrences (free_occurrences f)) x ↔ IsFreeIn x f
listed_free f x = (
  λ c. free_here x f (has_first x (free_occurrences f) (from_contained x (first_occurrences (free_occurrences f)) c)),
  λ free. contained x (first_occurrences (free_occurrences f)) (first_has x (free_occurrences f) (free_there x f free)),
)
