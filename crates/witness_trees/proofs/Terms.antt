-- What the atom of a variable in an ascending list says of it.
use Rattle.std.proofs.Common.{◌≡◌, ◌==◌, ℕ, zero, suc, Bool, true, false, cond, List, [], ◌∷◌, refl, sym, ap, subst, ◌∙◌, ◌⊎◌, inl, inr, arith}
use Rattle.std.specs.Prelude.{Contains}
use Rattle.std.specs.List.{list_any}
use Rattle.std.proofs.lemmas.Bool.{eqb-true, eqb-false, false≢true}
use Rattle.std.proofs.lemmas.List.Folds.{list_any_at, list_any_none}
use Rattle.std.proofs.lemmas.List.Elements.{All-weaker}
use Rattle.tree_model.specs.declared.tree.Node.{Node}
use Rattle.tree_model.specs.declared.tree.Symbol.{Symbol}
use Rattle.flat_form.specs.declared.atom.Flat.{Flat}
use Rattle.flat_form.specs.declared.atom.Flat.TheVariants.{VarVar, VarTerm, Finite}
use Rattle.flat_form.specs.Solved.{Ascends, variable_of}
use Rattle.flat_facts.proofs.Lists.{one_each}
use Rattle.witness_trees.specs.Fresh.{defines, marks, representative, term_or}
use Rattle.witness_trees.proofs.Occurring.{contained_all}

-- ---- tests of all atoms

pub not_true : (b : Bool) → (b ≡ true → ⊥) → b ≡ false
not_true true no_way = absurd (no_way refl)
not_true false no_way = refl

pub any_in : {A : Type 0} (p : A → Bool) (xs : List A) (x : A) → Contains xs x → p x ≡ true → list_any p xs ≡ true
any_in p xs x c e = list_any_at p xs c.0 x c.1 (subst (λ y. p y ≡ true) (sym c.2) e)

pub none_in : {A : Type 0} (p : A → Bool) (xs : List A) → ((x : A) → Contains xs x → p x ≡ true → ⊥) → list_any p xs ≡ false
none_in p xs each = list_any_none p xs (All-weaker (Contains xs) (λ x. p x ≡ false) (λ x c. not_true (p x) (each x c)) xs (contained_all xs))

-- a test that v's atom alone may pass
module _ (v : ℕ) (p : Flat → Bool) (tells : (x : Flat) → p x ≡ true → variable_of x ≡ v) (basic : List Flat) where
  pub only_at : Ascends basic → (a : Flat) → Contains basic a → variable_of a ≡ v → list_any p basic ≡ p a
  only_at up a there at_v = by (p a) refl
    where
      by : (b : Bool) → p a ≡ b → list_any p basic ≡ b
      by true e = any_in p basic a there e
      by false e = none_in p basic (λ x c t. false≢true (sym e ∙ subst (λ y. p y ≡ true) (one_each basic up x a c there (tells x t ∙ sym at_v)) t))

  pub none_at : ((a : Flat) → Contains basic a → ¬ (variable_of a ≡ v)) → list_any p basic ≡ false
  none_at none = none_in p basic (λ x c t. none x c (tells x t))

pub defines_tells : (v : ℕ) (x : Flat) → defines v x ≡ true → variable_of x ≡ v
defines_tells v (VarVar u r) t = eqb-true u v t
defines_tells v (VarTerm u s xs) t = eqb-true u v t
defines_tells v (Finite u) t = absurd (false≢true t)

pub marks_tells : (v : ℕ) (x : Flat) → marks v x ≡ true → variable_of x ≡ v
marks_tells v (VarVar u r) t = absurd (false≢true t)
marks_tells v (VarTerm u s xs) t = absurd (false≢true t)
marks_tells v (Finite u) t = eqb-true u v t

-- ---- what a variable equals

later : (x y : Flat) (xs : List Flat) → Contains xs x → Contains (y ∷ xs) x
later x y xs (i, less, is) = (suc i, omega (arith, less), is)

-- a variable stands for itself, or an equation says for what
own_or_said : (basic : List Flat) (v : ℕ) → (representative basic v ≡ v) ⊎ Contains basic (VarVar v (representative basic v))
own_or_said [] v = inl refl
own_or_said (VarVar u r ∷ rest) v = by (own_or_said rest v) (u == v) refl
  where
    by : (representative rest v ≡ v) ⊎ Contains rest (VarVar v (representative rest v)) → (b : Bool) → (u == v) ≡ b
        → (cond b r (representative rest v) ≡ v) ⊎ Contains (VarVar u r ∷ rest) (VarVar v (cond b r (representative rest v)))
    by more true is = inr (0, omega arith, ap (λ w. VarVar w r) (eqb-true u v is))
    by (inl own) false is = inl own
    by (inr said) false is = inr (later (VarVar v (representative rest v)) (VarVar u r) rest said)
own_or_said (VarTerm u s xs ∷ rest) v = by (own_or_said rest v)
  where
    by : (representative rest v ≡ v) ⊎ Contains rest (VarVar v (representative rest v)) → (representative rest v ≡ v) ⊎ Contains (VarTerm u s xs ∷ rest) (VarVar v (representative rest v))
    by (inl own) = inl own
    by (inr said) = inr (later (VarVar v (representative rest v)) (VarTerm u s xs) rest said)
own_or_said (Finite u ∷ rest) v = by (own_or_said rest v)
  where
    by : (representative rest v ≡ v) ⊎ Contains rest (VarVar v (representative rest v)) → (representative rest v ≡ v) ⊎ Contains (Finite u ∷ rest) (VarVar v (representative rest v))
    by (inl own) = inl own
    by (inr said) = inr (later (VarVar v (representative rest v)) (Finite u) rest said)

pub own : (basic : List Flat) (v : ℕ) → ((r : ℕ) → ¬ Contains basic (VarVar v r)) → representative basic v ≡ v
own basic v none = elim (own_or_said basic v) [ inl is ↦ is | inr said ↦ absurd (none (representative basic v) said) ]

not_term : {u r w : ℕ} {s : Symbol} {xs : List ℕ} → ¬ (VarVar u r ≡ VarTerm w s xs)
not_term = λ e. cc e

not_finite : {u r w : ℕ} → ¬ (VarVar u r ≡ Finite w)
not_finite = λ e. cc e

pub term_own : (basic : List Flat) → Ascends basic → (u : ℕ) (s : Symbol) (xs : List ℕ) → Contains basic (VarTerm u s xs) → representative basic u ≡ u
term_own basic up u s xs c = own basic u (λ r said. not_term (one_each basic up (VarVar u r) (VarTerm u s xs) said c refl))

pub finite_own : (basic : List Flat) → Ascends basic → (u : ℕ) → Contains basic (Finite u) → representative basic u ≡ u
finite_own basic up u c = own basic u (λ r said. not_finite (one_each basic up (VarVar u r) (Finite u) said c refl))

pub none_own : (basic : List Flat) (v : ℕ) → ((a : Flat) → Contains basic a → ¬ (variable_of a ≡ v)) → representative basic v ≡ v
none_own basic v none = own basic v (λ r said. none (VarVar v r) said refl)

variable_same : {u r w s : ℕ} → VarVar u r ≡ VarVar w s → r ≡ s
variable_same e = cc

pub said_is : (basic : List Flat) → Ascends basic → (u r : ℕ) → Contains basic (VarVar u r) → representative basic u ≡ r
said_is [] up u r c = absurd (omega (arith, c.1))
said_is (VarVar v s ∷ rest) up u r c = by (said_is rest up.1 u r) (v == u) refl c
  where
    by : (Contains rest (VarVar u r) → representative rest u ≡ r) → (b : Bool) → (v == u) ≡ b → Contains (VarVar v s ∷ rest) (VarVar u r) → cond b s (representative rest u) ≡ r
    by more true is c = variable_same (one_each (VarVar v s ∷ rest) up (VarVar v s) (VarVar u r) (0, omega arith, refl) c (eqb-true v u is))
    by more false is (zero, w, e) = absurd (eqb-false v u is (ap variable_of e))
    by more false is (suc i, w, e) = more (i, omega (arith, w), e)
said_is (VarTerm v s xs ∷ rest) up u r (zero, w, e) = absurd (cc)
said_is (VarTerm v s xs ∷ rest) up u r (suc i, w, e) = said_is rest up.1 u r (i, omega (arith, w), e)
said_is (Finite v ∷ rest) up u r (zero, w, e) = absurd (cc)
said_is (Finite v ∷ rest) up u r (suc i, w, e) = said_is rest up.1 u r (i, omega (arith, w), e)

-- ---- the term of a variable

abbrev pub term : Symbol → List ℕ → Node
term s xs = record { symbol = s; children = xs }

same_term : {v u : ℕ} {t s : Symbol} {ys xs : List ℕ} → VarTerm v t ys ≡ VarTerm u s xs → term t ys ≡ term s xs
same_term e = let p : _ = e in cc

pub term_found : (basic : List Flat) → Ascends basic → (u : ℕ) (s : Symbol) (xs : List ℕ) (other : Node) → Contains basic (VarTerm u s xs) → term_or basic u other ≡ term s xs
term_found [] up u s xs other c = absurd (omega (arith, c.1))
term_found (VarVar v r ∷ rest) up u s xs other (zero, w, is) = absurd (not_term is)
term_found (VarVar v r ∷ rest) up u s xs other (suc i, w, is) = term_found rest up.1 u s xs other (i, omega (arith, w), is)
term_found (VarTerm v t ys ∷ rest) up u s xs other c = by (term_found rest up.1 u s xs other) (v == u) refl c
  where
    by : (Contains rest (VarTerm u s xs) → term_or rest u other ≡ term s xs) → (b : Bool) → (v == u) ≡ b → Contains (VarTerm v t ys ∷ rest) (VarTerm u s xs)
        → cond b (term t ys) (term_or rest u other) ≡ term s xs
    by more true is c = same_term (one_each (VarTerm v t ys ∷ rest) up (VarTerm v t ys) (VarTerm u s xs) (0, omega arith, refl) c (eqb-true v u is))
    by more false is (zero, w, e) = absurd (eqb-false v u is (ap variable_of e))
    by more false is (suc i, w, e) = more (i, omega (arith, w), e)
term_found (Finite v ∷ rest) up u s xs other (zero, w, is) = absurd (cc)
term_found (Finite v ∷ rest) up u s xs other (suc i, w, is) = term_found rest up.1 u s xs other (i, omega (arith, w), is)

pub term_none : (basic : List Flat) (v : ℕ) (other : Node) → ((s : Symbol) (xs : List ℕ) → ¬ Contains basic (VarTerm v s xs)) → term_or basic v other ≡ other
term_none [] v other none = refl
term_none (VarVar u r ∷ rest) v other none = term_none rest v other (λ s xs c. none s xs (later (VarTerm v s xs) (VarVar u r) rest c))
term_none (Finite u ∷ rest) v other none = term_none rest v other (λ s xs c. none s xs (later (VarTerm v s xs) (Finite u) rest c))
term_none (VarTerm u t ys ∷ rest) v other none = by (term_none rest v other (λ s xs c. none s xs (later (VarTerm v s xs) (VarTerm u t ys) rest c))) (u == v) refl
  where
    by : term_or rest v other ≡ other → (b : Bool) → (u == v) ≡ b → cond b (term t ys) (term_or rest v other) ≡ other
    by more true is = absurd (none t ys (0, omega arith, ap (λ w. VarTerm w t ys) (eqb-true u v is)))
    by more false is = more
