-- To be well formed is stable; calls of the first predicates; the empty file.
use Rattle.std.proofs.Common.{◌≡◌, ℕ, zero, suc, ◌<◌, ◌≤◌, ◌⊎◌, inl, inr, Bool, true, false, List, [], ◌∷◌, take, length, Option, Some, None, refl, arith}
use Rattle.std.specs.Prelude.{All, IfSome}
use Rattle.std.specs.Coded.{coded_list, coded_option, coded×, coded_ℕ}
use Rattle.classical.specs.Classical.{IsStable}
use Rattle.classical.proofs.Codes.{coded_stable, nat_stable}
use Rattle.classical.proofs.Stable.{all_stable, imp_stable, and_stable, unit_stable}
use Rattle.tree_model.specs.declared.kind.Kind.{Kind}
use Rattle.tree_model.specs.Signatures.{Signature, declared_at}
use Rattle.tree_model.proofs.Stability.{root_stable, kind_code}
use Rattle.formula_ast.specs.declared.file.File.{File}
use Rattle.formula_ast.specs.declared.formula.Formula.{Formula}
use Rattle.formula_ast.specs.declared.pred.Pred.{Pred}
use Rattle.formula_ast.specs.declared.term.Term.{Term}
use Rattle.formula_ast.specs.declared.term.Terms.{Terms}
use Rattle.formula_ast.specs.declared.term.Term.TheOpen.{Term-F}
use Rattle.formula_ast.specs.declared.term.Term.TheOpen as layer
use Rattle.formula_ast.specs.declared.term.Term.TheViews.{out-Term}
use Rattle.formula_ast.specs.declared.token.TokenKind.{TokenKind}
use Rattle.formula_ast.specs.declared.token.TokenKind.TheVariants as word
use Rattle.formula_ast.specs.Forms.{Form, form_of, always, never, equal, differ, finite, call, win, no, and, or, imp, iff, exists, forall}
use Rattle.formula_ast.specs.Terms.{list_of, subterm}
use Rattle.formula_ast.specs.Tokens.{kind_of}
use Rattle.formula_ast.specs.WellFormed.{AreDistinct, LayerOver, TermOver, FormOver, IsNamedOver, IsPredOver, IsWellFormed}

below_or_not : (m n : ℕ) → (m < n) ⊎ (¬ (m < n))
below_or_not m n = grind arith

below_stable : (m n : ℕ) → IsStable (m < n)
below_stable m n = step (below_or_not m n)
  where
    step : (m < n) ⊎ (¬ (m < n)) → IsStable (m < n)
    step (inl h) = record { holds = λ k. h }
    step (inr h) = record { holds = λ k. absurd (k h) }

within_or_not : (m n : ℕ) → (m ≤ n) ⊎ (¬ (m ≤ n))
within_or_not m n = grind arith

within_stable : (m n : ℕ) → IsStable (m ≤ n)
within_stable m n = step (within_or_not m n)
  where
    step : (m ≤ n) ⊎ (¬ (m ≤ n)) → IsStable (m ≤ n)
    step (inl h) = record { holds = λ k. h }
    step (inr h) = record { holds = λ k. absurd (k h) }

abbrev is_name : Option TokenKind → Bool
is_name (Some word.Name) = true
is_name _ = false

name_from : (o : Option TokenKind) → is_name o ≡ true → o ≡ Some word.Name
name_from (Some word.Name) h = refl
name_from _ h = absurd (cc)

name_stable : (o : Option TokenKind) → IsStable (o ≡ Some word.Name)
name_stable o = step (is_name o) refl
  where
    step : (x : Bool) → is_name o ≡ x → IsStable (o ≡ Some word.Name)
    step true h = record { holds = λ k. name_from o h }
    step false h = record { holds = λ k. absurd (k (λ e. let t : is_name o ≡ true = rw e refl in cc)) }

abbrev is_variable : Option TokenKind → Bool
is_variable (Some word.Variable) = true
is_variable _ = false

variable_from : (o : Option TokenKind) → is_variable o ≡ true → o ≡ Some word.Variable
variable_from (Some word.Variable) h = refl
variable_from _ h = absurd (cc)

variable_stable : (o : Option TokenKind) → IsStable (o ≡ Some word.Variable)
variable_stable o = step (is_variable o) refl
  where
    step : (x : Bool) → is_variable o ≡ x → IsStable (o ≡ Some word.Variable)
    step true h = record { holds = λ k. variable_from o h }
    step false h = record { holds = λ k. absurd (k (λ e. let t : is_variable o ≡ true = rw e refl in cc)) }

declared_stable : (a b : Option (Kind × ℕ)) → IsStable (a ≡ b)
declared_stable = coded_stable (coded_option (coded× kind_code coded_ℕ))

each_stable : {A : Type 0} {P : A → Type 0} → ((x : A) → IsStable (P x)) → (xs : List A) → IsStable (All P xs)
each_stable s xs = all_stable (λ i. all_stable (λ d. imp_stable (s _)))

layer_stable : (σ : Signature) (n : ℕ) (l : Term-F Term Terms) → IsStable (LayerOver σ n l)
layer_stable σ n (layer.Var v) = below_stable v n
layer_stable σ n (layer.App s ts) = and_stable (root_stable σ s (length (list_of ts))) (within_stable (length (list_of ts)) 8)

if_stable : {A : Type 0} {P : A → Type 0} → ((x : A) → IsStable (P x)) → (o : Option A) → IsStable (IfSome o P)
if_stable s None = unit_stable
if_stable s (Some x) = s x

term_stable : (σ : Signature) (n : ℕ) (t : Term) → IsStable (TermOver σ n t)
term_stable σ n t = all_stable (λ path. if_stable (λ u. layer_stable σ n (out-Term u)) (subterm t path))

pub form_stable : (σ callable : Signature) (n : ℕ) (f : Form) → IsStable (FormOver σ callable n f)
form_stable σ callable n always = unit_stable
form_stable σ callable n never = unit_stable
form_stable σ callable n (equal t s) = and_stable (term_stable σ n t) (term_stable σ n s)
form_stable σ callable n (differ t s) = and_stable (term_stable σ n t) (term_stable σ n s)
form_stable σ callable n (finite t) = term_stable σ n t
form_stable σ callable n (call p ts) = and_stable (declared_stable _ _) (each_stable (term_stable σ n) ts)
form_stable σ callable n (win p k t) = and_stable (declared_stable _ _) (term_stable σ n t)
form_stable σ callable n (no f) = form_stable σ callable n f
form_stable σ callable n (and f g) = and_stable (form_stable σ callable n f) (form_stable σ callable n g)
form_stable σ callable n (or f g) = and_stable (form_stable σ callable n f) (form_stable σ callable n g)
form_stable σ callable n (imp f g) = and_stable (form_stable σ callable n f) (form_stable σ callable n g)
form_stable σ callable n (iff f g) = and_stable (form_stable σ callable n f) (form_stable σ callable n g)
form_stable σ callable n (exists x f) = and_stable (below_stable x n) (form_stable σ callable n f)
form_stable σ callable n (forall x f) = and_stable (below_stable x n) (form_stable σ callable n f)

distinct_stable : (texts : List (List ℕ)) → IsStable (AreDistinct texts)
distinct_stable texts = all_stable (λ text. all_stable (λ i. all_stable (λ j. imp_stable (imp_stable (nat_stable i j)))))

pub named_stable : (σ callable : Signature) (names : List (List ℕ)) (f : Formula) → IsStable (IsNamedOver σ callable names f)
named_stable σ callable names f = record {
  holds = λ k. record {
    words = (each_stable (λ text. variable_stable (kind_of text)) names).holds (λ n. k (λ r. n r.words));
    distinct = (distinct_stable names).holds (λ n. k (λ r. n r.distinct));
    formula = (form_stable σ callable (length names) (form_of f)).holds (λ n. k (λ r. n r.formula));
  };
}

pub pred_stable : (σ : Signature) (pred : Pred) → IsStable (IsPredOver σ pred)
pred_stable σ pred = record {
  holds = λ k. record {
    body = (named_stable σ (take pred.place σ) pred.names pred.body).holds (λ n. k (λ r. n r.body));
    params = (within_stable pred.params (length pred.names)).holds (λ n. k (λ r. n r.params));
    closed = λ x free. (below_stable x pred.params).holds (λ n. k (λ r. n (r.closed x free)));
  };
}

pub file_stable : (file : File) → IsStable (IsWellFormed file)
file_stable file = record {
  holds = λ k. record {
    words = (each_stable (λ text. name_stable (kind_of text)) _).holds (λ n. k (λ r. n r.words));
    distinct = λ name i j at_i at_j. (nat_stable i j).holds (λ n. k (λ r. n (r.distinct name i j at_i at_j)));
    declared = (coded_stable (coded_list (coded× coded_ℕ coded_ℕ)) _ _).holds (λ n. k (λ r. n r.declared));
    preds = (each_stable (pred_stable file.signature) file.preds).holds (λ n. k (λ r. n r.preds));
    solves = (each_stable (λ s. named_stable file.signature file.signature s.names s.body) file.solves).holds (λ n. k (λ r. n r.solves));
  };
}

-- what is declared in the first entries is declared
still_declared : (σ : Signature) (n p : ℕ) (d : Kind × ℕ) → declared_at (take n σ) p ≡ Some d → declared_at σ p ≡ Some d
still_declared [] zero p d e = e
still_declared [] (suc n) p d e = e
still_declared (entry ∷ σ) zero p d e = absurd (cc)
still_declared (entry ∷ σ) (suc n) zero d e = e
still_declared (entry ∷ σ) (suc n) (suc p) d e = still_declared σ n p d e

pub front_over : (σ : Signature) (place n : ℕ) (f : Form) → FormOver σ (take place σ) n f → FormOver σ σ n f
front_over σ place n always h = tt
front_over σ place n never h = tt
front_over σ place n (equal t s) h = h
front_over σ place n (differ t s) h = h
front_over σ place n (finite t) h = h
front_over σ place n (call p ts) h = (still_declared σ place p _ h.0, h.1)
front_over σ place n (win p k t) h = (still_declared σ place p _ h.0, h.1)
front_over σ place n (no f) h = front_over σ place n f h
front_over σ place n (and f g) h = (front_over σ place n f h.0, front_over σ place n g h.1)
front_over σ place n (or f g) h = (front_over σ place n f h.0, front_over σ place n g h.1)
front_over σ place n (imp f g) h = (front_over σ place n f h.0, front_over σ place n g h.1)
front_over σ place n (iff f g) h = (front_over σ place n f h.0, front_over σ place n g h.1)
front_over σ place n (exists x f) h = (h.0, front_over σ place n f h.1)
front_over σ place n (forall x f) h = (h.0, front_over σ place n f h.1)

pub empty_formed : (file : File) → file.signature ≡ [] → file.preds ≡ [] → file.solves ≡ [] → IsWellFormed file
empty_formed file no_names no_preds no_solves = record {
  words = rw no_names (λ i d w. absurd (omega arith));
  distinct = rw no_names (λ name i j at_i at_j. absurd (cc));
  declared = rw (no_preds, no_names) refl;
  preds = rw no_preds (λ i d w. absurd (omega arith));
  solves = rw no_solves (λ i d w. absurd (omega arith));
}
