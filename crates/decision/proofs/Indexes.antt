-- The indexes of the further symbols of a formula are listed.
use Rattle.std.proofs.Common.{◌≡◌, ℕ, List, [], ◌∷◌, ◌++◌, refl, inl}
use Rattle.std.specs.Prelude.{All, Contains, flat_map}
use Rattle.std.proofs.lemmas.List.Elements.{All-nil, All-cons, All-append, All-weaker, All-contains}
use Rattle.tree_model.specs.declared.tree.Symbol.{Symbol}
use Rattle.tree_model.specs.declared.tree.Symbol.TheVariants.{Named, Further}
use Rattle.formula_ast.specs.declared.term.Term.{Term, Var, App', Row_of-Term, end_of-Term, more_of-Term}
use Rattle.formula_ast.specs.Forms.{Form, always, never, equal, differ, finite, call, win, no, and, or, imp, iff, exists, forall}
use Rattle.formula_ast.specs.Occurrences.{index_of, indexes_in, indexes_among, index_occurrences}
use Rattle.formula_ast.proofs.Standing.{Has, contained, has_left, has_right}
use Rattle.flattening.specs.Symbols.{number_among, symbols_in, symbols_among, form_symbols}

-- a further symbol's index is among these
abbrev Listed : List ℕ → Symbol × ℕ → Type 0
Listed xs p = (k : ℕ) → p.0 ≡ Further k → Has k xs

-- each of both lists of symbols is listed where the lists of indexes are joined
joined : (xs ys : List ℕ) (ps qs : List (Symbol × ℕ)) → All (Listed xs) ps → All (Listed ys) qs → All (Listed (xs ++ ys)) (ps ++ qs)
joined xs ys ps qs first second =
    All-append (Listed (xs ++ ys)) ps qs
    (All-weaker (Listed xs) (Listed (xs ++ ys)) (λ p h k is. has_left k xs ys (h k is)) ps first)
    (All-weaker (Listed ys) (Listed (xs ++ ys)) (λ p h k is. has_right k xs ys (h k is)) qs second)

own : (s : Symbol) (n : ℕ) → Listed (index_of s) (s, n)
own (Named i) n k is = absurd (cc)
own (Further j) n k is = inl cc

mutual
  unfolding symbols_in symbols_among indexes_in indexes_among

  in_term : (t : Term) → All (Listed (indexes_in t)) (symbols_in t)
  in_term (Var x) = All-nil (Listed [])
  in_term (App' s a r) =
      joined (index_of s) (indexes_among r) ((s, number_among r) ∷ []) (symbols_among r)
      (All-cons (Listed (index_of s)) (s, number_among r) [] (own s (number_among r)) (All-nil (Listed (index_of s)))) (in_row r)

  in_row : {m : _} (r : Row_of-Term m) → All (Listed (indexes_among r)) (symbols_among r)
  in_row end_of-Term = All-nil (Listed [])
  in_row (more_of-Term t r) = joined (indexes_in t) (indexes_among r) (symbols_in t) (symbols_among r) (in_term t) (in_row r)

in_terms : (ts : List Term) → All (Listed (flat_map indexes_in ts)) (flat_map symbols_in ts)
in_terms [] = All-nil (Listed [])
in_terms (t ∷ ts) = joined (indexes_in t) (flat_map indexes_in ts) (symbols_in t) (flat_map symbols_in ts) (in_term t) (in_terms ts)

two : (t s : Term) → All (Listed (indexes_in t ++ indexes_in s)) (symbols_in t ++ symbols_in s)
two t s = joined (indexes_in t) (indexes_in s) (symbols_in t) (symbols_in s) (in_term t) (in_term s)

both : (f g : Form) → All (Listed (index_occurrences f)) (form_symbols f) → All (Listed (index_occurrences g)) (form_symbols g)
    → All (Listed (index_occurrences f ++ index_occurrences g)) (form_symbols f ++ form_symbols g)
both f g = joined (index_occurrences f) (index_occurrences g) (form_symbols f) (form_symbols g)

in_form : (f : Form) → All (Listed (index_occurrences f)) (form_symbols f)
in_form always = All-nil (Listed [])
in_form never = All-nil (Listed [])
in_form (equal t s) = two t s
in_form (differ t s) = two t s
in_form (finite t) = in_term t
in_form (call p ts) = in_terms ts
in_form (win p k t) = in_term t
in_form (no f) = in_form f
in_form (and f g) = both f g (in_form f) (in_form g)
in_form (or f g) = both f g (in_form f) (in_form g)
in_form (imp f g) = both f g (in_form f) (in_form g)
in_form (iff f g) = both f g (in_form f) (in_form g)
in_form (exists x f) = in_form f
in_form (forall x f) = in_form f

pub indexes_listed : (f : Form) (k n : ℕ) → Contains (form_symbols f) (Further k, n) → Contains (index_occurrences f) k
indexes_listed f k n c = contained k (index_occurrences f) (All-contains (Listed (index_occurrences f)) (form_symbols f) (Further k, n) (in_form f) c k refl)
