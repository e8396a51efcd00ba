-- What holds of each symbol of a formula, as plain data.
use Rattle.std.specs.Prelude.{All, flat_map}
use Rattle.std.proofs.Common.{◌≡◌, ℕ, ◌+◌, List, [], ◌∷◌, ◌++◌, refl, sym, ap, subst, ◌∙◌}
use Rattle.std.proofs.lemmas.List.Elements.{All-nil, All-cons, All-head, All-tail, All-append}
use Rattle.tree_model.specs.declared.tree.Symbol.{Symbol}
use Rattle.tree_model.specs.Signatures.{Signature, IsRoot}
use Rattle.formula_ast.specs.declared.term.Term.{Term, Var, App', Row_of-Term, end_of-Term, more_of-Term}
use Rattle.formula_ast.specs.Forms.{Form}
use Rattle.flattening.specs.Plain.{PlainTerm, PlainTerms, variable, apply, no_terms, one_more, term_of, row_terms, terms_of, Plain, always, equal, finite, ask, no, and, exists, plain_of}
use Rattle.flattening.specs.Conditions.{count, TermFits, TermsFit, FormulaFits}
use Rattle.flattening.specs.Symbols.{number_among, symbols_in, symbols_among, form_symbols}
use Rattle.flattening.specs.SymbolLaws.{FormSymbolsFit}
use Rattle.flattening.proofs.EachItem.{all_left, all_right}
use Rattle.formula_ast.specs.Forms as form

abbrev mutual
  -- the symbols of a plain term
  plain_symbols : PlainTerm → List (Symbol × ℕ)
  plain_symbols (variable v) = []
  plain_symbols (apply symbol ts) = (symbol, count ts) ∷ plains_symbols ts

  plains_symbols : PlainTerms → List (Symbol × ℕ)
  plains_symbols no_terms = []
  plains_symbols (one_more t ts) = plain_symbols t ++ plains_symbols ts

number_is : {m : _} (r : Row_of-Term m) → number_among r ≡ count (row_terms r)
unfolding row_terms
number_is end_of-Term = refl
number_is (more_of-Term t r) = ap (λ n. 1 + n) (number_is r)

mutual
  unfolding symbols_in symbols_among term_of row_terms

  -- a term and its plain form have the same symbols
  plain_have : (t : Term) → symbols_in t ≡ plain_symbols (term_of t)
  plain_have (Var x) = refl
  plain_have (App' s a r) = ap (λ n. (s, n) ∷ symbols_among r) (number_is r) ∙ ap (λ l. (s, count (row_terms r)) ∷ l) (plains_have r)

  plains_have : {m : _} (r : Row_of-Term m) → symbols_among r ≡ plains_symbols (row_terms r)
  plains_have end_of-Term = refl
  plains_have (more_of-Term t r) = ap (λ l. l ++ symbols_among r) (plain_have t) ∙ ap (λ l. plain_symbols (term_of t) ++ l) (plains_have r)

module _ (P : Symbol × ℕ → Type 0) where
  abbrev mutual
    -- P holds of each symbol of the term
    pub TermEach : PlainTerm → Type 0
    TermEach (variable v) = Unit {0}
    TermEach (apply symbol ts) = P (symbol, count ts) × TermsEach ts

    pub TermsEach : PlainTerms → Type 0
    TermsEach no_terms = Unit {0}
    TermsEach (one_more t ts) = TermEach t × TermsEach ts

  -- and of the formula
  abbrev pub FormEach : Plain → Type 0
  FormEach always = Unit {0}
  FormEach (equal t s) = TermEach t × TermEach s
  FormEach (finite t) = TermEach t
  FormEach (ask key ts) = TermsEach ts
  FormEach (no f) = FormEach f
  FormEach (and f g) = FormEach f × FormEach g
  FormEach (exists x f) = FormEach f

  mutual
    term_each : (t : PlainTerm) → All P (plain_symbols t) → TermEach t
    term_each (variable v) all = tt
    term_each (apply s ts) all = (All-head P (s, count ts) (plains_symbols ts) all, terms_each ts (All-tail P (s, count ts) (plains_symbols ts) all))

    terms_each : (ts : PlainTerms) → All P (plains_symbols ts) → TermsEach ts
    terms_each no_terms all = tt
    terms_each (one_more t ts) all =
        (term_each t (all_left P (plain_symbols t) (plains_symbols ts) all), terms_each ts (all_right P (plain_symbols t) (plains_symbols ts) all))

  mutual
    each_term : (t : PlainTerm) → TermEach t → All P (plain_symbols t)
    each_term (variable v) each = All-nil P
    each_term (apply s ts) each = All-cons P (s, count ts) (plains_symbols ts) each.0 (each_terms ts each.1)

    each_terms : (ts : PlainTerms) → TermsEach ts → All P (plains_symbols ts)
    each_terms no_terms each = All-nil P
    each_terms (one_more t ts) each = All-append P (plain_symbols t) (plains_symbols ts) (each_term t each.0) (each_terms ts each.1)

  in_term : (t : Term) → All P (symbols_in t) → TermEach (term_of t)
  in_term t all = term_each (term_of t) (subst (λ (l : List (Symbol × ℕ)). All P l) (plain_have t) all)

  term_in : (t : Term) → TermEach (term_of t) → All P (symbols_in t)
  term_in t each = subst (λ (l : List (Symbol × ℕ)). All P l) (sym (plain_have t)) (each_term (term_of t) each)

  in_terms : (ts : List Term) → All P (flat_map symbols_in ts) → TermsEach (terms_of ts)
  in_terms [] all = tt
  in_terms (t ∷ ts) all =
      (in_term t (all_left P (symbols_in t) (flat_map symbols_in ts) all), in_terms ts (all_right P (symbols_in t) (flat_map symbols_in ts) all))

  terms_in : (ts : List Term) → TermsEach (terms_of ts) → All P (flat_map symbols_in ts)
  terms_in [] each = All-nil P
  terms_in (t ∷ ts) each = All-append P (symbols_in t) (flat_map symbols_in ts) (term_in t each.0) (terms_in ts each.1)

  two_in : (t s : Term) → All P (symbols_in t ++ symbols_in s) → TermEach (term_of t) × TermEach (term_of s)
  two_in t s all = (in_term t (all_left P (symbols_in t) (symbols_in s) all), in_term s (all_right P (symbols_in t) (symbols_in s) all))

  both_each : {A B : Type 0} (xs ys : List (Symbol × ℕ)) → All P (xs ++ ys) → (All P xs → A) → (All P ys → B) → A × B
  both_each xs ys all first second = (first (all_left P xs ys all), second (all_right P xs ys all))

  -- what holds of each symbol of a formula holds of each in its plain form
  pub form_each : (f : Form) → All P (form_symbols f) → FormEach (plain_of f)
  form_each form.always all = tt
  form_each form.never all = tt
  form_each (form.equal t s) all = two_in t s all
  form_each (form.differ t s) all = two_in t s all
  form_each (form.finite t) all = in_term t all
  form_each (form.call p ts) all = in_terms ts all
  form_each (form.win p k t) all = (in_term t all, tt)
  form_each (form.no f) all = form_each f all
  form_each (form.and f g) all = both_each (form_symbols f) (form_symbols g) all (form_each f) (form_each g)
  form_each (form.or f g) all = both_each (form_symbols f) (form_symbols g) all (form_each f) (form_each g)
  form_each (form.imp f g) all = both_each (form_symbols f) (form_symbols g) all (form_each f) (form_each g)
  form_each (form.iff f g) all = let both = both_each (form_symbols f) (form_symbols g) all (form_each f) (form_each g) in (both, (both.1, both.0))
  form_each (form.exists x f) all = form_each f all
  form_each (form.forall x f) all = form_each f all

  pub each_form : (f : Form) → FormEach (plain_of f) → All P (form_symbols f)
  each_form form.always each = All-nil P
  each_form form.never each = All-nil P
  each_form (form.equal t s) each = All-append P (symbols_in t) (symbols_in s) (term_in t each.0) (term_in s each.1)
  each_form (form.differ t s) each = All-append P (symbols_in t) (symbols_in s) (term_in t each.0) (term_in s each.1)
  each_form (form.finite t) each = term_in t each
  each_form (form.call p ts) each = terms_in ts each
  each_form (form.win p k t) each = term_in t each.0
  each_form (form.no f) each = each_form f each
  each_form (form.and f g) each = All-append P (form_symbols f) (form_symbols g) (each_form f each.0) (each_form g each.1)
  each_form (form.or f g) each = All-append P (form_symbols f) (form_symbols g) (each_form f each.0) (each_form g each.1)
  each_form (form.imp f g) each = All-append P (form_symbols f) (form_symbols g) (each_form f each.0) (each_form g each.1)
  each_form (form.iff f g) each = All-append P (form_symbols f) (form_symbols g) (each_form f each.0.0) (each_form g each.0.1)
  each_form (form.exists x f) each = each_form f each
  each_form (form.forall x f) each = each_form f each

-- formulas that fit a signature

module _ (σ : Signature) where
  abbrev Root : Symbol × ℕ → Type 0
  Root p = IsRoot σ p.0 p.1

  mutual
    term_roots : (t : PlainTerm) → TermFits σ t → TermEach Root t
    term_roots (variable v) fits = tt
    term_roots (apply s ts) fits = (fits.0, terms_roots ts fits.1)

    terms_roots : (ts : PlainTerms) → TermsFit σ ts → TermsEach Root ts
    terms_roots no_terms fits = tt
    terms_roots (one_more t ts) fits = (term_roots t fits.0, terms_roots ts fits.1)

  formula_roots : (f : Plain) → FormulaFits σ f → FormEach Root f
  formula_roots always fits = tt
  formula_roots (equal t s) fits = (term_roots t fits.0, term_roots s fits.1)
  formula_roots (finite t) fits = term_roots t fits
  formula_roots (ask key ts) fits = terms_roots ts fits
  formula_roots (no f) fits = formula_roots f fits
  formula_roots (and f g) fits = (formula_roots f fits.0, formula_roots g fits.1)
  formula_roots (exists x f) fits = formula_roots f fits

pub symbols_fit : FormSymbolsFit
symbols_fit σ f fits = each_form (Root σ) f (formula_roots σ (plain_of f) fits)
